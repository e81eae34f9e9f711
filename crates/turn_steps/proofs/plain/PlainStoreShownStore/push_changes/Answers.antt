use Rattle.std.proofs.Common.{arith, refl, sym, ◌∙◌}
use Rattle.violations.specs.Plain.{PlainView, store_view}
use Rattle.violations.specs.View.{StoreView}
use Rattle.turn_steps.specs.Kept.{IsKeptBut, ShowsKept}
use Rattle.turn_steps.specs.KeptCores.{AreKept, kept_in}
use Rattle.turn_steps.specs.Laws.{KeepsRows}
use Rattle.turn_steps.proofs.PlainCores.{kept_but, more_cores, no_cores, shown_below, shows_still}
use Rattle.turn_steps.proofs.plain.PlainStoreShownStore.push_changes.Goals as goal

pub loop-core-init : goal.loop-core-init
loop-core-init c = record {
  size = refl;
  long = refl;
  others = λ k le. refl;
  text = λ old are keeps. no_cores c.args.text.now.items (store_view old) (store_view c.args.self.now);
  shown = λ old are keeps k less. absurd (omega (arith, less));
}

pub overflow_cast-core : goal.overflow_cast-core
overflow_cast-core c = omega (arith, c.requires.few, c.loop-core.invariant.long, c.loop-core-test.true, c.len-core-end.ensures, c.loop-core.auto.core-end)

pub loop-core-preserved : goal.loop-core-preserved
loop-core-preserved c =
    let w : StoreView = store_view c.args.self.now in
    let but : (old : PlainView) → AreKept c.args.shown.now.size c.args.shown.now.cores.items old → KeepsRows (store_view old) w c.args._core c.args.added.now
    → IsKeptBut c.add_touched_rows.new.rows (store_view old) w c.loop-core.core
    = λ old are keeps. kept_but c.new-rows.result c.add_touched_rows.new.rows c.args.added.now (store_view old) w c.args._core c.loop-core.core
    (sym c.requires.size_is ∙ are.size_is) c.in_ok-add_touched_rows.ensures keeps in
    let shows : (old : PlainView) → AreKept c.args.shown.now.size c.args.shown.now.cores.items old → ShowsKept (store_view old) c.loop-core.core (kept_in c.loop-core.shown.cores.items c.loop-core.core)
    = λ old are. shows_still (store_view old) c.loop-core.core c.args.shown.now.cores.items c.loop-core.shown.cores.items (c.loop-core.invariant.others c.loop-core.core (omega arith))
    (are.each c.loop-core.core (omega (arith, c.loop-core.invariant.long, c.loop-core-test.true, c.len-core-end.ensures))) in
    record {
      size = c.loop-core.invariant.size;
      long = c.in_ok-push_core.ensures.long ∙ c.loop-core.invariant.long;
      others = λ k le. c.in_ok-push_core.ensures.others k (omega (arith, le)) ∙ c.loop-core.invariant.others k (omega (arith, le));
      text = λ old are keeps. more_cores (store_view old) w c.loop-core.core c.args.text.now.items c.loop-core.text.items c.push_core.new.text.items
          (c.loop-core.invariant.text old are keeps) (c.in_ok-push_core.ensures.text (store_view old) (shows old are) (but old are keeps));
      shown = λ old are keeps. shown_below w c.loop-core.core c.loop-core.shown.cores.items c.push_core.new.cores.items (c.loop-core.invariant.shown old are keeps)
          c.in_ok-push_core.ensures.others (c.in_ok-push_core.ensures.shown (store_view old) (shows old are) (but old are keeps));
    }

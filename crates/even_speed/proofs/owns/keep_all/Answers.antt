use Rattle.std.proofs.Common.{◌∙◌, sym, subst, ◌+◌, All, drop, arith}
use Rattle.spec_history.specs.declared.entry.What.TheVariants.{Commit}
use Rattle.even_speed.specs.Owns.{IsNotable, own_at}
use Rattle.even_speed.proofs.Owning.{notable_more, owns_end, owns_more}
use Rattle.even_speed.proofs.owns.keep_all.Goals as goal

pub loop-entry-preserved : goal.loop-entry-preserved
loop-entry-preserved c =
    let more = notable_more _ c.args.entries.now c.loop-entry.entry-index (record { by = 0; what = Commit }) c.loop-entry-test.true c.loop-entry.invariant.notable in record {
      len = c.keep.ensures.len ∙ c.loop-entry.invariant.len;
      notable = subst (λ n. All (IsNotable n) (drop (c.loop-entry.entry-index + 1) c.args.entries.now)) (sym c.keep.ensures.len) more.1;
      rest = owns_more (own_at c.args.owns.now.items) c.args.entries.now c.loop-entry.entry-index _ (own_at c.loop-entry.owns.items) (own_at c.keep.new.owns.items) c.loop-entry-test.true c.in_ok-keep.ensures.kept
          c.loop-entry.invariant.rest;
    }

pub returns : goal.returns
returns c = record {
  len = c.loop-entry.invariant.len;
  kept = owns_end (own_at c.loop-entry.owns.items) (own_at c.args.owns.now.items) c.args.entries.now c.loop-entry.entry-index (omega (arith, c.loop-entry-test.false)) c.loop-entry.invariant.rest;
}

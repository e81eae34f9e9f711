-- A run in which loads wait for stores in order takes just the steps of the limit, where turns cost nothing.
use Rattle.std.proofs.Common.{◌≡◌, ◌≢◌, ℕ, suc, ◌+◌, ◌≤◌, Bool, Some, None, if◌then◌else◌, refl, sym, ap, subst, ◌∙◌, inl, inr, arith, eq-eqb}
use Rattle.rv32_image.specs.Image.{LoadedImage}
use Rattle.rv32_image.proofs.SmallFacts.{none_and_some}
use Rattle.rv32_exec.specs.declared.sequential.End.{End}
use Rattle.rv32_exec.specs.declared.sequential.End.TheVariants as end
use Rattle.spec_history.specs.FlatState.{FlatState, end_at, first_state}
use Rattle.violations.specs.View.{StoreView, Waits as StoreWaits}
use Rattle.violations.specs.Calls.{Call}
use Rattle.homefree.specs.declared.answer.Answer.TheVariants.{Go, Again, Left}
use Rattle.homefree.specs.Driven.{Driver}
use Rattle.epoch_paths.specs.InOrder.{AreAll}
use Rattle.even_speed.specs.declared.clock.Next.{Next}
use Rattle.even_speed.specs.declared.clock.Next.TheVariants.{Due}
use Rattle.even_speed.specs.declared.clocks.Turn.{Turn}
use Rattle.even_speed.specs.declared.run.Ran.{Ran}
use Rattle.even_speed.specs.Clocks.{due_of}
use Rattle.even_speed.specs.Even.{Pace, Pacing, at_first}
use Rattle.even_speed.specs.Held.{held_in}
use Rattle.even_speed.specs.Pricing.{over_at}
use Rattle.even_speed.proofs.Sounding.{later_bound}
use Rattle.limits.specs.declared.limit.Waits.TheVariants.{Commit}
use Rattle.limits.specs.Bound.{NeverWaits}
use Rattle.limits.specs.HeldBound.{HasNoCaches, TakesLimit}
use Rattle.limits.specs.Limits.{IsTiming, Timing, steps_of}
use Rattle.limits.proofs.Bounding.{below_runs, for_commits, unheld}
use Rattle.limits.proofs.Finishing.{one_count}
use Rattle.limits.proofs.Planning.{began, begins_at, by_commit, committed, order_after, over_soon, passed, waited}
use Rattle.limits.proofs.Plans.{IsOnPlan}
use Rattle.limits.proofs.QuietRuns.{IsTurn, Keeps, no_restarts, quiet_at_first, runs_to}

-- beside each timing of the epochs that run in order no step comes later
pub record IsPlanned (image : LoadedImage) (cores : ℕ) (s : FlatState) (p : Pace) : Type 0 where
  pub order : p.free.order ≤ p.free.began
  -- where the loop was over from the start
  pub start : (e : End) → s.end ≡ Some e → (p.free.began ≡ 0) × ((k : ℕ) → (p.clocks k).next ≡ Due 0)
  pub plan : s.end ≡ None → (epochs : ℕ) (t : Timing) → AreAll image epochs → IsTiming image Commit cores epochs t → IsOnPlan image cores t p.free.began s p.clocks

abbrev IsWithin : Ran → LoadedImage → ℕ → Type 0
IsWithin ran image cores = (epochs : ℕ) (t : Timing) → AreAll image epochs → IsTiming image Commit cores epochs t → ran.steps ≤ steps_of epochs t

due_zero : (n : Next) (x : ℕ) → n ≡ Due 0 → due_of n ≡ Some x → x ≡ 0
due_zero n x is due = let same : Some 0 ≡ Some x = sym (ap due_of is) ∙ due in cc

no_epoch : (epochs : ℕ) (t : Timing) → epochs ≡ 0 → 1 ≤ steps_of epochs t
no_epoch epochs t none = subst (λ n. 1 ≤ steps_of n t) (sym none) (omega arith)

module _ {S : Type 0} (paced : Pacing S) (view : S → StoreView) (waits : S → StoreWaits) (costless : paced.pricing ≡ None) (ran : Ran) where
  ended : (old mid : Driver S) (p : Pace) (t : Turn) (s : FlatState) → IsTurn paced view waits old mid p t s → s.end ≡ None → IsPlanned old.book.image old.book.cores s p
      → AreAll old.book.image (s.homefree + 1) → ran.steps ≡ over_at p.free t.at t.price → IsWithin ran old.book.image old.book.cores
  ended old mid p t s it still x last steps epochs plan all y =
      let by = by_commit paced view waits costless old mid p t s it still epochs plan all y (x.plan still epochs plan all y) in
      let over = over_soon paced view waits costless old mid p t s it x.order in
      let more = one_count old.book.image epochs (s.homefree + 1) all last in
      let less = one_count old.book.image (s.homefree + 1) epochs last all in
      let same : suc s.homefree ≡ epochs = omega (arith, more, less) in
      subst (λ n. ran.steps ≤ steps_of n plan) same (omega (arith, by, over, steps))

  over : (old mid : Driver S) (p : Pace) (t : Turn) (s : FlatState) (e : End) → IsTurn paced view waits old mid p t s → s.end ≡ Some e → IsPlanned old.book.image old.book.cores s p
      → ran.steps ≡ over_at p.free t.at t.price → IsWithin ran old.book.image old.book.cores
  over old mid p t s e it is_over x steps epochs plan all y =
      let none = it.run.ending e is_over in
      let most = all.most in
      let start = x.start e is_over in
      let began = start.0 in
      let due = due_zero (p.clocks t.core).next t.due (start.1 t.core) (unheld (held_in paced.holds old.book p.held t.core) (p.clocks t.core).next t.due it.first.due) in
      let at = begins_at paced view waits costless old mid p t s it in
      let none_yet = later_bound p.free.began t.due 0 (omega (arith, began)) (omega (arith, due)) in
      let zero : t.at ≡ 0 = omega (arith, at, none_yet) in
      let soon = over_soon paced view waits costless old mid p t s it x.order in
      let some = no_epoch epochs plan (omega (arith, none, most)) in omega (arith, zero, soon, some, steps)

  planned : Keeps paced view waits ran IsPlanned (IsWithin ran)
  planned = record {
    goes = λ old mid p t s u entries w hart it still x after moved. record {
      order = order_after paced view waits costless old mid p t s it (Go hart) x.order;
      start = λ e some. absurd (none_and_some u.end e after.going some);
      plan = λ none epochs plan all y. elim moved [
        | inl b ↦ began paced view waits costless old mid p t s it still epochs plan all y (x.plan still epochs plan all y) u entries w after hart b
        | inr b ↦ passed paced view waits costless old mid p t s it still epochs plan all y (x.plan still epochs plan all y) u entries w after hart b
      ];
    };
    waits_on = λ old mid p t s cause it still x wait. record {
      order = order_after paced view waits costless old mid p t s it (Again cause) x.order;
      start = λ e some. absurd (none_and_some s.end e still some);
      plan = λ none epochs plan all y. waited paced view waits costless old mid p t s it still epochs plan all y (x.plan still epochs plan all y) cause wait;
    };
    leaves = λ old mid p t s u entries w it still x after b. record {
      order = order_after paced view waits costless old mid p t s it Left x.order;
      start = λ e some. absurd (none_and_some u.end e after.going some);
      plan = λ none epochs plan all y. committed paced view waits costless old mid p t s it still epochs plan all y (x.plan still epochs plan all y) u entries w after b;
    };
    ends = λ old mid p t s entries e it still x b same. ended old mid p t s it still x b.all (ap (λ (r : Ran). r.steps) same);
    was_over = λ old mid p t s e it is_over x same. over old mid p t s e it is_over x (ap (λ (r : Ran). r.steps) same);
  }

-- ---- from the start

none_done : (image : LoadedImage) → end_at image 0 ≡ None → 0 ≢ image.epochs
none_done image none is = none_and_some (end_at image 0) (end.Done 0) none (ap (λ (b : Bool). if b then Some (end.Done 0) else None) (eq-eqb 0 image.epochs is))

planned_at_first : (image : LoadedImage) (cores : ℕ) → IsPlanned image cores (first_state image) at_first
planned_at_first image cores = record {
  order = omega arith;
  start = λ e some. (refl, λ k. refl);
  plan = λ none epochs plan all y. record {
    left = (let other = none_done image none in omega (arith, other));
    window = omega arith;
    homefree = omega arith;
    runs = λ e from below. absurd (omega (arith, below));
    run = λ k c at. absurd (none_and_some None c refl at);
    next = λ may within. (λ early. refl, λ before sum. omega arith);
    slot = λ e. e;
    slots = λ e may. record {
      there = (let near = may.near in omega (arith, near));
      idle = refl;
      soon = λ low. (0, refl, (λ early. refl, λ before sum. omega arith));
    };
    apart = λ e f may may' same. same;
    used = λ k there idle. (k, record { from = omega arith; near = omega (arith, there) }, refl);
  };
}

pub takes_limit : {S : Type 0} (makes : S → Call → S → Type 0) (view : S → StoreView) (waits : S → StoreWaits) (keeps : S → Type 0) → NeverWaits waits → HasNoCaches view
    → TakesLimit makes view waits keeps
takes_limit makes view waits keeps never uncached paced old new schedule ran steps i none holds costless e limit =
    let least = below_runs makes view waits keeps Commit (λ store. for_commits Commit (waits store) (never store)) paced old new schedule ran steps i none e limit in
    let run = runs_to makes view waits keeps paced ran never uncached IsPlanned (IsWithin ran) (planned paced view waits costless ran) schedule at_first old new
    (first_state old.book.image) (quiet_at_first view old.book i none) (planned_at_first old.book.image old.book.cores) i.is_image holds (no_restarts view old.book i none) e in
    let most = run.1 limit.epochs limit.timing limit.all limit.is in
    let steps_are = limit.steps_are in omega (arith, least, most, steps_are)

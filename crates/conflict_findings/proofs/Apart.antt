-- A violated epoch comes after that which violates it.
use Rattle.std.proofs.Common.{◌≡◌, ℕ, ◌<◌, ◌&&◌, Bool, true, not, nat_lt, List, Option, Some, None, sym, ap, ◌∙◌, arith, ltb-true}
use Rattle.std.proofs.lemmas.Bool.{and_parts}
use Rattle.rv32_image.specs.Image.{LoadedImage}
use Rattle.spec_history.specs.declared.entry.Entry.{Entry}
use Rattle.spec_history.specs.declared.entry.What.TheVariants.{Hurt}
use Rattle.spec_history.specs.FlatState.{CoreState, FlatState}
use Rattle.spec_history.specs.Refusal.{any_below, can_be_hurt, refusal_of, runs_and}
use Rattle.spec_history.proofs.OneEntry.Legal.{legal_entry}
use Rattle.conflicts.specs.declared.explanation.Explanation.{Explanation}
use Rattle.conflicts.specs.Explained.{IsExplainedIn}

runner : (c : CoreState) (epoch : ℕ) (rest : Bool) → (runs_and (Some c) (λ d. nat_lt d.epoch epoch) && rest) ≡ true → c.epoch < epoch
runner c epoch rest is =
    ltb-true c.epoch epoch (and_parts (not c.hurt) (nat_lt c.epoch epoch) (and_parts (not c.hurt && nat_lt c.epoch epoch) rest is).0).1

pub comes_after : (image : LoadedImage) (count : ℕ) (s : FlatState) (entries : List Entry) (e : Explanation) → IsExplainedIn image s entries e
    → refusal_of image count s (record { by = e.causer.core; what = Hurt e.victim.epoch }) ≡ None → e.causer.epoch < e.victim.epoch
comes_after image count s entries e is legal =
    let there = (legal_entry image count s (record { by = e.causer.core; what = Hurt e.victim.epoch }) legal).there in
    let rest = any_below count (λ k. can_be_hurt e.victim.epoch (s.cores k)) in
    let runs = sym (ap (λ (core : Option CoreState). runs_and core (λ d. nat_lt d.epoch e.victim.epoch) && rest) is.causer_runs) ∙ there in
    let below : is.causing.epoch < e.victim.epoch = runner is.causing e.victim.epoch rest runs in
    omega (arith, below, is.causer_epoch)

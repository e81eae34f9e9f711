-- The turns of a list of core numbers, one after another, and the end that they come to.
use Rattle.std.proofs.Common.{◌≡◌, ◌≢◌, ℕ, ◌+◌, ◌<◌, List, length, get_or, drop, Option, Some, None, Result, Ok, Err, option_map, refl, sym, ap, subst, ◌∙◌, arith}
use Rattle.std.proofs.Math.Path.{fun_ext}
use Rattle.std.proofs.lemmas.List.{get_or-replicate, get_or_past, drop_more}
use native.Mathlib.Decide.{dec_lt}
use Rattle.std.proofs.Math.ListN.{replicate, length-replicate}
use Rattle.rv32_image.specs.Image.{LoadedImage}
use Rattle.rv32_exec.specs.declared.sequential.End.{End}
use Rattle.rv32_exec.specs.Arrival.{Arrival}
use Rattle.rv32_exec.specs.Hart.{HartState}
use Rattle.rv32_image.proofs.SmallFacts.{one_value}
use Rattle.spec_history.specs.FlatState.{FlatState}
use Rattle.spec_history.specs.Replay.{replay}
use Rattle.spec_history.proofs.Replay.Replays.{replayed}
use Rattle.violations.specs.View.{StoreView, Waits}
use Rattle.violations.specs.Calls.{Call}
use Rattle.homefree.specs.declared.answer.Answer.{Answer}
use Rattle.homefree.specs.declared.answer.Answer.TheVariants.{Go, Again, Left, Over, Stopped}
use Rattle.homefree.specs.declared.answer.StopCause.{StopCause}
use Rattle.homefree.specs.declared.fault.TurnFault.{TurnFault}
use Rattle.homefree.specs.Acted.{IfArrived}
use Rattle.homefree.specs.BookView.{BookView, ReplaysTo}
use Rattle.homefree.specs.Driven.{Driver, Driven, TurnedWith, EndsOrGoes, IsInOrder, arrival_of, held_after, with_held}
use Rattle.homefree.specs.Held.{held_at, harts_of, held_by}
use Rattle.homefree.specs.InStep.{InStep}
use Rattle.homefree.specs.Turned.{Turned}

-- the end of a book in step is that of the sequential loop, with its memory
pub in_order : {S : Type 0} (view : S → StoreView) (b : BookView S) (end : End) → (i : InStep view b) → i.state.end ≡ Some end → IsInOrder b.image end (view b.store).committed
in_order view b end i over =
    let e = (replayed b.image b.cores b.history i.state i.is_image i.replays).ends end over in record {
      end_is = e.end_is;
      holds = record { long = e.holds.long; bytes = λ a. i.agrees.committed a ∙ e.holds.bytes a };
    }

-- the turn from the state that the history leads to
pub turned_at : {S : Type 0} {makes : S → Call → S → Type 0} {view : S → StoreView} {waits : S → Waits} {old new : Driver S} {core : ℕ} {held : Option HartState} {answer : Result Answer TurnFault}
    → TurnedWith makes view waits old core held answer new → (s : FlatState) → ReplaysTo old.book s
    → Turned view waits old.book s old.shares core (option_map (arrival_of old.book.image) held) answer new.book new.shares
turned_at {S} {makes} {view} {waits} {old} {new} {core} {held} {answer} turned s replays =
    subst (λ x. Turned view waits old.book x old.shares core (option_map (arrival_of old.book.image) held) answer new.book new.shares)
    (one_value (replay old.book.image old.book.cores old.book.history) turned.state s turned.replays replays) turned.turns.turned

-- no core has anything in hand at first
pub none_held : (n k : ℕ) → held_at (replicate n None) k ≡ None
none_held n k = elim (dec_lt k n) [
  | yes there ↦ get_or-replicate n k None None there
  | no past ↦ get_or_past (replicate n None) k None (rw length-replicate (omega (arith, past)))
]

-- what is in hand is where `advance` came to from the hart
pub hand_is : (image : LoadedImage) (hand : Option Arrival) → IfArrived image hand → hand ≡ option_map (arrival_of image) (option_map (λ a. a.base) hand)
hand_is image None arrived = refl
hand_is image (Some a) arrived = λ i. Some (record { base = a.base; now = arrived.0 i; at = arrived.1 i })

pub no_harts : (n : ℕ) → harts_of (replicate n None) ≡ (λ _. None)
no_harts n = fun_ext (λ k. ap (option_map (λ a. a.base)) (none_held n k))

module _ {S : Type 0} (makes : S → Call → S → Type 0) (view : S → StoreView) (waits : S → Waits) (harts : ℕ → Option HartState) (mid next : Driver S) (xs : List ℕ) (i : ℕ) (there : i < length xs)
    (P : Result (Option End) TurnFault → Driver S → Type 0)
    (drives : (result : Result (Option End) TurnFault) (new : Driver S) → Driven makes view waits harts mid (drop i xs) result new → P result new) where
  abbrev core : ℕ
  core = get_or xs i 0

  by_turn : (answer : Result Answer TurnFault) (result : Result (Option End) TurnFault) (new : Driver S) → TurnedWith makes view waits mid core (harts core) answer next
      → EndsOrGoes answer (λ r. (new ≡ next) × (result ≡ r)) (λ a. Driven makes view waits (with_held harts core (held_after a (harts core))) next (drop (i + 1) xs) result new)
      → P result new
  by_turn answer result new turned more =
      drives result new (subst (λ ys. Driven makes view waits harts mid ys result new) (sym (drop_more xs i 0 there)) (next, answer, turned, more))

  pub ends_over : (answer : Answer) (end : End) → answer ≡ Over end → TurnedWith makes view waits mid core (harts core) (Ok answer) next → P (Ok (Some end)) next
  ends_over answer end is turned = by_turn (Ok (Over end)) (Ok (Some end)) next (subst (λ a. TurnedWith makes view waits mid core (harts core) (Ok a) next) is turned) (refl, refl)

  pub ends_stopped : (answer : Answer) (cause : StopCause) → answer ≡ Stopped cause → TurnedWith makes view waits mid core (harts core) (Ok answer) next → P (Ok None) next
  ends_stopped answer cause is turned = by_turn (Ok (Stopped cause)) (Ok None) next (subst (λ a. TurnedWith makes view waits mid core (harts core) (Ok a) next) is turned) (refl, refl)

  pub ends_fault : (fault : TurnFault) → TurnedWith makes view waits mid core (harts core) (Err fault) next → P (Err fault) next
  ends_fault fault turned = by_turn (Err fault) (Err fault) next turned (refl, refl)

  more_by : (answer : Answer) (result : Result (Option End) TurnFault) (new : Driver S) → ((end : End) → answer ≢ Over end) → ((cause : StopCause) → answer ≢ Stopped cause)
      → Driven makes view waits (with_held harts core (held_after answer (harts core))) next (drop (i + 1) xs) result new
      → EndsOrGoes (Ok answer) (λ r. (new ≡ next) × (result ≡ r)) (λ a. Driven makes view waits (with_held harts core (held_after a (harts core))) next (drop (i + 1) xs) result new)
  more_by (Go hart) result new going unstopped d = d
  more_by (Again cause) result new going unstopped d = d
  more_by Left result new going unstopped d = d
  more_by (Over end) result new going unstopped d = absurd (going end refl)
  more_by (Stopped cause) result new going unstopped d = absurd (unstopped cause refl)

  pub goes_on : (answer : Answer) (harts' : ℕ → Option HartState) → ((end : End) → answer ≢ Over end) → ((cause : StopCause) → answer ≢ Stopped cause)
      → ((k : ℕ) → harts' k ≡ with_held harts core (held_by (Ok answer) (harts core)) k) → TurnedWith makes view waits mid core (harts core) (Ok answer) next
      → (result : Result (Option End) TurnFault) (new : Driver S) → Driven makes view waits harts' next (drop (i + 1) xs) result new → P result new
  goes_on answer harts' going unstopped same turned result new d =
      by_turn (Ok answer) result new turned (more_by answer result new going unstopped
      (subst (λ (h : ℕ → Option HartState). Driven makes view waits h next (drop (i + 1) xs) result new) (fun_ext same) d))

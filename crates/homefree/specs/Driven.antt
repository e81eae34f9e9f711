-- Turns by a list of core numbers, on one thread.
use Rattle.std.specs.Prelude.{◌≡◌, ℕ, ◌==◌, List, [], ◌∷◌, Option, Some, None, Result, Ok, Err, option_map, if◌then◌else◌}
use Rattle.rv32_image.specs.Image.{LoadedImage}
use Rattle.rv32_exec.specs.declared.sequential.End.{End}
use Rattle.rv32_exec.specs.Hart.{HartState}
use Rattle.rv32_exec.specs.Arrival.{Arrival}
use Rattle.rv32_exec.specs.NextEvent.{next_event}
use Rattle.rv32_exec.specs.Sequential.{sequential_result}
use Rattle.run_ledger.specs.declared.counts.Counts.{Counts}
use Rattle.spec_history.specs.FlatState.{FlatState}
use Rattle.spec_history.specs.Laws.{Holds}
use Rattle.violations.specs.View.{StoreView, Waits}
use Rattle.violations.specs.Calls.{Call}
use Rattle.homefree.specs.declared.answer.Answer.{Answer}
use Rattle.homefree.specs.declared.answer.Answer.TheVariants.{Go, Again, Left, Over, Stopped}
use Rattle.homefree.specs.declared.fault.TurnFault.{TurnFault}
use Rattle.homefree.specs.BookView.{BookView, ReplaysTo}
use Rattle.homefree.specs.Fixed.{TurnsStore}

-- where `advance` comes to from a hart
abbrev pub arrival_of : LoadedImage → HartState → Arrival
arrival_of image hart = record { base = hart; now = (next_event image hart).now; at = (next_event image hart).at }

-- the hart that the core has in hand after an answer
abbrev pub held_after : Answer → Option HartState → Option HartState
held_after (Go hart) held = Some hart
held_after (Again cause) held = held
held_after Left held = None
held_after (Over end) held = None
held_after (Stopped cause) held = None

-- the core has this hart in hand, and no other core's changes
abbrev pub with_held : (ℕ → Option HartState) → ℕ → Option HartState → ℕ → Option HartState
with_held held core now k = if k == core then now else held k

-- a book and the shares of the counts that its turns are handed
pub record Driver (S : Type 0) : Type 0 where
  pub book : BookView S
  pub shares : Counts

abbrev pub driver : {S : Type 0} → BookView S → Counts → Driver S
driver book shares = record { book = book; shares = shares }

-- the turn of a core with this hart in hand, from the state that the history leads to
pub record TurnedWith {S : Type 0} (makes : S → Call → S → Type 0) (view : S → StoreView) (waits : S → Waits) (old : Driver S) (core : ℕ) (held : Option HartState) (answer : Result Answer TurnFault)
    (new : Driver S) : Type 0 where
  pub state : FlatState
  pub replays : ReplaysTo old.book state
  pub turns : TurnsStore makes view waits old.book state old.shares core (option_map (arrival_of old.book.image) held) answer new.book new.shares

-- the drive ends with what is said, or goes on with the answer
abbrev pub EndsOrGoes : Result Answer TurnFault → (Result (Option End) TurnFault → Type 0) → (Answer → Type 0) → Type 0
EndsOrGoes (Ok (Over end)) ends goes = ends (Ok (Some end))
EndsOrGoes (Ok (Stopped cause)) ends goes = ends (Ok None)
EndsOrGoes (Err fault) ends goes = ends (Err fault)
EndsOrGoes (Ok (Go hart)) ends goes = goes (Go hart)
EndsOrGoes (Ok (Again cause)) ends goes = goes (Again cause)
EndsOrGoes (Ok Left) ends goes = goes Left

-- one turn for each number, in order, up to the first that ends the drive
abbrev pub Driven : {S : Type 0} → (S → Call → S → Type 0) → (S → StoreView) → (S → Waits) → (ℕ → Option HartState) → Driver S → List ℕ → Result (Option End) TurnFault → Driver S → Type 0
Driven makes view waits held old [] result new = (new ≡ old) × (result ≡ Ok None)
Driven {S} makes view waits held old (core ∷ rest) result new = (mid : Driver S) × (answer : Result Answer TurnFault) × TurnedWith makes view waits old core (held core) answer mid
    × EndsOrGoes answer (λ r. (new ≡ mid) × (result ≡ r)) (λ a. Driven makes view waits (with_held held core (held_after a (held core))) mid rest result new)

-- the loop has ended as the sequential loop does, with its memory
pub record IsInOrder (image : LoadedImage) (end : End) (committed : ℕ → ℕ) : Type 0 where
  pub end_is : end ≡ (sequential_result image).end
  pub holds : Holds image committed (sequential_result image).bytes

-- so where the drive gives an end
abbrev pub IfEnded : Result (Option End) TurnFault → (End → Type 0) → Type 0
IfEnded (Ok (Some end)) P = P end
IfEnded (Ok None) P = Unit {0}
IfEnded (Err fault) P = Unit {0}

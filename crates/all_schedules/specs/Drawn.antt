-- The schedule that a seed draws, a turn at a time.
-- Source: Steele, Lea and Flood, "Fast Splittable Pseudorandom Number Generators", OOPSLA 2014, as the generator; this project, as the cores.
use Rattle.std.specs.Prelude.{◌≡◌, ℕ, zero, suc, ◌<◌, ◌%◌, List, [], ◌∷◌, ◌++◌, length, Option, None, Result, Ok, Err}
use Rattle.rand_xoshiro.specs.SplitMix64.{mix_u64, next_state}
use Rattle.rv32_image.specs.Image.{LoadedImage}
use Rattle.rv32_exec.specs.declared.sequential.End.{End}
use Rattle.spec_history.specs.declared.entry.Entry.{Entry}
use Rattle.run_ledger.specs.Counts.{no_counts}
use Rattle.violations.specs.View.{StoreView, Waits}
use Rattle.violations.specs.Calls.{Call}
use Rattle.homefree.specs.declared.book.Loop.{Loop}
use Rattle.homefree.specs.declared.fault.TurnFault.{TurnFault}
use Rattle.homefree.specs.declared.fault.TurnFault.TheVariants.{HistoryFull, NoMemory}
use Rattle.homefree.specs.BookView.{BookView}
use Rattle.homefree.specs.Driven.{Driven, Driver, driver}
use Rattle.homefree.specs.LockView.{loop_of}
use Rattle.all_schedules.specs.Made.{Makes}

-- the state of SplitMix64 after so many draws, the first of which is the seed
unfoldable pub state_after : ℕ → ℕ → ℕ
state_after seed zero = seed
state_after seed (suc n) = next_state (state_after seed n)

-- the core that a draw of 64 bits names: its rest by the number of cores, so that of the 2^64 draws each core has as many as another, or one more
abbrev pub core_at : ℕ → ℕ → ℕ → ℕ
core_at cores seed n = (mix_u64 (state_after seed n)).0 % cores

-- the first n turns that the seed draws
unfoldable pub drawn : ℕ → ℕ → ℕ → List ℕ
drawn cores seed zero = []
drawn cores seed (suc n) = drawn cores seed n ++ core_at cores seed n ∷ []

-- no more turns are drawn
abbrev pub most_turns : ℕ
most_turns = 8388608

-- the first n turns that the seed draws don't end the drive
abbrev pub IsOpen : {S : Type 0} → (S → Call → S → Type 0) → (S → StoreView) → (S → Waits) → ℕ → ℕ → Driver S → ℕ → Type 0
IsOpen {S} makes view waits cores seed old n = (new : Driver S) × Driven makes view waits (λ _. None) old (drawn cores seed n) (Ok None) new

-- the turns of the schedule, which the seed draws, come to this, and so do the most turns that it draws, of which those below an end aren't taken;
-- the schedule goes to the turn that ends the drive, and no further, or else to the most turns
pub record DrivesDrawn {S : Type 0} (makes : S → Call → S → Type 0) (view : S → StoreView) (waits : S → Waits) (cores seed : ℕ) (old : Driver S) (schedule : List ℕ) (result : Result (Option End) TurnFault) (new : Driver S) : Type 0 where
  pub is_drawn : schedule ≡ drawn cores seed (length schedule)
  pub driven : Driven makes view waits (λ _. None) old schedule result new
  pub all : Driven makes view waits (λ _. None) old (drawn cores seed most_turns) result new
  pub goes_on : (n : ℕ) → n < length schedule → IsOpen makes view waits cores seed old n
  pub most : result ≡ Ok None → old.book.stopped ≡ None → length schedule ≡ most_turns

-- the schedule, which the seed draws up to the turn that ends the drive, makes this history
pub record MakesDrawn {S : Type 0} (starts : LoadedImage → ℕ → S → Type 0) (calls : S → Call → S → Type 0) (view : S → StoreView) (waits : S → Waits) (l : Loop) (seed : ℕ) (schedule : List ℕ) (result : Result (Option End) TurnFault) (history : List Entry) : Type 0 where
  pub makes : Makes starts calls view waits l schedule result history
  pub drives : DrivesDrawn calls view waits l.cores seed (driver makes.first no_counts) schedule result makes.last

-- the run may end in this fault
abbrev pub IsDrawnFault : {S : Type 0} → (LoadedImage → ℕ → S → Type 0) → (S → Call → S → Type 0) → (S → StoreView) → (S → Waits) → Loop → ℕ → TurnFault → Type 0
IsDrawnFault starts makes view waits l seed HistoryFull = (schedule : List ℕ) × (history : List Entry) × MakesDrawn starts makes view waits l seed schedule (Err HistoryFull) history
IsDrawnFault starts makes view waits l seed NoMemory = Unit {0}

-- the book has the history that the run makes
pub record IsDrawnRun {S : Type 0} (starts : LoadedImage → ℕ → S → Type 0) (calls : S → Call → S → Type 0) (view : S → StoreView) (waits : S → Waits) (l : Loop) (seed : ℕ) (schedule : List ℕ) (b : BookView S) : Type 0 where
  pub loop : loop_of b ≡ l
  pub result : Option End
  pub makes : MakesDrawn starts calls view waits l seed schedule (Ok result) b.history

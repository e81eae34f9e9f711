-- The turns of a list of core numbers, one after another, and the text of each: what was answered, its entries, and what it changed.
-- Source: this project.
use Rattle.std.specs.Prelude.{◌≡◌, ℕ, zero, suc, List, [], ◌∷◌, ◌++◌, codes, Option, None, Ok}
use Rattle.std.specs.List.{flat_map, slice_index_or}
use Rattle.rv32_exec.specs.declared.sequential.End.{End}
use Rattle.rv32_exec.specs.Hart.{HartState}
use Rattle.spec_history.specs.declared.entry.Entry.{Entry}
use Rattle.violations.specs.declared.attempt.Attempt.{Attempt}
use Rattle.violations.specs.View.{StoreView, Waits}
use Rattle.violations.specs.Calls.{Call}
use Rattle.homefree.specs.declared.answer.Answer.{Answer}
use Rattle.homefree.specs.BookView.{BookView}
use Rattle.homefree.specs.Driven.{Driver, EndsOrGoes, TurnedWith, held_after, with_held}
use Rattle.trace_text.specs.Printing.{entry_line}
use Rattle.turn_steps.specs.Places.{changed}
use Rattle.turn_steps.specs.Rows.{at_changes, row_count}
use Rattle.turn_steps.specs.Turns.{attempt_line, hart_line, turn_line}

-- `entry ENTRY`, as the line of a trace has it
abbrev pub step_entry : Entry → List ℕ
step_entry entry = codes "entry " ++ entry_line entry

abbrev pub entries_text : List Entry → List ℕ
entries_text entries = flat_map step_entry entries

-- the attempts of the first cores that aren't as they were
unfoldable pub attempt_changes : (ℕ → Option Attempt) → (ℕ → Option Attempt) → ℕ → List ℕ
attempt_changes old now zero = []
attempt_changes old now (suc core) = attempt_changes old now core ++ changed (attempt_line core (old core)) (attempt_line core (now core))

-- those of a list
abbrev pub attempt_in : List (Option Attempt) → ℕ → Option Attempt
attempt_in attempts core = slice_index_or attempts core None

-- a turn of a core that had a hart in hand and has another now: its head and its entries; and what isn't as it was, of what the cores run,
-- of that hart, of what the store holds for the cores, and of committed memory
abbrev pub turn_text : {S : Type 0} → (S → StoreView) → (ℕ → S → S → List ℕ) → ℕ → ℕ → Answer → List Entry → Option HartState → Option HartState
    → BookView S → BookView S → List ℕ
turn_text view changes number core answer entries hart hart' old now =
    turn_line number core answer ++ entries_text entries
    ++ attempt_changes (view old.store).attempt (view now.store).attempt old.cores
    ++ changed (hart_line core hart) (hart_line core hart')
    ++ changes old.cores old.store now.store
    ++ at_changes (view old.store).committed (view now.store).committed (row_count (view old.store))

-- the text tells the turn; its entries are what the history has more
pub record IsTold {S : Type 0} (view : S → StoreView) (changes : ℕ → S → S → List ℕ) (number core : ℕ) (answer : Answer) (hart : Option HartState)
    (old new : BookView S) (text : List ℕ) : Type 0 where
  pub entries : List Entry
  pub history : new.history ≡ old.history ++ entries
  pub text_is : text ≡ turn_text view changes number core answer entries hart (held_after answer hart) old new

-- one turn for each number, in order, up to the first that ends the drive, counted from this number on, and none fails; the text
-- tells each of them
abbrev pub Stepped : {S : Type 0} → (S → Call → S → Type 0) → (S → StoreView) → (S → Waits) → (ℕ → S → S → List ℕ) → ℕ → (ℕ → Option HartState)
    → Driver S → List ℕ → Option End → Driver S → List ℕ → Type 0
Stepped makes view waits changes number held old [] end new text = (new ≡ old) × (end ≡ None) × (text ≡ [])
Stepped {S} makes view waits changes number held old (core ∷ rest) end new text = (mid : Driver S) × (answer : Answer) × (first : List ℕ) × (below : List ℕ)
    × TurnedWith makes view waits old core (held core) (Ok answer) mid
    × IsTold view changes number core answer (held core) old.book mid.book first
    × (text ≡ first ++ below)
    × EndsOrGoes (Ok answer) (λ r. (new ≡ mid) × (r ≡ Ok end) × (below ≡ []))
    (λ a. Stepped makes view waits changes (suc number) (with_held held core (held_after a (held core))) mid rest end new below)

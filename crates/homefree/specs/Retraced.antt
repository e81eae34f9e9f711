-- That the turns which the history of a book shows make it again.
-- Source: this project.
use Rattle.std.specs.Prelude.{◌≡◌, ◌⊎◌, ℕ, nat_lt, ◌&&◌, Bool, true, false, List, [], ◌∷◌, ◌++◌, Option, Some, None, Result, Ok, if◌then◌else◌}
use Rattle.std.specs.List.{flat_map}
use Rattle.rv32_image.specs.Image.{LoadedImage}
use Rattle.rv32_exec.specs.declared.sequential.End.{End}
use Rattle.rv32_exec.specs.Hart.{HartState}
use Rattle.run_ledger.specs.declared.counts.Counts.{Counts}
use Rattle.run_ledger.specs.Counts.{no_counts}
use Rattle.spec_history.specs.declared.entry.Entry.{Entry}
use Rattle.spec_history.specs.declared.entry.What.{What}
use Rattle.spec_history.specs.declared.entry.What.TheVariants.{Hurt, Cancel, Publish}
use Rattle.spec_history.specs.FlatState.{CoreState, FlatState}
use Rattle.violations.specs.View.{StoreView, Waits}
use Rattle.violations.specs.Calls.{Call, Reserve}
use Rattle.violations.specs.Rule.{IsFresh, IsSameView}
use Rattle.homefree.specs.declared.book.Loop.{Loop}
use Rattle.homefree.specs.declared.fault.TurnFault.{TurnFault}
use Rattle.homefree.specs.BookView.{BookView, ReplaysTo}
use Rattle.homefree.specs.Driven.{Driven, Driver, driver}
use Rattle.homefree.specs.LockView.{loop_of}

-- ---- the turns that a history shows

-- the entry stands for a turn: violations, cancellations and publications are of the turn whose entry stands below them
abbrev pub is_of_own : What → Bool
is_of_own (Hurt epoch) = false
is_of_own (Cancel epoch) = false
is_of_own Publish = false
is_of_own what = true

-- of a core that is there
abbrev pub takes_turn : ℕ → Entry → Bool
takes_turn cores entry = nat_lt entry.by cores && is_of_own entry.what

abbrev pub turn_of : ℕ → Entry → List ℕ
turn_of cores entry = if takes_turn cores entry then entry.by ∷ [] else []

-- whose turns the entries are, in order
abbrev pub turns_of : ℕ → List Entry → List ℕ
turns_of cores entries = flat_map (turn_of cores) entries

-- ---- where they begin

-- an empty history of the loop, over a fresh store
pub record IsNew {S : Type 0} (starts : LoadedImage → ℕ → S → Type 0) (view : S → StoreView) (l : Loop) (b : BookView S) : Type 0 where
  pub loop : loop_of b ≡ l
  pub history : b.history ≡ []
  pub totals : b.totals ≡ no_counts
  pub store : IsFresh l.image l.cores (view b.store)
  pub started : starts l.image l.cores b.store
  pub stopped : b.stopped ≡ None

-- ---- where they lead

-- the book over this store, and as if it had never been stopped
abbrev pub book_over : {S : Type 0} → BookView S → S → BookView S
book_over b store = record b { store = store; stopped = None }

-- the store is the same, but that it may have made room
pub record IsStill {S : Type 0} (makes : S → Call → S → Type 0) (view : S → StoreView) (waits : S → Waits) (s t : S) : Type 0 where
  pub made : (t ≡ s) ⊎ makes s Reserve t
  pub same : IsSameView (view s) (view t)
  pub waits_are : waits t ≡ waits s

-- each core that runs an epoch and isn't hurt has its hart in hand
abbrev pub HaveHarts : (ℕ → Option HartState) → FlatState → Type 0
HaveHarts held s = (k : ℕ) (c : CoreState) → s.cores k ≡ Some c → c.hurt ≡ false → held k ≡ Some c.hart

-- the turns have led from the first book to the last, and the cores have such harts in hand: whatever turns are taken from there on, the
-- schedule with these turns after it makes the same
pub record GoesOn {S : Type 0} (makes : S → Call → S → Type 0) (view : S → StoreView) (waits : S → Waits) (first last : Driver S) (schedule : List ℕ) (s : FlatState) : Type 0 where
  pub held : ℕ → Option HartState
  pub harts : HaveHarts held s
  pub leads : (more : List ℕ) (result : Result (Option End) TurnFault) (new : Driver S) → Driven makes view waits held last more result new
      → Driven makes view waits (λ _. None) first (schedule ++ more) result new

-- the turns that the history shows, over a fresh store, lead to this very book, but for the room that its store has, and for its stop
pub record IsRetraced {S : Type 0} (starts : LoadedImage → ℕ → S → Type 0) (makes : S → Call → S → Type 0) (view : S → StoreView) (waits : S → Waits) (b : BookView S) : Type 0 where
  pub first : BookView S
  pub is_new : IsNew starts view (loop_of b) first
  pub store : S
  pub still : IsStill makes view waits store b.store
  pub shares : Counts
  pub result : Option End
  pub drives : Driven makes view waits (λ _. None) (driver first no_counts) (turns_of b.cores b.history) (Ok result) (driver (book_over b store) shares)
  -- and the loop, unless it is over, goes on from there
  pub goes_on : (s : FlatState) → ReplaysTo b s → s.end ≡ None → GoesOn makes view waits (driver first no_counts) (driver (book_over b store) shares) (turns_of b.cores b.history) s

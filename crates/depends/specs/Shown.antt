-- A violation that a schedule makes, and the instructions at which it met.
-- Source: this project.
use Rattle.std.specs.Prelude.{◌≡◌, ℕ, List, length, Option, Some, None, Ok, slice_get}
use Rattle.rv32_image.specs.Image.{LoadedImage}
use Rattle.rv32_exec.specs.declared.sequential.End.{End}
use Rattle.spec_history.specs.declared.entry.Entry.{Entry}
use Rattle.violations.specs.View.{StoreView, Waits}
use Rattle.violations.specs.Calls.{Call}
use Rattle.homefree.specs.declared.book.Loop.{Loop}
use Rattle.conflicts.specs.declared.explanation.Blame.{Blame}
use Rattle.conflicts.specs.declared.explanation.Explanation.{Explanation}
use Rattle.conflicts.specs.declared.standing.Site.{Site}
use Rattle.conflicts.specs.Explained.{IsExplained}
use Rattle.conflicts.specs.Sites.{sites_before}
use Rattle.all_schedules.specs.Made.{Makes}
use Rattle.depends.specs.declared.shown.Met.{Met}
use Rattle.depends.specs.declared.shown.Met.TheVariants.{Instructions, Buffer}
use Rattle.depends.specs.declared.shown.Shown.{Shown}

abbrev pub pc_of : Option (Option Site) → Option ℕ
pc_of (Some (Some site)) = Some site.pc
pc_of other = None

-- the pc of the access at a place
abbrev pub pc_at : List (Option Site) → ℕ → Option ℕ
pc_at sites place = pc_of (slice_get sites place)

abbrev pub met_at : Option ℕ → Option ℕ → Met
met_at (Some load) (Some store) = Instructions load store
met_at load store = Buffer

-- the load and the store that are blamed; a full buffer blames none
abbrev pub met_by : List (Option Site) → Option Blame → Met
met_by sites (Some blame) = met_at (pc_at sites blame.load) (pc_at sites blame.store)
met_by sites None = Buffer

abbrev pub shown_by : List (Option Site) → Explanation → Shown
shown_by sites e = record { victim = e.victim.epoch; causer = e.causer.epoch; met = met_by sites e.blame }

-- the history has this violation
pub record IsOf (image : LoadedImage) (cores : ℕ) (history : List Entry) (x : Shown) : Type 0 where
  pub explanation : Explanation
  pub explained : IsExplained image cores history explanation
  pub says : x ≡ shown_by (sites_before image cores history (length history)) explanation

-- the turns of the schedule make a history that has it
pub record IsShown {S : Type 0} (starts : LoadedImage → ℕ → S → Type 0) (calls : S → Call → S → Type 0) (view : S → StoreView) (waits : S → Waits) (l : Loop) (schedule : List ℕ) (x : Shown) : Type 0 where
  pub history : List Entry
  pub end : Option End
  pub makes : Makes starts calls view waits l schedule (Ok end) history
  pub there : IsOf l.image l.cores history x

-- the first of some explanations
abbrev pub IsFirst : List Explanation → Option Explanation → Type 0
IsFirst list first = slice_get list 0 ≡ first

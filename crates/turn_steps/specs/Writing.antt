-- What was written of a text that is written as it grows.
-- Source: this project.
use Rattle.std.specs.Prelude.{◌≡◌, ℕ, Bool, true, false, List, ◌++◌, take, Option, None}
use Rattle.std.specs.Io.KnownBytes.{Appends}
use Rattle.rv32_exec.specs.declared.sequential.End.{End}
use Rattle.violations.specs.View.{StoreView, Waits}
use Rattle.violations.specs.Calls.{Call}
use Rattle.homefree.specs.Driven.{Driver}
use Rattle.turn_steps.specs.Stepped.{Stepped}

-- some of the first of it
abbrev pub AppendsFirst : Option (List ℕ) → Option (List ℕ) → List ℕ → Type 0
AppendsFirst old new text = (written : List ℕ) × (rest : List ℕ) × Appends old new written × (text ≡ written ++ rest)

-- the whole of it, or, after a failed write, some of the first
abbrev pub IsWrittenSo : Bool → Option (List ℕ) → Option (List ℕ) → List ℕ → Type 0
IsWrittenSo true old new text = Appends old new text
IsWrittenSo false old new text = AppendsFirst old new text

-- all but this rest of it was written so
abbrev pub IsWrittenBut : List ℕ → Bool → Option (List ℕ) → Option (List ℕ) → List ℕ → Type 0
IsWrittenBut rest whole old new text = (before : List ℕ) × IsWrittenSo whole old new before × (text ≡ before ++ rest)

-- the turns of a schedule were taken, up to one that ends the loop, and all but this rest of their text was written, or, after a failed write, some
-- of the first
abbrev pub HasStepped : {S : Type 0} → (S → Call → S → Type 0) → (S → StoreView) → (S → Waits) → (ℕ → S → S → List ℕ) → Driver S → List ℕ → Driver S → List ℕ → Bool → Option (List ℕ) → Option (List ℕ) → Type 0
HasStepped makes view waits changes first schedule last rest whole old new = (end : Option End) × (text : List ℕ)
    × Stepped makes view waits changes 0 (λ _. None) first schedule end last text × IsWrittenBut rest whole old new text

-- the first turns of a schedule were taken, and some of the first of their text was written
abbrev pub HasBegun : {S : Type 0} → (S → Call → S → Type 0) → (S → StoreView) → (S → Waits) → (ℕ → S → S → List ℕ) → Driver S → List ℕ → Option (List ℕ) → Option (List ℕ) → Type 0
HasBegun {S} makes view waits changes first schedule old new = (n : ℕ) × (last : Driver S) × (text : List ℕ)
    × Stepped makes view waits changes 0 (λ _. None) first (take n schedule) None last text × AppendsFirst old new text

-- The lines of a store.
-- Source: this project.
use Rattle.std.specs.Prelude.{◌≡◌, ℕ, Bool, true, false, nat_lt, List, [], ◌∷◌, ◌++◌, Option, Some, None}
use Rattle.rv32_image.specs.Image.{LoadedImage}
use Rattle.violations.specs.View.{StoreView, Waits}
use Rattle.violations.specs.Calls.{Call}
use Rattle.turn_costs.specs.Order.{kind_of}
use Rattle.turn_costs.specs.Prices.{Prices}
use Rattle.even_speed.specs.declared.terms.Terms.{Terms}
use Rattle.even_speed.specs.Even.{pacing_of}
use Rattle.all_schedules.specs.Made.{loop_on}
use Rattle.gain.specs.declared.lines.Waiting.{Waiting}
use Rattle.gain.specs.declared.measure.Base.{Base}
use Rattle.gain.specs.declared.measure.Measured.{Measured}
use Rattle.gain.specs.Measured.{IsMeasured, IsOrderOf}
use Rattle.gain.specs.Text.{line_text}

abbrev pub count_if : Bool → ℕ → List ℕ
count_if true count = count ∷ []
count_if false count = []

-- 2, 4 and 8 cores, where they are fewer than these, and these, where they are more than one
abbrev pub more_counts : ℕ → List ℕ
more_counts cores = count_if (nat_lt 2 cores) 2 ++ count_if (nat_lt 4 cores) 4 ++ count_if (nat_lt 8 cores) 8 ++ count_if (nat_lt 1 cores) cores

-- to a text, the line `held` of so many cores, where there are such
abbrev pub AddHeld : {S : Type 0} → (LoadedImage → ℕ → S → Type 0) → (S → Call → S → Type 0) → (S → StoreView) → (S → Waits) → (S → Prices) → (S → Type 0) → Option Terms → LoadedImage → ℕ → List ℕ → Base → ℕ → List ℕ → List ℕ → Type 0
AddHeld starts makes view waits prices keeps (Some terms) image room store base cores old new =
    (told : Option Measured) × IsMeasured starts makes view waits keeps (pacing_of prices terms) (loop_on image cores room) told × (new ≡ old ++ line_text true true store cores base told)
AddHeld starts makes view waits prices keeps None image room store base cores old new = new ≡ old

-- for each number of cores the line of what was measured of the run
abbrev pub AddEach : {S : Type 0} → (LoadedImage → ℕ → S → Type 0) → (S → Call → S → Type 0) → (S → StoreView) → (S → Waits) → (S → Prices) → (S → Type 0) → Waiting → LoadedImage → ℕ → List ℕ → Base → List ℕ → List ℕ → List ℕ → Type 0
AddEach starts makes view waits prices keeps w image room store base [] old new = new ≡ old
AddEach starts makes view waits prices keeps w image room store base (cores ∷ rest) old new =
    (told : Option Measured) × IsMeasured starts makes view waits keeps (pacing_of prices w.terms) (loop_on image cores room) told
    × (mid : List ℕ) × AddHeld starts makes view waits prices keeps w.held image room store base cores (old ++ line_text false w.told store cores base told) mid
    × AddEach starts makes view waits prices keeps w image room store base rest mid new

-- for one core, and for more up to these
abbrev pub AddLines : {S : Type 0} → (LoadedImage → ℕ → S → Type 0) → (S → Call → S → Type 0) → (S → StoreView) → (S → Waits) → (S → Prices) → (S → Type 0) → Waiting → LoadedImage → ℕ → List ℕ → ℕ → List ℕ → List ℕ → Type 0
AddLines starts makes view waits prices keeps w image room store cores old new =
    (base : Base) × IsMeasured starts makes view waits keeps (pacing_of prices w.terms) (loop_on image 1 room) base.first × IsOrderOf starts (kind_of makes view prices) image w.terms.costs base.order
    × (mid : List ℕ) × AddHeld starts makes view waits prices keeps w.held image room store base 1 (old ++ line_text false w.told store 1 base base.first) mid
    × AddEach starts makes view waits prices keeps w image room store base (more_counts cores) mid new

-- A line more for each number of cores.
use Rattle.std.proofs.Common.{◌≡◌, ℕ, ◌+◌, ◌<◌, ◌≤◌, Bool, true, false, nat_lt, List, [], ◌∷◌, ◌++◌, length, get_or, drop, All, Option, Result, Ok, Err, OnOk, refl, sym, subst, arith}
use Rattle.std.proofs.lemmas.Bool.Decides.{nat_tests}
use Rattle.std.proofs.lemmas.List.{drop_more}
use Rattle.std.proofs.lemmas.List.Elements.{All-nil, All-cons, All-append}
use Rattle.rv32_image.specs.Image.{LoadedImage}
use Rattle.violations.specs.View.{StoreView, Waits}
use Rattle.violations.specs.Calls.{Call}
use Rattle.violations.specs.Rule.{IsCoreCount}
use Rattle.all_schedules.specs.Made.{loop_on}
use Rattle.turn_costs.specs.Order.{kind_of}
use Rattle.turn_costs.specs.Prices.{Prices}
use Rattle.even_speed.specs.Even.{pacing_of}
use Rattle.gain.specs.declared.lines.Waiting.{Waiting}
use Rattle.gain.specs.declared.measure.Base.{Base}
use Rattle.gain.specs.declared.measure.Measured.{Measured}
use Rattle.gain.specs.Measured.{IsMeasured, IsOrderOf}
use Rattle.gain.specs.Text.{line_text}
use Rattle.gain.specs.Lines.{AddEach, AddHeld, AddLines, count_if, more_counts}
use Rattle.gain.specs.Limits.{AddLimit, AddLimits}

module _ {S : Type 0} (starts : LoadedImage → ℕ → S → Type 0) (makes : S → Call → S → Type 0) (view : S → StoreView) (waits : S → Waits) (prices : S → Prices) (keeps : S → Type 0) (w : Waiting) (image : LoadedImage) (room : ℕ) (store : List ℕ) (base : Base) (counts start : List ℕ) where
  pub adds_more : (i : ℕ) (text mid text' : List ℕ) (told : Option Measured) → i < length counts
      → ((new : List ℕ) → AddEach starts makes view waits prices keeps w image room store base (drop i counts) text new → AddEach starts makes view waits prices keeps w image room store base counts start new)
      → IsMeasured starts makes view waits keeps (pacing_of prices w.terms) (loop_on image (get_or counts i 0) room) told → mid ≡ text ++ line_text false w.told store (get_or counts i 0) base told
      → AddHeld starts makes view waits prices keeps w.held image room store base (get_or counts i 0) mid text'
      → (new : List ℕ) → AddEach starts makes view waits prices keeps w image room store base (drop (i + 1) counts) text' new → AddEach starts makes view waits prices keeps w image room store base counts start new
  adds_more i text mid text' told there adds measured longer held new more =
      adds new (subst (λ ks. AddEach starts makes view waits prices keeps w image room store base ks text new) (sym (drop_more counts i 0 there))
      (told, measured, text', subst (λ t. AddHeld starts makes view waits prices keeps w.held image room store base (get_or counts i 0) t text') longer held, more))

-- the line of one core, and those of more
pub lines_of : {S T E : Type 0} (starts : LoadedImage → ℕ → S → Type 0) (makes : S → Call → S → Type 0) (view : S → StoreView) (waits : S → Waits) (prices : S → Prices) (keeps : S → Type 0) (w : Waiting) (image : LoadedImage) (room cores : ℕ) (store : List ℕ) (base : Base)
    (counts old mid after new : List ℕ) (result : Result T E) → counts ≡ more_counts cores → mid ≡ old ++ line_text false w.told store 1 base base.first
    → IsMeasured starts makes view waits keeps (pacing_of prices w.terms) (loop_on image 1 room) base.first → IsOrderOf starts (kind_of makes view prices) image w.terms.costs base.order
    → AddHeld starts makes view waits prices keeps w.held image room store base 1 mid after
    → OnOk result (AddEach starts makes view waits prices keeps w image room store base counts after new) → OnOk result (AddLines starts makes view waits prices keeps w image room store cores old new)
lines_of starts makes view waits prices keeps w image room cores store base counts old mid after new (Ok done) are longer measured order held each = (
  base,
  measured,
  order,
  after,
  subst (λ t. AddHeld starts makes view waits prices keeps w.held image room store base 1 t after) longer held,
  subst (λ ks. AddEach starts makes view waits prices keeps w image room store base ks after new) are each,
)
lines_of starts makes view waits prices keeps w image room cores store base counts old mid after new (Err fault) are longer measured order held each = each

-- each number of cores passes, where these and all fewer do
passes_if : (P : ℕ → Type 0) (count : ℕ) (b : Bool) → (b ≡ true → P count) → All P (count_if b count)
passes_if P count true is = All-cons P count [] (is refl) (All-nil P)
passes_if P count false is = All-nil P

pub counts_pass : (P : ℕ → Type 0) (cores : ℕ) → P cores → ((k : ℕ) → 1 ≤ k → nat_lt k cores ≡ true → P k) → All P (more_counts cores)
counts_pass P cores these fewer =
    let two = count_if (nat_lt 2 cores) 2 in
    let four = count_if (nat_lt 4 cores) 4 in
    let eight = count_if (nat_lt 8 cores) 8 in
    All-append P ((two ++ four) ++ eight) (count_if (nat_lt 1 cores) cores)
    (All-append P (two ++ four) eight
    (All-append P two four (passes_if P 2 (nat_lt 2 cores) (fewer 2 (omega arith))) (passes_if P 4 (nat_lt 4 cores) (fewer 4 (omega arith))))
    (passes_if P 8 (nat_lt 8 cores) (fewer 8 (omega arith))))
    (passes_if P cores (nat_lt 1 cores) (λ more. these))

fewer : (image : LoadedImage) (cores : ℕ) → IsCoreCount image cores → (k : ℕ) → 1 ≤ k → nat_lt k cores ≡ true → IsCoreCount image k
fewer image cores allowed k least less =
    let below : k < cores = grind (arith, nat_tests) in record { least = least; most = omega (arith, below, allowed.most) }

pub are_allowed : (image : LoadedImage) (cores : ℕ) → IsCoreCount image cores → All (λ k. IsCoreCount image k) (more_counts cores)
are_allowed image cores allowed = counts_pass (λ k. IsCoreCount image k) cores allowed (fewer image cores allowed)

-- ---- of the limits

pub are_some : (cores : ℕ) → 1 ≤ cores → All (λ k. 1 ≤ k) (more_counts cores)
are_some cores some = counts_pass (λ k. 1 ≤ k) cores some (λ k least less. least)

pub limits_more : (image : LoadedImage) (counts start : List ℕ) (i : ℕ) (text text' : List ℕ) → i < length counts
    → ((new : List ℕ) → AddLimits image (drop i counts) text new → AddLimits image counts start new)
    → AddLimit image (get_or counts i 0) text text'
    → (new : List ℕ) → AddLimits image (drop (i + 1) counts) text' new → AddLimits image counts start new
limits_more image counts start i text text' there adds one new more =
    adds new (subst (λ ks. AddLimits image ks text new) (sym (drop_more counts i 0 there)) (text', one, more))

-- the line of one core, and those of more
pub limits_of : {T E : Type 0} (image : LoadedImage) (cores : ℕ) (counts old mid new : List ℕ) (result : Result T E) → counts ≡ more_counts cores
    → AddLimit image 1 old mid → OnOk result (AddLimits image counts mid new) → OnOk result (AddLimits image (1 ∷ more_counts cores) old new)
limits_of image cores counts old mid new (Ok done) are one each = (mid, one, subst (λ ks. AddLimits image ks mid new) are each)
limits_of image cores counts old mid new (Err fault) are one each = each

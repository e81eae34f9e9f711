-- The bytes of a line.
use Rattle.std.proofs.Common.{◌≡◌, ◌≢◌, ℕ, ◌/◌, ◌%◌, ◌<◌, ◌≤◌, ◌==◌, ◌&&◌, nat_lt, Bool, true, false, refl, sym, ap, subst, ◌∙◌, arith, eq-eqb}
use Rattle.std.proofs.lemmas.Bool.{and_from, and_parts, eqb-true}
use Rattle.std.proofs.lemmas.Bool.Decides.{nat_tests}
use Rattle.rv32_image.specs.declared.machine.Machine.{Machine}
use Rattle.rv32_image.specs.Image.{LoadedImage}
use Rattle.rv32_image.specs.Machine.{IsMachineFor}
use Rattle.rv32_image.specs.Places.{place}
use Rattle.rv32_image.proofs.Bounds.{line_below, number_below}
use Rattle.rv32_image.proofs.Places.{place-inside, place-past, places-whole}
use Rattle.spec_history.specs.Conflict.{line_number, line_count, line_has}
use Rattle.spec_history.proofs.OneEntry.Legal.{some_below, none_below}
use Rattle.spec_history.proofs.Searches.Tests.{one_passes}

-- a line of which a byte passes
pub line_passes : (image : LoadedImage) (line a : ℕ) (test : ℕ → Bool) → a < image.size → line_number image a ≡ line → test a ≡ true → line_has image line test ≡ true
line_passes image line a test below at passes =
    one_passes image.size (λ b. (line_number image b == line) && test b) a below
    (and_from (line_number image a == line) (test a) (eq-eqb (line_number image a) line at) passes)

-- a byte of memory that lies in the line and passes
pub record IsInLine (image : LoadedImage) (line : ℕ) (test : ℕ → Bool) : Type 0 where
  pub at : ℕ
  pub below : at < image.size
  pub in_line : line_number image at ≡ line
  pub passes : test at ≡ true

pub passing_byte : (image : LoadedImage) (line : ℕ) (test : ℕ → Bool) → line_has image line test ≡ true → IsInLine image line test
passing_byte image line test is =
    let found = some_below image.size (λ a. (line_number image a == line) && test a) is in
    let two = and_parts (line_number image found.0 == line) (test found.0) found.2 in record {
      at = found.0;
      below = found.1;
      in_line = eqb-true (line_number image found.0) line two.0;
      passes = two.1;
    }

pub none_passes : (image : LoadedImage) (line : ℕ) (test : ℕ → Bool) → line_has image line test ≡ false → (a : ℕ) → a < image.size → line_number image a ≡ line → test a ≡ false
none_passes image line test none a below at =
    sym (ap (λ b. b && test a) (eq-eqb (line_number image a) line at)) ∙ none_below image.size (λ b. (line_number image b == line) && test b) none a below

-- the line of a byte by its place, and by the lines of the image's machine
pub line_is : (image : LoadedImage) (machine : Machine) (a p : ℕ) → p ≡ place image.machine image.size a → machine ≡ image.machine → p / machine.line_length ≡ line_number image a
line_is image machine a p at same =
    ap (λ q. q / machine.line_length) at ∙ ap (λ (m : Machine). place image.machine image.size a / m.line_length) same

-- a byte of a line of memory lies in memory
pub same_line_below : (image : LoadedImage) (a b : ℕ) → IsMachineFor image.size image.machine → line_number image a ≡ line_number image b → a < image.size → b < image.size
same_line_below image a b fits same below = pick (nat_lt b image.size) refl
  where
    pick : (c : Bool) → nat_lt b image.size ≡ c → b < image.size
    pick true e = grind (arith, nat_tests)
    pick false e =
        let past : image.size ≤ b = grind (arith, nat_tests) in
        let high = place-past image.machine image.size b fits past in
        let low =
        line_below image.machine.line_length (place image.machine image.size a) (place image.machine image.size b) (place image.machine image.size image.size)
        fits.is.line_length same (place-inside image.machine image.size a fits below) (places-whole image.machine image.size fits) in
        absurd (omega (arith, high, low))

-- its number is one of those of lines
pub number_counted : (image : LoadedImage) (a : ℕ) → IsMachineFor image.size image.machine → a < image.size → line_number image a < line_count image
number_counted image a fits below =
    number_below image.machine.line_length (place image.machine image.size a) (place image.machine image.size image.size) fits.is.line_length
    (place-inside image.machine image.size a fits below) (places-whole image.machine image.size fits)

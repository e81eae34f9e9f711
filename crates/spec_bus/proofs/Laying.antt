-- Memory by places: each byte stands at its place.
use Rattle.std.proofs.Common.{◌≡◌, ◌≢◌, ℕ, zero, suc, ◌+◌, ◌-◌, ◌<◌, ◌≤◌, ◌==◌, nat_lt, ◌++◌, Bool, true, false, ◌⊎◌, inl, inr, ◌∷◌, [], List, length, slice_index, Some, refl, sym, ap, subst, ◌∙◌, length-append, add-one, arith}
use Rattle.std.proofs.Math.ListN.{set, replicate, get_or-append}
use Rattle.std.proofs.lemmas.Bool.Decides.{nat_tests}
use Rattle.std.proofs.lemmas.List.{append_assoc, get_or-set_same, get_or-set_other, get_or_past, length-set, length-replicate, replicate-append-replicate}
use Rattle.memory_bytes.proofs.SmallFacts.{none_or_some}
use Rattle.rv32_image.specs.declared.apart.Apart.{Apart}
use Rattle.rv32_image.specs.declared.machine.Machine.{Machine}
use Rattle.rv32_image.specs.Image.{LoadedImage}
use Rattle.rv32_image.specs.Machine.{IsMachineFor}
use Rattle.rv32_image.specs.Places.{lies_apart, place, of_places}
use Rattle.rv32_image.proofs.Places.{place-none, place-one, place-inside, place-past, place-stays, place-up, places-whole}
use Rattle.spec_bus.specs.Fresh.{laid, laid_by, by_places}

-- one more byte behind memory
pub more_zeros : (bytes : List ℕ) (n m : ℕ) → m ≡ n + 1 → (bytes ++ replicate n 0) ++ 0 ∷ [] ≡ bytes ++ replicate m 0
more_zeros bytes n m e = append_assoc bytes (replicate n 0) (0 ∷ []) ∙ ap (λ (zs : List ℕ). bytes ++ zs) (replicate-append-replicate n 1 0 ∙ ap (λ k. replicate k 0) (sym e))

module _ (image : LoadedImage) (fits : IsMachineFor image.size image.machine) (long : length image.bytes ≡ image.size) where
  abbrev at : ℕ → ℕ
  at a = place image.machine image.size a

  pub laid-none : (first : ℕ) → laid image first 0 ≡ image.bytes ++ replicate (at image.size - image.size) 0
  unfolding laid
  laid-none first = refl

  pub laid-more : (first n m : ℕ) → m ≡ n + 1
      → set (laid image first n) (at (first + n)) (slice_index image.bytes (first + n)) ≡ laid image first m
  unfolding laid
  laid-more first n m e = ap (laid image first) (sym (e ∙ add-one n))

  pub laid-length : (first n : ℕ) → length (laid image first n) ≡ at image.size
  unfolding laid
  laid-length first zero =
      let up = place-up image.machine image.size image.size image.size fits (omega arith) (omega arith) in
      let ends = length-append image.bytes (replicate (at image.size - image.size) 0) in
      let zeros = length-replicate {A = ℕ} (at image.size - image.size) 0 in
      omega (arith, up, ends, zeros, long)
  laid-length first (suc n) = length-set (laid image first n) (at (first + n)) (slice_index image.bytes (first + n)) ∙ laid-length first n

  -- a byte that stays, or that was put into its place
  laid-byte : (apart : Apart) → image.machine.apart ≡ Some apart → (n a : ℕ) → a < image.size
      → (lies_apart apart a ≡ false) ⊎ ((apart.first ≤ a) × (a < apart.first + n)) → slice_index (laid image apart.first n) (at a) ≡ slice_index image.bytes a
  unfolding laid
  laid-byte apart is zero a lt (inl stays) =
      ap (λ p. slice_index (image.bytes ++ replicate (at image.size - image.size) 0) p) (place-stays image.machine apart image.size a is stays lt)
      ∙ get_or-append image.bytes (replicate (at image.size - image.size) 0) 0 a (omega arith)
  laid-byte apart is zero a lt (inr within) = absurd (omega (arith, within))
  laid-byte apart is (suc n) a lt where_is = pick (λ w. laid-byte apart is n a lt w) (a == apart.first + n) refl where_is
    where
      less : (lies_apart apart a ≡ false) ⊎ ((apart.first ≤ a) × (a < apart.first + suc n)) → a ≢ apart.first + n
          → (lies_apart apart a ≡ false) ⊎ ((apart.first ≤ a) × (a < apart.first + n))
      less (inl stays) away = inl stays
      less (inr within) away = inr (within.0, omega (arith, within.1, away))

      pick : ((lies_apart apart a ≡ false) ⊎ ((apart.first ≤ a) × (a < apart.first + n)) → slice_index (laid image apart.first n) (at a) ≡ slice_index image.bytes a)
          → (b : Bool) → (a == apart.first + n) ≡ b → (lies_apart apart a ≡ false) ⊎ ((apart.first ≤ a) × (a < apart.first + suc n))
          → slice_index (set (laid image apart.first n) (at (apart.first + n)) (slice_index image.bytes (apart.first + n))) (at a) ≡ slice_index image.bytes a
      pick before true e w =
          let same : a ≡ apart.first + n = grind (arith, nat_tests) in
          let inside : at a < length (laid image apart.first n) = subst (λ m. at a < m) (sym (laid-length apart.first n)) (place-inside image.machine image.size a fits lt) in
          subst (λ b. slice_index (set (laid image apart.first n) (at b) (slice_index image.bytes b)) (at a) ≡ slice_index image.bytes a) same
          (get_or-set_same (laid image apart.first n) (at a) (slice_index image.bytes a) 0 inside)
      pick before false e w =
          let away : a ≢ apart.first + n = grind (arith, nat_tests) in
          get_or-set_other (laid image apart.first n) (at (apart.first + n)) (at a) (slice_index image.bytes (apart.first + n)) 0
          (λ same. away (place-one image.machine image.size a (apart.first + n) fits same))
          ∙ before (less w away)

  pub by_places-length : length (by_places image).bytes ≡ at image.size
  by_places-length =
      elim (none_or_some image.machine.apart) [
        | inl none ↦ subst (λ o. length (laid_by image o) ≡ at image.size) (sym none) (long ∙ sym (place-none image.machine image.size image.size none))
        | inr x ↦ subst (λ o. length (laid_by image o) ≡ at image.size) (sym x.1) (laid-length x.0.first x.0.length)
      ]

  inside-byte : (a : ℕ) → a < image.size → slice_index (by_places image).bytes (at a) ≡ slice_index image.bytes a
  inside-byte a lt =
      elim (none_or_some image.machine.apart) [
        | inl none ↦ subst (λ o. slice_index (laid_by image o) (at a) ≡ slice_index image.bytes a) (sym none)
            (ap (λ p. slice_index image.bytes p) (place-none image.machine image.size a none))
        | inr x ↦ subst (λ o. slice_index (laid_by image o) (at a) ≡ slice_index image.bytes a) (sym x.1)
            (laid-byte x.0 x.1 x.0.length a lt (pick x.0 (lies_apart x.0 a) refl))
      ]
    where
      pick : (apart : Apart) (b : Bool) → lies_apart apart a ≡ b → (lies_apart apart a ≡ false) ⊎ ((apart.first ≤ a) × (a < apart.first + apart.length))
      pick apart true e = inr (grind (arith, nat_tests), grind (arith, nat_tests))
      pick apart false e = inl e

  -- each byte, also past the end
  pub by_places-byte : (a : ℕ) → slice_index (by_places image).bytes (at a) ≡ slice_index image.bytes a
  by_places-byte a = pick (nat_lt a image.size) refl
    where
      pick : (b : Bool) → nat_lt a image.size ≡ b → slice_index (by_places image).bytes (at a) ≡ slice_index image.bytes a
      pick true e = inside-byte a (grind (arith, nat_tests))
      pick false e =
          let le : image.size ≤ a = grind (arith, nat_tests) in
          let past = place-past image.machine image.size a fits le in
          get_or_past (by_places image).bytes (at a) 0 (omega (arith, past, by_places-length))
          ∙ sym (get_or_past image.bytes a 0 (omega arith))

-- the machine of places fits all places
pub of_places-fits : (machine : Machine) (size : ℕ) → IsMachineFor size machine → IsMachineFor (place machine size size) (of_places machine)
of_places-fits machine size fits = record {
  is = record {
    line_length = fits.is.line_length;
    sets = fits.is.sets;
    some_way = fits.is.some_way;
    few_ways = fits.is.few_ways;
    some_line = fits.is.some_line;
    few_lines = fits.is.few_lines;
  };
  whole_lines = places-whole machine size fits;
  apart = λ some is. cc;
}

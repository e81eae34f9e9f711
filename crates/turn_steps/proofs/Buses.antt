-- How the lines of what the cores of a bus hold go on.
use Rattle.std.proofs.Common.{◌≡◌, ℕ, zero, suc, ◌+◌, ◌<◌, List, [], ◌∷◌, ◌++◌, length, slice_get, Some, refl, ap, sym, subst, ◌∙◌, arith, add-one, append_assoc}
use native.Mathlib.Decide.{dec_lt}
use Rattle.std.proofs.lemmas.List.{append-nil, length_push}
use Rattle.rv32_image.proofs.SmallFacts.{one_value}
use Rattle.rv32_image.specs.declared.machine.Machine.{Machine}
use Rattle.spec_bus.specs.Cached.{CachedView}
use Rattle.spec_bus.specs.Laws.{IsPlacedCore}
use Rattle.turn_steps.specs.Caches.{AreHeld, Held, held_changes, changes, held}

pub held_changes-none : (text : List ℕ) (machine : Machine) (old now : CachedView) → text ≡ text ++ held_changes machine old now 0
unfolding held_changes
held_changes-none text machine old now = sym (append-nil text)

more : (machine : Machine) (old now : CachedView) (core : ℕ) → held_changes machine old now (suc core) ≡ held_changes machine old now core ++ changes machine core (held machine old core) (held machine now core)
unfolding held_changes
more machine old now core = refl

-- one core more, of which this was shown
pub held_changes-more : (first text : List ℕ) (machine : Machine) (old now : CachedView) (count : ℕ) (shown : List Held) (core : ℕ) (was is : Held) → slice_get shown core ≡ Some was → core < count
    → AreHeld machine old count shown → is ≡ held machine now core → text ≡ first ++ held_changes machine old now core
    → text ++ changes machine core was is ≡ first ++ held_changes machine old now (core + 1)
held_changes-more first text machine old now count shown core was is there below held_before now_is so =
    let was_is : was ≡ held machine old core = one_value (slice_get shown core) was (held machine old core) there (held_before.each core below) in
    ap (λ t. t ++ changes machine core was is) so
    ∙ (append_assoc first (held_changes machine old now core) (changes machine core was is)
    ∙ (ap (λ t. first ++ (held_changes machine old now core ++ t)) (ap (λ w. changes machine core w is) was_is ∙ ap (λ w. changes machine core (held machine old core) w) now_is)
    ∙ ap (λ t. first ++ t) (sym (more machine old now core) ∙ sym (ap (held_changes machine old now) (add-one core)))))

-- ---- what the cores hold, one by one

pub none_held : (machine : Machine) (v : CachedView) (cores : List Held) → cores ≡ [] → AreHeld machine v 0 cores
none_held machine v cores is = record {
  count_is = ap length is;
  each = λ k below. absurd (omega (arith, below));
  placed = λ k below. absurd (omega (arith, below));
}

before_last : (xs : List Held) (x : Held) (k : ℕ) → k < length xs → slice_get (xs ++ x ∷ []) k ≡ slice_get xs k
before_last [] x k below = absurd (omega arith)
before_last (y ∷ ys) x zero below = refl
before_last (y ∷ ys) x (suc k) below = before_last ys x k (omega arith)

at_last : (xs : List Held) (x : Held) → slice_get (xs ++ x ∷ []) (length xs) ≡ Some x
at_last [] x = refl
at_last (y ∷ ys) x = at_last ys x

pub more_held : (machine : Machine) (v : CachedView) (n : ℕ) (xs : List Held) (x : Held) (new : List Held) → AreHeld machine v n xs → x ≡ held machine v n → IsPlacedCore v.cores n → new ≡ xs ++ x ∷ []
    → AreHeld machine v (n + 1) new
more_held machine v n xs x new are is placed pushed = record {
  count_is = ap length pushed ∙ (length_push xs x ∙ ap (λ k. k + 1) are.count_is);
  each = λ k below. ap (λ l. slice_get l k) pushed ∙ elim (dec_lt k n) [
    | yes there ↦
        let inside : k < length xs = omega (arith, there, are.count_is) in
        before_last xs x k inside ∙ are.each k there
    | no past ↦
        let last : k ≡ n = omega (arith, below, past) in
        ap (slice_get (xs ++ x ∷ [])) (last ∙ sym are.count_is) ∙ (at_last xs x ∙ (ap Some is ∙ ap (λ j. Some (held machine v j)) (sym last)))
  ];
  placed = λ k below. elim (dec_lt k n) [
    | yes there ↦ are.placed k there
    | no past ↦ let last : k ≡ n = omega (arith, below, past) in subst (IsPlacedCore v.cores) (sym last) placed
  ];
}

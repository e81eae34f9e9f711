-- What the rule of the store says of a violation, in the words of the report: its kind is known.
use Rattle.std.proofs.Common.{◌≡◌, ◌≢◌, ◌⊎◌, ℕ, zero, suc, ◌+◌, ◌*◌, ◌/◌, ◌%◌, ◌<◌, ◌≤◌, ◌==◌, ◌&&◌, ◌||◌, not, Bool, true, false, nat_lt, is_some, List, [], ◌∷◌, length, All, if◌then◌else◌, refl, sym, ap, subst, ◌∙◌, inl, inr, arith, eq-eqb, ne_eqb, lt-ltb, le-leb}
use Rattle.std.specs.List.{list_any}
use Rattle.std.proofs.lemmas.Bool.{cases_eq, and_from, or_left, or_right}
use Rattle.std.proofs.lemmas.List.Elements.{All-nil, All-cons, All-head, All-tail, All-weaker}
use Rattle.rv32_image.specs.Image.{LoadedImage}
use Rattle.rv32_image.specs.Machine.{IsMachineFor}
use Rattle.rv32_image.specs.Places.{place}
use Rattle.rv32_image.proofs.Bounds.{same_number}
use Rattle.spec_history.specs.declared.entry.What.{What}
use Rattle.spec_history.specs.declared.entry.What.TheVariants.{Load, Store}
use Rattle.spec_history.specs.FlatState.{CoreState}
use Rattle.spec_history.proofs.Searches.Lines.{line_passes, number_counted, same_line_below}
use Rattle.spec_history.proofs.Searches.Tests.{one_passes, count_same}
use Rattle.spec_history.specs.Refusal.{any_below}
use Rattle.spec_history.specs.declared.kind.Kind.{Kind}
use Rattle.spec_history.specs.declared.kind.Kind.TheVariants.{TrueSharing, SilentStore, FalseSharing, FullBuffer, Unexplained}
use Rattle.spec_history.specs.Conflict.{Meeting, kind_with, is_changed, is_shared, is_beside, is_crowded, is_full_at, holds_line}
use Rattle.spec_history.specs.Conflict as conflict
use Rattle.spec_history.specs.Searches.{count_below}
use Rattle.violations.specs.View.{Shape, StoreView}
use Rattle.violations.specs.View as view
use Rattle.violations.specs.Rule.{OwnsIn, AreApart, IsCrowded, shape_of}
use Rattle.homefree.specs.Agrees.{HasReadIn}

abbrev pub line_length : LoadedImage → ℕ
line_length image = image.machine.line_length

-- ---- a kind

by_tests : (a b c d : Bool) → (c || d) ≡ true → (if a then TrueSharing else if b then SilentStore else if c then FalseSharing else if d then FullBuffer else Unexplained) ≢ Unexplained
by_tests true b c d is same = cc
by_tests false true c d is same = cc
by_tests false false true d is same = cc
by_tests false false false true is same = cc
by_tests false false false false is same = cc

kind_is : (image : LoadedImage) (m : Meeting) (cause : What) → (any_below image.size (is_beside image m) || is_crowded image m cause) ≡ true → kind_with image m cause ≢ Unexplained
kind_is image m cause is =
    by_tests (any_below image.size (is_changed m)) (any_below image.size (is_shared m)) (any_below image.size (is_beside image m)) (is_crowded image m cause) is

-- ---- lines

pub line_in : (image : LoadedImage) (count : ℕ) (shape : Shape) (a b : ℕ) → IsMachineFor image.size image.machine → shape ≡ shape_of image count → view.line_of shape a ≡ view.line_of shape b
    → conflict.line_number image a ≡ conflict.line_number image b
line_in image count shape a b fits is same =
    same_number (line_length image) (place image.machine image.size a) (place image.machine image.size b) fits.is.line_length
    (ap (λ (s : Shape). view.line_of s a) (sym is) ∙ (same ∙ ap (λ (s : Shape). view.line_of s b) is))

-- ---- bytes that meet in a line

pub is_met : (image : LoadedImage) (count : ℕ) (v : StoreView) (m : Meeting) (cause : What) (c : CoreState) (a : ℕ) → IsMachineFor image.size image.machine → v.shape ≡ shape_of image count
    → ((x : ℕ) → m.reads x ≡ c.outside x) → ((x : ℕ) → is_some (c.outside x) ≡ true → x < image.size) → is_some (m.writes a) ≡ true → HasReadIn v c a
    → kind_with image m cause ≢ Unexplained
is_met image count v m cause c a fits is reads within written read =
    kind_is image m cause (or_left _ (is_crowded image m cause)
    (one_passes image.size (is_beside image m) read.at (within read.at read.read)
    (and_from (is_some (m.reads read.at)) _ (ap (λ o. is_some o) (reads read.at) ∙ read.read)
    (line_passes image (conflict.line_number image read.at) a (λ b. is_some (m.writes b))
    (same_line_below image read.at a fits in_line (within read.at read.read)) (sym in_line) written))))
  where
    in_line : conflict.line_number image read.at ≡ conflict.line_number image a
    in_line = line_in image count v.shape read.at a fits is read.in_line

shared_kind : (a b : Bool) (rest : Kind) → b ≡ true
    → ((if a then TrueSharing else if b then SilentStore else rest) ≡ TrueSharing) ⊎ ((if a then TrueSharing else if b then SilentStore else rest) ≡ SilentStore)
shared_kind true b rest is = inl refl
shared_kind false true rest is = inr refl
shared_kind false false rest is = absurd cc

-- without caches they are one byte
pub is_shared_byte : (image : LoadedImage) (v : StoreView) (m : Meeting) (cause : What) (c : CoreState) (a : ℕ) → v.cached ≡ false
    → ((x : ℕ) → m.reads x ≡ c.outside x) → ((x : ℕ) → is_some (c.outside x) ≡ true → x < image.size) → is_some (m.writes a) ≡ true → HasReadIn v c a
    → (kind_with image m cause ≡ TrueSharing) ⊎ (kind_with image m cause ≡ SilentStore)
is_shared_byte image v m cause c a alone reads within written read =
    let here : is_some (c.outside a) ≡ true = subst (λ x. is_some (c.outside x) ≡ true) (read.itself alone) read.read in
    shared_kind (any_below image.size (is_changed m)) (any_below image.size (is_shared m)) _
    (one_passes image.size (is_shared m) a (within a here)
    (and_from (is_some (m.writes a)) (is_some (m.reads a)) written (ap (λ o. is_some o) (reads a) ∙ here)))

-- ---- numbers that pass, counted

-- all that pass the test but one
abbrev pub but : (ℕ → Bool) → ℕ → ℕ → Bool
but test i j = not (j == i) && test j

-- each other passes still
pub unless_this : (test : ℕ → Bool) (i j : ℕ) → j ≢ i → but test i j ≡ test j
unless_this test i j other = rw (ne_eqb j i other) refl

-- and this one doesn't
pub not_this : (test : ℕ → Bool) (i : ℕ) → but test i i ≡ false
not_this test i = rw (eq-eqb i i refl) refl

-- without one that passes there is one fewer
one_fewer : (n : ℕ) (test : ℕ → Bool) (i : ℕ) → i < n → test i ≡ true → count_below n test ≡ count_below n (but test i) + 1
unfolding count_below
one_fewer zero test i below passes = absurd (omega (arith, below))
one_fewer (suc n) test i below passes = elim (cases_eq i n) [
  | inl e ↦
      (let others : count_below n test ≡ count_below n (but test n) = count_same n test (but test n) (λ k low. sym (unless_this test n k (λ same. absurd (omega (arith, same, low))))) in
      rw (e, others, not_this test n, sym (ap test e) ∙ passes) (omega arith))
  | inr other ↦
      (let rest = one_fewer n test i (omega (arith, below, other)) passes in
      rw (rest, unless_this test i n (λ same. other (sym same))) (last (count_below n (but test i)) (if test n then 1 else 0)))
]
  where
    last : (m k : ℕ) → m + 1 + k ≡ m + k + 1
    last m k = omega arith

-- the line is that of a number below n that passes
record IsOf (length n : ℕ) (test : ℕ → Bool) (line : ℕ) : Type 0 where
  pub number : ℕ
  pub is : line ≡ length * number
  pub below : number < n
  pub passes : test number ≡ true

first_other : (line other : ℕ) (b : Bool) → ((other == line) || b) ≡ false → (other ≢ line) × (b ≡ false)
first_other line other true is = absurd (let x : ⊥ = cases (other == line) is in x)
  where
    cases : (c : Bool) → (c || true) ≡ false → ⊥
    cases true e = cc
    cases false e = cc
first_other line other false is = (λ same. clash (other == line) is (eq-eqb other line same), refl)
  where
    clash : (c : Bool) → (c || false) ≡ false → c ≡ true → ⊥
    clash true e f = cc
    clash false e f = cc

still_of : (length n : ℕ) (test : ℕ → Bool) (line i : ℕ) (lines : List ℕ) → line ≡ length * i → list_any (λ other. other == line) lines ≡ false
    → All (IsOf length n test) lines → All (IsOf length n (but test i)) lines
still_of length n test line i [] is apart all = All-nil (IsOf length n (but test i))
still_of length n test line i (x ∷ xs) is apart all =
    let two = first_other line x (list_any (λ other. other == line) xs) apart in
    let one = All-head (IsOf length n test) x xs all in
    All-cons (IsOf length n (but test i)) x xs
    (record {
      number = one.number;
      is = one.is;
      below = one.below;
      passes = unless_this test i one.number (λ same. two.0 (one.is ∙ (ap (λ k. length * k) same ∙ sym is))) ∙ one.passes;
    })
    (still_of length n test line i xs is two.1 (All-tail (IsOf length n test) x xs all))

-- lines apart are no more than the numbers that pass
at_most : (long n : ℕ) (lines : List ℕ) (test : ℕ → Bool) → AreApart lines → All (IsOf long n test) lines → length lines ≤ count_below n test
at_most long n [] test apart all = omega arith
at_most long n (line ∷ lines) test apart all =
    let one = All-head (IsOf long n test) line lines all in
    let rest = at_most long n lines (but test one.number) apart.1
    (still_of long n test line one.number lines one.is apart.0 (All-tail (IsOf long n test) line lines all)) in
    let fewer = one_fewer n test one.number one.below one.passes in
    omega (arith, rest, fewer)

-- ---- a full buffer

module _ (image : LoadedImage) (count : ℕ) (v : StoreView) (m : Meeting) (c : CoreState) (k address : ℕ) (shape : v.shape ≡ shape_of image count)
    (fits : IsMachineFor image.size image.machine) (stores : (x : ℕ) → m.stores x ≡ c.own x) (own : (x : ℕ) → v.own k x ≡ is_some (c.own x)) where
  holds_at : (a : ℕ) → a < image.size → v.own k a ≡ true → holds_line image m (conflict.line_number image a) ≡ true
  holds_at a below owned = line_passes image (conflict.line_number image a) a (λ b. is_some (m.stores b)) below refl (ap (λ o. is_some o) (stores a) ∙ (sym (own a) ∙ owned))

  first_byte : (line a : ℕ) → view.line_of v.shape a ≡ line → line ≡ line_length image * conflict.line_number image a
  first_byte line a is = sym is ∙ ap (λ (s : Shape). view.line_of s a) shape

  below_size : (a : ℕ) → a < v.shape.size → a < image.size
  below_size a below = subst (λ n. a < n) (ap (λ (s : Shape). s.size) shape) below

  abbrev holds_other : ℕ → Bool
  holds_other other = not (other == conflict.line_number image address) && holds_line image m other

  is_other : (line : ℕ) → (line ≢ view.line_of v.shape address) × OwnsIn v k line → IsOf (line_length image) (conflict.line_count image) holds_other line
  is_other line two =
      let o = two.1 in record {
        number = conflict.line_number image o.at;
        is = first_byte line o.at o.in_line;
        below = number_counted image o.at fits (below_size o.at o.within);
        passes = and_from (not (conflict.line_number image o.at == conflict.line_number image address)) _
            (ap not (ne_eqb (conflict.line_number image o.at) (conflict.line_number image address) (λ same. two.0
            (first_byte line o.at o.in_line ∙ (ap (λ n. line_length image * n) same ∙ sym (ap (λ (s : Shape). view.line_of s address) shape))))))
            (holds_at o.at (below_size o.at o.within) o.owned);
      }

  is_full : IsCrowded v k address → is_full_at image m (conflict.line_number image address) ≡ true
  is_full crowded =
      let here = crowded.here in
      let same = line_in image count v.shape here.at address fits shape here.in_line in
      let all = All-weaker (λ line. (line ≢ view.line_of v.shape address) × OwnsIn v k line) (IsOf (line_length image) (conflict.line_count image) holds_other) is_other crowded.others crowded.each in
      let many = at_most (line_length image) (conflict.line_count image) crowded.others holds_other crowded.apart all in
      let full = crowded.full in
      let limit : v.shape.machine.buffer_lines ≡ image.machine.buffer_lines = ap (λ (s : Shape). s.machine.buffer_lines) shape in
      and_from (holds_line image m (conflict.line_number image address)) _ (ap (holds_line image m) (sym same) ∙ holds_at here.at (below_size here.at here.within) here.owned)
      (le-leb image.machine.buffer_lines (count_below (conflict.line_count image) holds_other) (omega (arith, many, full, limit)))

  -- it lies in memory, as the byte that is owned there
  below_it : IsCrowded v k address → nat_lt address image.size ≡ true
  below_it crowded =
      let here = crowded.here in
      lt-ltb address image.size
      (same_line_below image here.at address fits (line_in image count v.shape here.at address fits shape here.in_line) (below_size here.at here.within))

  pub load_crowded : (width value : ℕ) → IsCrowded v k address → kind_with image m (Load address width value) ≢ Unexplained
  load_crowded width value crowded =
      kind_is image m (Load address width value) (or_right (any_below image.size (is_beside image m)) _ (and_from (nat_lt address image.size) _ (below_it crowded) (is_full crowded)))

  pub store_crowded : (width value : ℕ) → IsCrowded v k address → kind_with image m (Store address width value) ≢ Unexplained
  store_crowded width value crowded =
      kind_is image m (Store address width value) (or_right (any_below image.size (is_beside image m)) _ (and_from (nat_lt address image.size) _ (below_it crowded) (is_full crowded)))

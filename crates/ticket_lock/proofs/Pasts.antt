-- Lists of entries: what begins what, and the entries of a range of numbers.
use Rattle.std.proofs.Common.{◌≡◌, ℕ, ◌<◌, ◌≤◌, Bool, true, false, cond, ltb, List, [], ◌∷◌, ◌++◌, length, refl, sym, ap, ◌∙◌, subst, arith, append_assoc, length-append}
use Rattle.std.specs.Prelude.{All}
use Rattle.std.proofs.lemmas.List.{append-nil}
use Rattle.std.proofs.lemmas.List.Elements.{filter-append, All-head, All-tail}
use Rattle.std.proofs.lemmas.Bool.Decides.{nat_tests}
use native.Mathlib.Decide.{dec_le}
use Rattle.ticket_lock.specs.Past.{StartsWith, is_of, entries_of, longer}

is_cases : {A : Type 0} (b : Bool) → (b ≡ true → A) → (b ≡ false → A) → A
is_cases true f g = f refl
is_cases false f g = g refl

module _ {X : Type 0} where
  nothing_added : (a b : List X) → a ++ b ≡ a → b ≡ []
  nothing_added a [] e = refl
  nothing_added a (x ∷ xs) e = absurd (omega (arith, length-append a (x ∷ xs), ap (λ (l : List X). length l) e))

  pub starts_itself : (xs : List X) → StartsWith xs xs
  starts_itself xs = record { rest = []; is = sym (append-nil xs) }

  pub starts_trans : {a b c : List X} → StartsWith a b → StartsWith b c → StartsWith a c
  starts_trans {a} {b} {c} p q = record { rest = q.rest ++ p.rest; is = p.is ∙ (ap (λ l. l ++ p.rest) q.is ∙ append_assoc c q.rest p.rest) }

  -- of two beginnings of one list, the shorter begins the longer
  shorter_starts : (p a b r s : List X) → p ≡ a ++ r → p ≡ b ++ s → length b ≤ length a → StartsWith a b
  shorter_starts p a [] r s e f le = record { rest = a; is = refl }
  shorter_starts p [] (y ∷ b) r s e f le = absurd (omega arith)
  shorter_starts p (x ∷ a) (y ∷ b) r s e f le =
      let same : x ∷ (a ++ r) ≡ y ∷ (b ++ s) = sym e ∙ f in
      let heads : x ≡ y = cc in
      let tails : a ++ r ≡ b ++ s = cc in
      let more = shorter_starts (a ++ r) a b r s refl tails (omega arith) in
      record { rest = more.rest; is = λ i. heads i ∷ more.is i }

  left_empty : (a b : List X) → a ++ b ≡ [] → a ≡ []
  left_empty [] b e = refl
  left_empty (x ∷ a) b e = absurd (cc)

  choose : (P : List X → Type 0) (a b : List X) (t : Bool) → (t ≡ true → P b) → (t ≡ false → P a) → P (cond t b a)
  choose P a b true second first = second refl
  choose P a b false second first = first refl

module _ {W : Type 0} where
  longer_cases : (P : List (ℕ × W) → Type 0) (a b : List (ℕ × W)) → (length a < length b → P b) → (length b ≤ length a → P a) → P (longer a b)
  longer_cases P a b second first = choose P a b (ltb (length a) (length b)) (λ e. second (grind (arith, nat_tests))) (λ e. first (grind (arith, nat_tests)))

  -- what both passes of a join have seen begins the past, and begins with what each has seen
  pub longer_begins : {past a b : List (ℕ × W)} → StartsWith past a → StartsWith past b → StartsWith past (longer a b)
  longer_begins {past} {a} {b} p q = longer_cases (λ l. StartsWith past l) a b (λ _. q) (λ _. p)

  pub first_begins : {past a b : List (ℕ × W)} → StartsWith past a → StartsWith past b → StartsWith (longer a b) a
  first_begins {past} {a} {b} p q = longer_cases (λ l. StartsWith l a) a b (λ lt. shorter_starts past b a q.rest p.rest q.is p.is (omega arith)) (λ _. starts_itself a)

  pub second_begins : {past a b : List (ℕ × W)} → StartsWith past a → StartsWith past b → StartsWith (longer a b) b
  second_begins {past} {a} {b} p q = longer_cases (λ l. StartsWith l b) a b (λ _. starts_itself b) (λ le. shorter_starts past a b p.rest q.rest p.is q.is le)

  -- a list that begins with another and has no more entries of a range has none of them in the rest
  rest_has_none : (lo hi : ℕ) {past seen : List (ℕ × W)} (p : StartsWith past seen) → entries_of lo hi past ≡ entries_of lo hi seen → entries_of lo hi p.rest ≡ []
  rest_has_none lo hi {past} {seen} p own =
      let E : List (ℕ × W) → List (ℕ × W) = λ l. entries_of lo hi l in
      nothing_added (E seen) (E p.rest) (sym (ap E p.is ∙ filter-append (is_of lo hi) seen p.rest) ∙ own)

  -- the same where the rest has none
  same_entries : (lo hi : ℕ) {past seen : List (ℕ × W)} (p : StartsWith past seen) → entries_of lo hi p.rest ≡ [] → entries_of lo hi past ≡ entries_of lo hi seen
  same_entries lo hi {past} {seen} p none =
      let E : List (ℕ × W) → List (ℕ × W) = λ l. entries_of lo hi l in
      ap E p.is ∙ (filter-append (is_of lo hi) seen p.rest ∙ (ap (λ l. E seen ++ l) none ∙ append-nil (E seen)))

  -- what lies between what a pass has seen and the past has the same entries of its numbers
  pub own_between : (lo hi : ℕ) {past more seen : List (ℕ × W)} → StartsWith past more → StartsWith more seen → entries_of lo hi past ≡ entries_of lo hi seen → entries_of lo hi more ≡ entries_of lo hi seen
  unfolding starts_trans
  own_between lo hi {past} {more} {seen} p q own =
      let E : List (ℕ × W) → List (ℕ × W) = λ l. entries_of lo hi l in
      let parts : E q.rest ++ E p.rest ≡ [] = sym (filter-append (is_of lo hi) q.rest p.rest) ∙ rest_has_none lo hi (starts_trans p q) own in
      same_entries lo hi q (left_empty (E q.rest) (E p.rest) parts)

  is_in : (lo hi : ℕ) (e : ℕ × W) → lo ≤ e.0 → e.0 < hi → is_of lo hi e ≡ true
  is_in lo hi e low high = grind (arith, nat_tests)

  is_out : (lo hi : ℕ) (e : ℕ × W) → (lo ≤ e.0 → e.0 < hi → ⊥) → is_of lo hi e ≡ false
  is_out lo hi e out = grind (arith, nat_tests)

  out_from : (lo hi : ℕ) (e : ℕ × W) → is_of lo hi e ≡ false → lo ≤ e.0 → e.0 < hi → ⊥
  out_from lo hi e is low high = grind (arith, nat_tests)

  taken : (lo hi : ℕ) (e : ℕ × W) (xs : List (ℕ × W)) → is_of lo hi e ≡ true → entries_of lo hi (e ∷ xs) ≡ e ∷ entries_of lo hi xs
  taken lo hi e xs is = ap (λ t. cond t (e ∷ entries_of lo hi xs) (entries_of lo hi xs)) is

  left_out : (lo hi : ℕ) (e : ℕ × W) (xs : List (ℕ × W)) → is_of lo hi e ≡ false → entries_of lo hi (e ∷ xs) ≡ entries_of lo hi xs
  left_out lo hi e xs is = ap (λ t. cond t (e ∷ entries_of lo hi xs) (entries_of lo hi xs)) is

  -- a range that is cut out of another has the same entries, taken from all or from the other range
  pub entries_of-entries_of : (lo hi low high : ℕ) → low ≤ lo → hi ≤ high → (xs : List (ℕ × W)) → entries_of lo hi (entries_of low high xs) ≡ entries_of lo hi xs
  entries_of-entries_of lo hi low high a b [] = refl
  entries_of-entries_of lo hi low high a b (x ∷ xs) =
      let E : List (ℕ × W) → List (ℕ × W) = λ l. entries_of lo hi l in
      let ih = entries_of-entries_of lo hi low high a b xs in
      is_cases (is_of low high x)
      (λ t. ap E (taken low high x xs t) ∙ ap (λ l. cond (is_of lo hi x) (x ∷ l) l) ih)
      (λ f. ap E (left_out low high x xs f) ∙ (ih ∙ sym (left_out lo hi x xs (is_out lo hi x (λ c d. out_from low high x f (omega arith) (omega arith))))))

  pub own_entries : (who lo hi : ℕ) → lo ≤ who → who < hi → (xs : List (ℕ × W)) → All (λ e. e.0 ≡ who) xs → entries_of lo hi xs ≡ xs
  own_entries who lo hi a b [] by = refl
  own_entries who lo hi a b (x ∷ xs) by =
      let P : ℕ × W → Type 0 = λ e. e.0 ≡ who in
      let is : x.0 ≡ who = All-head P x xs by in
      taken lo hi x xs (is_in lo hi x (omega arith) (omega arith)) ∙ ap (λ l. x ∷ l) (own_entries who lo hi a b xs (All-tail P x xs by))

  pub no_entries : (who lo hi : ℕ) → (lo ≤ who → who < hi → ⊥) → (xs : List (ℕ × W)) → All (λ e. e.0 ≡ who) xs → entries_of lo hi xs ≡ []
  no_entries who lo hi out [] by = refl
  no_entries who lo hi out (x ∷ xs) by =
      let P : ℕ × W → Type 0 = λ e. e.0 ≡ who in
      let is : x.0 ≡ who = All-head P x xs by in
      left_out lo hi x xs (is_out lo hi x (λ c d. out (omega arith) (omega arith))) ∙ no_entries who lo hi out xs (All-tail P x xs by)

  cons_is_not_nil : (lo hi : ℕ) (e : ℕ × W) (xs : List (ℕ × W)) → entries_of lo hi (e ∷ xs) ≡ [] → is_of lo hi e ≡ false
  cons_is_not_nil lo hi e xs none = is_cases (is_of lo hi e) (λ t. let bad : e ∷ entries_of lo hi xs ≡ [] = sym (taken lo hi e xs t) ∙ none in absurd (cc)) (λ f. f)

  -- a range has no entries where its two parts have none
  none_of_both : (lo mid hi : ℕ) (xs : List (ℕ × W)) → entries_of lo mid xs ≡ [] → entries_of mid hi xs ≡ [] → entries_of lo hi xs ≡ []
  none_of_both lo mid hi [] a b = refl
  none_of_both lo mid hi (x ∷ xs) a b =
      let f = cons_is_not_nil lo mid x xs a in
      let g = cons_is_not_nil mid hi x xs b in
      left_out lo hi x xs (is_out lo hi x (λ c d. elim (dec_le mid x.0) [ yes e ↦ out_from mid hi x g e d | no n ↦ out_from lo mid x f c (omega arith) ]))
      ∙ none_of_both lo mid hi xs (sym (left_out lo mid x xs f) ∙ a) (sym (left_out mid hi x xs g) ∙ b)

  -- after a join: the longer beginning has all entries of both ranges, where each range has its own
  pub own_of_both : (lo mid hi : ℕ) {past seen : List (ℕ × W)} → StartsWith past seen → entries_of lo mid past ≡ entries_of lo mid seen → entries_of mid hi past ≡ entries_of mid hi seen → entries_of lo hi past ≡ entries_of lo hi seen
  own_of_both lo mid hi p a b = same_entries lo hi p (none_of_both lo mid hi p.rest (rest_has_none lo mid p a) (rest_has_none mid hi p b))

  -- a range that is cut out of one which has its own entries has its own too
  pub own_of_part : (lo hi low high : ℕ) (past seen : List (ℕ × W)) → low ≤ lo → hi ≤ high → entries_of low high past ≡ entries_of low high seen → entries_of lo hi past ≡ entries_of lo hi seen
  own_of_part lo hi low high past seen a b own =
      sym (entries_of-entries_of lo hi low high a b past) ∙ (ap (λ l. entries_of lo hi l) own ∙ entries_of-entries_of lo hi low high a b seen)

  all_of : (n : ℕ) (xs : List (ℕ × W)) → All (λ e. e.0 < n) xs → entries_of 0 n xs ≡ xs
  all_of n [] below = refl
  all_of n (x ∷ xs) below =
      let P : ℕ × W → Type 0 = λ e. e.0 < n in
      let lt : x.0 < n = All-head P x xs below in
      taken 0 n x xs (is_in 0 n x (omega arith) lt) ∙ ap (λ l. x ∷ l) (all_of n xs (All-tail P x xs below))

  all_of_rest : (P : ℕ × W → Type 0) (xs ys : List (ℕ × W)) → All P (xs ++ ys) → All P ys
  all_of_rest P [] ys all = all
  all_of_rest P (x ∷ xs) ys all = all_of_rest P xs ys (All-tail P x (xs ++ ys) all)

  -- a past of numbers below n, of which all that lie below n were seen, was seen whole
  pub whole_past : (n : ℕ) {past seen : List (ℕ × W)} → StartsWith past seen → entries_of 0 n past ≡ entries_of 0 n seen → All (λ e. e.0 < n) past → past ≡ seen
  whole_past n {past} {seen} p own below =
      let P : ℕ × W → Type 0 = λ e. e.0 < n in
      let rest : p.rest ≡ [] = sym (all_of n p.rest (all_of_rest P seen p.rest (subst (All P) p.is below))) ∙ rest_has_none 0 n p own in
      p.is ∙ (ap (λ l. seen ++ l) rest ∙ append-nil seen)

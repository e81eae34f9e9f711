-- The nearest of the lines in which the victim has stored, and how many there are.
use Rattle.std.proofs.Common.{◌≡◌, ℕ, zero, suc, ◌+◌, ◌<◌, ◌≤◌, ◌==◌, ◌&&◌, not, Bool, true, false, nat_le, nat_lt, is_some, List, length, slice_index, Some, refl, sym, ap, ◌∙◌, inl, inr, arith, le-leb, ltb-true, leb-true, ltb-false}
use Rattle.std.proofs.lemmas.Bool.{cases_eq, lt-leb, false_from_ne_true, and_parts, both_ways}
use Rattle.memory_bytes.specs.Shadow.{IsAmong}
use Rattle.rv32_image.specs.Image.{LoadedImage}
use Rattle.rv32_image.proofs.SmallFacts.{value_of}
use Rattle.spec_history.proofs.Searches.Lines.{passing_byte}
use Rattle.spec_history.specs.Searches.{IsNext, count_below}
use Rattle.spec_history.specs.Conflict.{Meeting, holds_line, line_number}
use Rattle.conflicts.specs.Parties.{holds_other}
use Rattle.spec_history.proofs.Searches.Tests.{count_none, count_one, count_up}
use Rattle.conflicts.proofs.Blaming.{either_way}

-- ---- the nearest of so many lines

-- none of the first lines that passes is nearer
pub record Nearest (lines : ℕ → ℕ) (test : ℕ → Bool) (from end count next : ℕ) : Type 0 where
  pub most : next ≤ end
  pub passes : next < end → (from ≤ next) × (test next ≡ true)
  pub tried : (k : ℕ) → k < count → from ≤ lines k → test (lines k) ≡ true → next ≤ lines k

pub none_tried : (lines : ℕ → ℕ) (test : ℕ → Bool) (from end : ℕ) → Nearest lines test from end 0 end
none_tried lines test from end = record {
  most = omega arith;
  passes = λ below. absurd (omega (arith, below));
  tried = λ k below after passes. absurd (omega (arith, below));
}

pub nearer : (lines : ℕ → ℕ) (test : ℕ → Bool) (from end count next : ℕ) → Nearest lines test from end count next
    → (nat_le from (lines count) && (nat_lt (lines count) next && test (lines count))) ≡ true → Nearest lines test from end (count + 1) (lines count)
nearer lines test from end count next was is =
    let first = and_parts (nat_le from (lines count)) (nat_lt (lines count) next && test (lines count)) is in
    let rest = and_parts (nat_lt (lines count) next) (test (lines count)) first.1 in
    let before : lines count < next = ltb-true (lines count) next rest.0 in
    record {
      most = omega (arith, before, was.most);
      passes = λ below. (leb-true from (lines count) first.0, rest.1);
      tried = λ k below after passes. elim (cases_eq k count) [
        | inl e ↦ omega (arith, ap lines e)
        | inr other ↦ omega (arith, before, was.tried k (omega (arith, below, other)) after passes)
      ];
    }

pub all_three : (a b c : Bool) → a ≡ true → b ≡ true → c ≡ true → (a && (b && c)) ≡ true
all_three true true true a b c = refl
all_three true true false a b c = c
all_three true false c a b d = b
all_three false b c a d e = a

pub no_nearer : (lines : ℕ → ℕ) (test : ℕ → Bool) (from end count next : ℕ) → Nearest lines test from end count next
    → (nat_le from (lines count) && (nat_lt (lines count) next && test (lines count))) ≡ false → Nearest lines test from end (count + 1) next
no_nearer lines test from end count next was is = record {
  most = was.most;
  passes = was.passes;
  tried = λ k below after passes. elim (cases_eq k count) [
    | inl e ↦ either_way (nat_lt (lines count) next) (next ≤ lines k)
        (λ before. absurd (both_ways (nat_le from (lines count) && (nat_lt (lines count) next && test (lines count))) is (all_three _ _ _ (le-leb from (lines count) (omega (arith, after, ap lines e))) before (sym (ap (λ j. test (lines j)) e) ∙ passes))))
        (λ past. omega (arith, ltb-false (lines count) next past, ap lines e))
    | inr other ↦ was.tried k (omega (arith, below, other)) after passes
  ];
}

-- where each line that passes is among them, the nearest of them is the next
pub next_of : (lines : ℕ → ℕ) (test : ℕ → Bool) (from end count next : ℕ) → Nearest lines test from end count next
    → ((j : ℕ) → test j ≡ true → (k : ℕ) × (k < count) × (lines k ≡ j)) → IsNext test from end next
next_of lines test from end count next was listed = record {
  most = was.most;
  passes = was.passes;
  first = λ j after before. false_from_ne_true (test j) (λ passes.
      let at = listed j passes in
      omega (arith, before, at.2, was.tried at.0 at.1 (omega (arith, after, at.2)) (ap test at.2 ∙ passes)));
}

-- ---- the lines in which the victim has stored

pub held_line : (image : LoadedImage) (m : Meeting) (addresses : List ℕ) (line j : ℕ) → ((a byte : ℕ) → m.stores a ≡ Some byte → IsAmong a addresses)
    → holds_other image m line j ≡ true → (k : ℕ) × (k < length addresses) × (line_number image (slice_index addresses k) ≡ j)
held_line image m addresses line j listed holds =
    let both = and_parts (not (j == line)) (holds_line image m j) holds in
    let found = passing_byte image j (λ a. is_some (m.stores a)) both.1 in
    let byte = value_of (m.stores found.at) found.passes in
    let among = listed found.at byte.0 byte.1 in
    (among.place, among.within, ap (line_number image) among.is ∙ found.in_line)

-- ---- a count that goes from one to the next

skipped : (n : ℕ) (test : ℕ → Bool) → test n ≡ false → count_below (suc n) test ≡ count_below n test
unfolding count_below
skipped n test fails = rw fails (omega arith)

pub count_past : (from n : ℕ) (test : ℕ → Bool) → from ≤ n → ((j : ℕ) → from ≤ j → j < n → test j ≡ false) → count_below n test ≡ count_below from test
count_past from zero test most none = ap (λ k. count_below k test) (omega (arith, most))
count_past from (suc n) test most none = elim (cases_eq from (suc n)) [
  | inl e ↦ ap (λ k. count_below k test) (sym e)
  | inr other ↦ skipped n test (none n (omega (arith, most, other)) (omega arith)) ∙ count_past from n test (omega (arith, most, other)) (λ j after below. none j after (omega (arith, below)))
]

-- what is so after the first numbers: none was passed over
pub record IsCounted (test : ℕ → Bool) (end from count : ℕ) : Type 0 where
  pub within : from ≤ end
  pub counted : count ≡ count_below from test

pub none_counted : (test : ℕ → Bool) (end : ℕ) → IsCounted test end 0 0
none_counted test end = record { within = omega arith; counted = count_none test }

-- one more is found
pub one_found : (test : ℕ → Bool) (from end found lines count : ℕ) → IsNext test from end found → lines ≡ end → found < lines → IsCounted test end from count → IsCounted test end (found + 1) (count + 1)
one_found test from end found lines count next is below was =
    let passes = next.passes (omega (arith, is, below)) in
    record {
      within = omega (arith, is, below);
      counted = count_one found count test (was.counted ∙ sym (count_past from found test passes.0 next.first)) passes.1;
    }

-- there are too few
pub too_few : (test : ℕ → Bool) (from end found lines count wanted : ℕ) → IsNext test from end found → lines ≡ end → lines ≤ found → IsCounted test end from count → count < wanted
    → false ≡ nat_le wanted (count_below end test)
too_few test from end found lines count wanted next is past was few =
    let last : found ≡ end = omega (arith, is, past, next.most) in
    let counted = count_past from end test was.within (λ j after before. next.first j after (omega (arith, before, last))) in
    sym (lt-leb wanted (count_below end test) (omega (arith, few, was.counted, counted)))

-- there are enough
pub enough : (test : ℕ → Bool) (from end count wanted : ℕ) → IsCounted test end from count → wanted ≤ count → true ≡ nat_le wanted (count_below end test)
enough test from end count wanted was all = sym (le-leb wanted (count_below end test) (omega (arith, was.counted, all, count_up from end test was.within)))

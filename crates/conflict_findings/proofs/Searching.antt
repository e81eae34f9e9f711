-- Which addresses were read, and those in order.
use Rattle.std.proofs.Common.{◌≡◌, ℕ, ◌<◌, ◌≤◌, ◌==◌, Bool, true, false, cond, is_some, nat_lt, List, length, slice_index, Option, Some, refl, ap, subst, ◌∙◌, arith, ltb-true, ltb-false}
use Rattle.std.proofs.lemmas.Bool.{and_parts}
use Rattle.std.specs.List.Sorted.{IsPermutation, IsSorted}
use Rattle.std.specs.Ordering.{is_lt, nat_cmp}
use Rattle.std.specs.declared.cmp.Ordering.TheVariants.{Less, Equal, Greater}
use Rattle.std.proofs.lemmas.Cmp.{nat_cmp_total}
use Rattle.std.proofs.lemmas.List.{get_or_default}
use Rattle.std.proofs.lemmas.List.Elements.{Contains-get_or}
use Rattle.std.proofs.lemmas.List.Sorted.{Contains-permutation, IsPermutation-sym, ranks_by, sorted_far}
use Rattle.memory_bytes.specs.Shadow.{IsAmong}
use Rattle.rv32_image.specs.Image.{LoadedImage}
use Rattle.rv32_image.proofs.SmallFacts.{value_of}
use Rattle.spec_history.proofs.Searches.Lines.{passing_byte}
use Rattle.spec_history.specs.Conflict.{Meeting, is_shared, line_count, line_has, line_number}
use Rattle.conflicts.proofs.Blaming.{either_way}
use Rattle.conflict_findings.specs.Runs.{AreLinesRead, AreRead, is_falsely_shared}

-- ---- addresses that were read

-- a shared byte is among those that were read
pub shared_listed : (m : Meeting) (addresses : List ℕ) (a : ℕ) → ((a byte : ℕ) → m.reads a ≡ Some byte → IsAmong a addresses) → is_shared m a ≡ true
    → (k : ℕ) × (k < length addresses) × (slice_index addresses k ≡ a)
shared_listed m addresses a listed shared =
    let byte = value_of (m.reads a) (and_parts (is_some (m.writes a)) (is_some (m.reads a)) shared).1 in
    let among = listed a byte.0 byte.1 in (among.place, among.within, among.is)

-- a falsely shared line is among those of them
pub line_listed : (image : LoadedImage) (m : Meeting) (lines : List ℕ) (j : ℕ) → ((a byte : ℕ) → m.reads a ≡ Some byte → IsAmong (line_number image a) lines)
    → is_falsely_shared image m j ≡ true → (k : ℕ) × (k < length lines) × (slice_index lines k ≡ j)
line_listed image m lines j listed is =
    let read = (and_parts (line_has image j (λ a. is_some (m.reads a))) _ is).0 in
    let found = passing_byte image j (λ a. is_some (m.reads a)) read in
    let byte = value_of (m.reads found.at) found.passes in
    let among = listed found.at byte.0 byte.1 in (among.place, among.within, among.is ∙ found.in_line)

-- ---- those in order

not_less : (t e : Bool) → is_lt (cond t Less (cond e Equal Greater)) ≡ false → t ≡ false
not_less true e is = absurd cc
not_less false e is = refl

rise : (xs : List ℕ) → IsSorted nat_cmp xs → (i j : ℕ) → i ≤ j → j < length xs → slice_index xs i ≤ slice_index xs j
rise xs sorted i j up below =
    let a = slice_index xs j in
    let b = slice_index xs i in
    ltb-false a b (not_less (nat_lt a b) (a == b) (sorted_far (λ x y. is_lt (nat_cmp x y)) (ranks_by nat_cmp_total (λ p. p)) xs sorted i j 0 up below))

-- those that were listed, put in order
pub ordered : (size : ℕ) (reads : ℕ → Option ℕ) (old mid new : List ℕ) → mid ≡ old → ((place : ℕ) → place < length old → slice_index old place < size) → ((a byte : ℕ) → reads a ≡ Some byte → IsAmong a old)
    → IsPermutation mid new → IsSorted nat_cmp new → AreRead size reads new
ordered size reads old mid new same within each rank sorted = let moved = subst (λ xs. IsPermutation xs new) same rank in record {
  ordered = sorted;
  within = λ place below.
      let a = slice_index new place in
      let at = Contains-permutation new old a (IsPermutation-sym old new moved) (Contains-get_or new place 0 below) in
      subst (λ n. n < size) (get_or_default old at.0 0 a at.1 ∙ at.2) (within at.0 at.1);
  each = λ a byte is.
      let among = each a byte is in
      let at = Contains-permutation old new a moved (among.place, among.within, get_or_default old among.place a 0 among.within ∙ among.is) in
      record { place = at.0; within = at.1; is = get_or_default new at.0 0 a at.1 ∙ at.2 };
}

-- the lines of those, put in order
pub lines_ordered : (image : LoadedImage) (reads : ℕ → Option ℕ) (addresses old mid new : List ℕ) → length old ≡ length addresses
    → ((k : ℕ) → k < length addresses → slice_index old k ≡ line_number image (slice_index addresses k))
    → ((k : ℕ) → k < length addresses → slice_index addresses k < image.size → slice_index old k < line_count image) → mid ≡ old → IsPermutation mid new → IsSorted nat_cmp new
    → AreRead image.size reads addresses → AreLinesRead image reads new
lines_ordered image reads addresses old mid new long each within same rank sorted are = let moved = subst (λ xs. IsPermutation xs new) same rank in record {
  ordered = sorted;
  within = λ place below.
      let a = slice_index new place in
      let at = Contains-permutation new old a (IsPermutation-sym old new moved) (Contains-get_or new place 0 below) in
      subst (λ n. n < line_count image) (get_or_default old at.0 0 a at.1 ∙ at.2) (within at.0 (omega (arith, at.1, long)) (are.within at.0 (omega (arith, at.1, long))));
  each = λ a byte is.
      let among = are.each a byte is in
      let inside : among.place < length old = omega (arith, among.within, long) in
      let number : slice_index old among.place ≡ line_number image a = each among.place among.within ∙ ap (line_number image) among.is in
      let at = Contains-permutation old new (line_number image a) moved (among.place, inside, get_or_default old among.place (line_number image a) 0 inside ∙ number) in
      record { place = at.0; within = at.1; is = get_or_default new at.0 0 (line_number image a) at.1 ∙ at.2 };
}

-- one of them that stands before the one with an index is among those before it
pub not_between : (addresses : List ℕ) (index from j k : ℕ) → IsSorted nat_cmp addresses → index < length addresses
    → ((k : ℕ) → k < index → slice_index addresses k < from) → from ≤ j → j < slice_index addresses index → k < length addresses → slice_index addresses k ≡ j → ⊥
not_between addresses index from j k ordered inside passed after before within is = either_way (nat_lt k index) ⊥
    (λ early. let less = passed k (ltb-true k index early) in omega (arith, less, is, after))
    (λ late. let more = rise addresses ordered index k (ltb-false k index late) within in omega (arith, more, is, before))

-- An access lies in one line: its bytes by their places there.
use Rattle.std.proofs.Common.{◌≡◌, ℕ, ◌+◌, ◌-◌, ◌%◌, ◌<◌, ◌≤◌, ◌==◌, ◌&&◌, Bool, true, false, cond, Some, None, unwrap_or, refl, sym, ap, ◌∙◌, arith}
use Rattle.std.proofs.lemmas.Bool.Decides.{nat_tests}
use Rattle.memory_bytes.specs.Bytes.{byte_of, number_at}
use Rattle.memory_bytes.specs.Maps.{over, stored}
use Rattle.spec_states.specs.Mask.{is_within}
use Rattle.spec_states.proofs.MaskLaws.{access-within, width-bounds}
use Rattle.rv32_image.specs.Machine.{is_line_length}
use Rattle.violations.specs.View.{Shape, is_accessed, IsLoad}
use Rattle.violations.proofs.Relabelling.{number-shifted}
use Rattle.bus_states.specs.Bus.{Bus, line_of, offset_of}
use Rattle.bus_states.specs.Coherent.{IsCoherent}
use Rattle.rv32_image.proofs.Bounds.{by_length}
use Rattle.bus_states.proofs.Addresses.{line-aligned, line-and_offset, line-of, offset-of, line-inside, offset-aligned, offset-in_line}

-- ---- a load or a store of the store's rule

-- its bytes end within the line, and the line within memory
pub record LiesInLine (length size address width : ℕ) : Type 0 where
  pub length_is : is_line_length length ≡ true
  pub ends : offset_of length address + width ≤ length
  pub inside : line_of length address + length ≤ size

pub lies-in_line : (length : ℕ) (shape : Shape) (address width : ℕ) → is_line_length length ≡ true → shape.size % length ≡ 0
    → IsLoad shape address width → LiesInLine length shape.size address width
lies-in_line length shape address width length_is whole access =
    record {
      length_is = length_is;
      ends =
          access-within (offset_of length address) width length access.wide (offset-aligned length address width length_is access.wide access.aligned)
          (offset-in_line length address length_is) (by_length (λ (n : ℕ). n % 4 ≡ 0) length length_is refl refl refl);
      inside = line-inside length shape.size address length_is whole (below shape.size (width-bounds width access.wide).0 access.within);
    }
  where
    below : (size : ℕ) → 0 < width → address + width ≤ size → address < size
    below size some within = omega arith

-- on a coherent bus
pub load-lies : (bus : Bus) (address width : ℕ) → IsCoherent bus → IsLoad bus.shape address width
    → LiesInLine bus.line_length bus.shape.size address width
load-lies bus address width h access = lies-in_line bus.line_length bus.shape address width h.length_is h.whole_lines access

-- ---- bytes

-- a byte of the access
byte-line : (length size address width i : ℕ) → LiesInLine length size address width → i < width
    → (line_of length (address + i) ≡ line_of length address) × (offset_of length (address + i) ≡ offset_of length address + i)
byte-line length size address width i h lt =
    let place : ℕ = offset_of length address + i in
    let inside : place < length = before (offset_of length address) h.ends in
    let at : address + i ≡ line_of length address + place = sum (line_of length address) (offset_of length address) (line-and_offset length address h.length_is) in
    let aligned : line_of length address % length ≡ 0 = line-aligned length address h.length_is in (
      ap (line_of length) at ∙ line-of length (line_of length address) place h.length_is aligned inside,
      ap (offset_of length) at ∙ offset-of length (line_of length address) place h.length_is aligned inside,
    )
  where
    before : (offset : ℕ) → offset + width ≤ length → offset + i < length
    before offset ends = omega arith

    sum : (line offset : ℕ) → line + offset ≡ address → address + i ≡ line + (offset + i)
    sum line offset e = omega arith

-- is a byte accessed?
accessed_by : (length q o p x width : ℕ) → is_line_length length ≡ true → q % length ≡ 0 → p % length ≡ 0 → o + width ≤ length → x < length
    → is_accessed (q + o) width (p + x) ≡ ((q == p) && is_within o width x)
accessed_by length q o p x width h =
    by_length (λ (n : ℕ). q % n ≡ 0 → p % n ≡ 0 → o + width ≤ n → x < n → is_accessed (q + o) width (p + x) ≡ ((q == p) && is_within o width x)) length h
    (λ a b c d. grind (arith, nat_tests)) (λ a b c d. grind (arith, nat_tests)) (λ a b c d. grind (arith, nat_tests))

pub accessed-line : (length size address width a : ℕ) → LiesInLine length size address width
    → is_accessed address width a
    ≡ ((line_of length address == line_of length a) && is_within (offset_of length address) width (offset_of length a))
accessed-line length size address width a h =
    ap (λ (n : ℕ). is_accessed n width a) (sym (line-and_offset length address h.length_is))
    ∙ ap (λ (n : ℕ). is_accessed (line_of length address + offset_of length address) width n) (sym (line-and_offset length a h.length_is))
    ∙ accessed_by length (line_of length address) (offset_of length address) (line_of length a) (offset_of length a) width h.length_is
    (line-aligned length address h.length_is) (line-aligned length a h.length_is) h.ends (offset-in_line length a h.length_is)

-- an accessed byte lies in the line
pub accessed-there : (length size address width a : ℕ) → LiesInLine length size address width → is_accessed address width a ≡ true
    → (line_of length address ≡ line_of length a) × (is_within (offset_of length address) width (offset_of length a) ≡ true)
accessed-there length size address width a h accessed =
    both (line_of length address) (line_of length a) _ (sym (accessed-line length size address width a h) ∙ accessed)
  where
    both : (m n : ℕ) (d : Bool) → ((m == n) && d) ≡ true → (m ≡ n) × (d ≡ true)
    both m n d e = (grind (arith, nat_tests), grind (arith, nat_tests))

-- ---- numbers

-- the number in the bytes of an access, from those of its line
pub number-line : (length size address width : ℕ) (lines : ℕ → ℕ → ℕ) → LiesInLine length size address width
    → number_at (lines (line_of length address)) (offset_of length address) width
    ≡ number_at (λ a. lines (line_of length a) (offset_of length a)) address width
number-line length size address width lines h =
    sym (number-shifted (λ a. lines (line_of length a) (offset_of length a)) (lines (line_of length address)) address (offset_of length address) width
    (λ i lt.
    let at = byte-line length size address width i h lt in
    ap (λ (line : ℕ). lines line (offset_of length (address + i))) at.0 ∙ ap (lines (line_of length address)) at.1))

-- ---- the bytes of a store

-- a map with the bytes of a store over it
pub over-line : (length size address width value : ℕ) (memory : ℕ → ℕ) (a : ℕ) → LiesInLine length size address width
    → over (stored address width value) memory a
    ≡ cond ((line_of length address == line_of length a) && is_within (offset_of length address) width (offset_of length a))
    (byte_of value (offset_of length a - offset_of length address)) (memory a)
unfolding stored
over-line length size address width value memory a h =
    rw (accessed-line length size address width a h)
    (pick (line_of length address == line_of length a) (is_within (offset_of length address) width (offset_of length a)) refl)
  where
    difference : (q o x m n : ℕ) → q + o ≡ m → q + x ≡ n → n - m ≡ x - o
    difference q o x m n e f = omega arith

    place : line_of length address ≡ line_of length a → a - address ≡ offset_of length a - offset_of length address
    place same =
        difference (line_of length address) (offset_of length address) (offset_of length a) address a (line-and_offset length address h.length_is)
        (ap (λ (line : ℕ). line + offset_of length a) same ∙ line-and_offset length a h.length_is)

    pick : (b d : Bool) → (line_of length address == line_of length a) ≡ b
        → unwrap_or (cond (b && d) (Some (byte_of value (a - address))) None) (memory a)
        ≡ cond (b && d) (byte_of value (offset_of length a - offset_of length address)) (memory a)
    pick true true e = ap (byte_of value) (place (grind (arith, nat_tests)))
    pick true false e = refl
    pick false d e = refl

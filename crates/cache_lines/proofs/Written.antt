-- A line whose bytes were written stands where it stood.
use Rattle.std.proofs.Common.{◌≡◌, ℕ, ◌+◌, ◌%◌, ◌<◌, ◌≤◌, true, false, refl, sym, ap, ◌∙◌, arith}
use Rattle.std.proofs.lemmas.Bool.Decides.{nat_tests}
use Rattle.memory_bytes.specs.Bytes.{IsWidth}
use Rattle.spec_states.specs.declared.next.Next.{Next}
use Rattle.spec_states.specs.Mask.{IsWithinLine, is_within}
use Rattle.spec_states.specs.States.{is_valid}
use Rattle.spec_states.proofs.MaskLaws.{access-within}
use Rattle.rv32_image.proofs.Bounds.{by_length}
use Rattle.cache_lines.specs.declared.line.Line.{Line}
use Rattle.cache_lines.specs.Cells.{cell_of, with_number, line_with_number}
use Rattle.cache_lines.specs.Changes.{changed_line}
use Rattle.cache_lines.specs.Lines.{Contents, line_in}
use Rattle.cache_lines.specs.Placed.{IsPlaced, MayStand}

-- a write within the length leaves the bytes past it
pub number-past : (cell : ℕ → ℕ) (length offset width value x : ℕ) → offset + width ≤ length → length ≤ x → cell x ≡ 0
    → with_number cell offset width value x ≡ 0
number-past cell length offset width value x inside le e =
    let past : offset + width ≤ x = omega arith in
    let out : is_within offset width x ≡ false = grind (arith, nat_tests) in rw (out, e) refl

pub written_stands : (cache : Contents) (addr way offset width value : ℕ) (line : Line) → IsPlaced cache → way < cache.geometry.ways
    → offset < cache.line_length → IsWidth width → offset % width ≡ 0
    → line ≡ line_with_number (line_in cache addr way) offset width value
    → ((x : ℕ) → cell_of line x ≡ with_number (cell_of (line_in cache addr way)) offset width value x)
    → MayStand cache addr way line
written_stands cache addr way offset width value line h way_lt offset_lt wide aligned is bytes =
    let old = line_in cache addr way in
    let ends : offset + width ≤ cache.line_length =
    access-within offset width cache.line_length wide aligned offset_lt (by_length (λ (n : ℕ). n % 4 ≡ 0) cache.line_length h.length_is refl refl refl) in
    record {
      aligned = rw is (h.aligned addr way way_lt);
      in_set = rw is (h.in_set addr way way_lt);
      once = rw is (h.once addr way way_lt);
      fits =
          λ v.
          let fits = h.fits addr way way_lt (ap (λ (l : Line). is_valid l.state) (sym is) ∙ v) in
          record {
            mask = rw is fits.mask;
            cells = λ x le. bytes x ∙ number-past (cell_of old) cache.line_length offset width value x ends le (fits.cells x le);
          };
    }

-- a line whose state and marks changed, which is valid only where it was
pub marked_stands : (cache : Contents) (addr way : ℕ) (next : Next) → IsPlaced cache → way < cache.geometry.ways
    → (is_valid next.state ≡ true → is_valid (line_in cache addr way).state ≡ true)
    → (is_valid next.state ≡ true → IsWithinLine cache.line_length next.marks.bytes)
    → MayStand cache addr way (changed_line (line_in cache addr way) next)
marked_stands cache addr way next h way_lt held mask =
    record {
      aligned = λ v. h.aligned addr way way_lt (held v);
      in_set = λ v. h.in_set addr way way_lt (held v);
      once = λ v. h.once addr way way_lt (held v);
      fits = λ v. record { mask = mask v; cells = (h.fits addr way way_lt (held v)).cells };
    }

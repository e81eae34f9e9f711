-- Caches whose lines are all invalid.
use Rattle.std.proofs.Common.{◌≡◌, ℕ, ◌*◌, ◌<◌, true, false, true≢false, All, length, None, refl, sym, ap, ◌∙◌}
use Rattle.spec_states.specs.declared.line.LineState.TheVariants.{I}
use Rattle.spec_states.specs.Copies.{no_copy}
use Rattle.spec_states.specs.States.{is_valid}
use Rattle.cache_lines.specs.Lines.{Contents, IsGeometry, place, invalid_line, line_in, is_copy_of, way_at}
use Rattle.rv32_image.specs.Machine.{is_line_length}
use Rattle.cache_lines.specs.Placed.{IsPlaced}
use Rattle.cache_lines.specs.Protocol.{copy_at, copy_or_none}
use Rattle.cache_lines.proofs.LineLaws.{way_at-none, held_none, place-lt}

pub record IsEmpty (cache : Contents) : Type 0 where
  pub length_is : is_line_length cache.line_length ≡ true
  pub geometry_is : IsGeometry cache.geometry
  pub size : length cache.lines ≡ cache.geometry.sets * cache.geometry.ways
  pub invalid : All (λ line. line.state ≡ I) cache.lines

invalid_in : (cache : Contents) → IsEmpty cache → (addr way : ℕ) → way < cache.geometry.ways → is_valid (line_in cache addr way).state ≡ false
invalid_in cache h addr way lt =
    ap is_valid (h.invalid (place cache addr way) invalid_line (rw h.size (place-lt cache h.geometry_is addr way lt)))

no_copy_in : (cache : Contents) → IsEmpty cache → (addr way x : ℕ) → way < cache.geometry.ways → is_copy_of (line_in cache addr way) x ≡ false
no_copy_in cache h addr way x lt = rw (invalid_in cache h addr way lt) refl

pub placed-empty : (cache : Contents) → IsEmpty cache → IsPlaced cache
placed-empty cache h =
    record {
      length_is = h.length_is;
      geometry_is = h.geometry_is;
      size = h.size;
      aligned = λ addr way lt valid. absurd (never addr way lt valid);
      in_set = λ addr way lt valid. absurd (never addr way lt valid);
      once = λ addr way lt valid. absurd (never addr way lt valid);
      fits = λ addr way lt valid. absurd (never addr way lt valid);
    }
  where
    never : (addr way : ℕ) → way < cache.geometry.ways → is_valid (line_in cache addr way).state ≡ true → ⊥
    never addr way lt valid = true≢false (sym valid ∙ invalid_in cache h addr way lt)

pub way_at-empty : (cache : Contents) → IsEmpty cache → (addr : ℕ) → way_at cache addr ≡ None
way_at-empty cache h addr = way_at-none cache addr (λ w lt. no_copy_in cache h addr w addr lt)

pub copy_at-empty : (cache : Contents) → IsEmpty cache → (addr : ℕ) → copy_at cache addr ≡ no_copy
copy_at-empty cache h addr = ap copy_or_none (held_none cache addr (λ w lt. no_copy_in cache h addr w addr lt))

-- What was shown of rows, and what is shown next.
use Rattle.std.proofs.Common.{◌≡◌, ℕ, ◌+◌, ◌*◌, ◌/◌, ◌<◌, List, [], ◌∷◌, ◌++◌, length, slice_index, ap, sym, subst, ◌∙◌, arith, ⊎_elim}
use Rattle.std.proofs.lemmas.Bool.{cases_eq}
use Rattle.std.proofs.lemmas.List.{get_or_append_left, get_or_push}
use Rattle.std.specs.BTreeSet.{BTreeSet}
use Rattle.rv32_image.specs.Image.{LoadedImage}
use Rattle.violations.specs.Rule.{IsFresh}
use Rattle.violations.specs.View.{Shape, StoreView}
use Rattle.turn_steps.specs.Memory.{IsMemoryBut, ShowsMemory, at_change, row_of, shown_row}
use Rattle.turn_steps.specs.Passes.{IsAllShown, IsRestShown}
use Rattle.turn_steps.specs.Places.{changed}
use Rattle.turn_steps.specs.Rows.{at_changes, at_line, row_count, text_below}
use Rattle.turn_steps.proofs.Passes.{below_same}
use Rattle.turn_steps.proofs.Reading.{bytes_same}

-- ---- committed memory

-- one row more
pub next_row : (row_at : ℕ → List ℕ) (rows : List (List ℕ)) (row : List ℕ) (count : ℕ) → length rows ≡ count
    → ((r : ℕ) → r < count → shown_row rows r ≡ row_at r) → row ≡ row_at count
    → (r : ℕ) → r < count + 1 → shown_row (rows ++ row ∷ []) r ≡ row_at r
next_row row_at rows row count long each is r less =
    ⊎_elim
    (λ same. get_or_push rows row [] r (long ∙ sym same) ∙ is ∙ ap row_at (sym same))
    (λ other. get_or_append_left rows (row ∷ []) [] r (omega arith) ∙ each r (omega arith))
    (cases_eq r count)

-- the rows of the image are those of a fresh store
pub shows_fresh : (image : LoadedImage) (v : StoreView) (cores : ℕ) (rows : List (List ℕ)) (count : ℕ) → length rows ≡ count → count ≡ image.size / 16
    → ((r : ℕ) → r < count → shown_row rows r ≡ row_of (λ a. slice_index image.bytes a) r) → IsFresh image cores v → ShowsMemory v rows
shows_fresh image v cores rows count long whole each fresh =
    let size : v.shape.size ≡ image.size = ap (λ (s : Shape). s.size) fresh.shape in
    let counts : count ≡ row_count v = whole ∙ ap (λ n. n / 16) (sym size) in
    record {
      long = long ∙ counts;
      row = λ r less. each r (subst (λ n. r < n) (sym counts) less)
          ∙ sym (bytes_same (λ a. slice_index image.bytes a) v.committed (16 * r) 16 (λ i under. fresh.committed (16 * r + i)));
    }

-- outside the rows that may be otherwise memory is shown as it is
pub rest_of_memory : (rows : BTreeSet ℕ) (old new : StoreView) (shown : List (List ℕ)) → ShowsMemory old shown → IsMemoryBut rows old new
    → IsRestShown rows (length shown) (shown_row shown) (row_of new.committed)
rest_of_memory rows old new shown shows but row less outside =
    let under : row < row_count old = subst (λ n. row < n) shows.long less in
    shows.row row under ∙ sym (bytes_same old.committed new.committed (16 * row) 16 (λ i small. but.same row i under outside small))

-- the text is that of the changes
pub text_of_memory : (old new : StoreView) (shown : List (List ℕ)) → ShowsMemory old shown
    → text_below (λ row. at_change new.committed row (shown_row shown row)) (length shown) ≡ at_changes old.committed new.committed (row_count old)
text_of_memory old new shown shows =
    ap (text_below (λ row. at_change new.committed row (shown_row shown row))) shows.long
    ∙ below_same (λ row. at_change new.committed row (shown_row shown row)) (λ row. changed (at_line old.committed row) (at_line new.committed row)) (row_count old)
    (λ row less. ap (at_change new.committed row) (shows.row row less))

pub shows_memory : (v : StoreView) (count : ℕ) (shown : List (List ℕ)) → length shown ≡ count → count ≡ row_count v
    → IsAllShown count (shown_row shown) (row_of v.committed) → ShowsMemory v shown
shows_memory v count shown long whole all = record { long = long ∙ whole; row = λ r less. all r (subst (λ n. r < n) (sym whole) less) }

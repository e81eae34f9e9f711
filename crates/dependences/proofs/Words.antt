-- The line of an aligned access, and what is noted of it.
use Rattle.std.proofs.Common.{◌≡◌, ◌≢◌, ℕ, ◌+◌, ◌/◌, ◌%◌, ◌<◌, ◌≤◌, true, List, subst, sym, ap, ◌∙◌, inl, slice_index, arith}
use Rattle.memory_bytes.specs.Bytes.{IsWidth}
use Rattle.memory_bytes.proofs.SmallFacts.{by_width, some_wide}
use Rattle.rv32_image.specs.Image.{LoadedImage, IsImage}
use Rattle.rv32_image.specs.Machine.{is_line_length}
use Rattle.rv32_image.specs.Places.{place}
use Rattle.rv32_image.proofs.Bounds.{by_length}
use Rattle.rv32_image.proofs.Places.{place-aligned, place-word}
use Rattle.spec_history.specs.Conflict.{line_number}
use Rattle.dependences.specs.KeptOwn.{HasStored}
use Rattle.dependences.specs.KeptLines.{AreLinesMarked, AreLinesNoted, AreStored, IsLineNoted, LastTwo, Lines, MeetsLine, other_before}

word_in : (n p width i : ℕ) → is_line_length n ≡ true → IsWidth width → p % width ≡ 0 → i < width → (p + i) / n ≡ p / n
word_in n p width i long wide =
    by_length (λ m. p % width ≡ 0 → i < width → (p + i) / m ≡ p / m) n long
    (by_width (λ v. p % v ≡ 0 → i < v → (p + i) / 16 ≡ p / 16) width wide (λ a l. omega arith) (λ a l. omega arith) (λ a l. omega arith))
    (by_width (λ v. p % v ≡ 0 → i < v → (p + i) / 32 ≡ p / 32) width wide (λ a l. omega arith) (λ a l. omega arith) (λ a l. omega arith))
    (by_width (λ v. p % v ≡ 0 → i < v → (p + i) / 64 ≡ p / 64) width wide (λ a l. omega arith) (λ a l. omega arith) (λ a l. omega arith))

module _ (image : LoadedImage) (is : IsImage image) (address width line : ℕ) (wide : IsWidth width) (aligned : address % width ≡ 0)
    (at : line ≡ line_number image address) where
  -- each byte of the access lies in its line
  pub word_line : (i : ℕ) → i < width → line_number image (address + i) ≡ line
  word_line i low =
      ap (λ p. p / image.machine.line_length)
      (place-word image.machine image.size width address i is.machine_allowed (record { wide = wide; aligned = aligned; inside = low }))
      ∙ (word_in image.machine.line_length (place image.machine image.size address) width i is.machine_allowed.is.line_length wide
      (place-aligned image.machine image.size width address is.machine_allowed wide aligned) low ∙ sym at)

  not_line : (l : ℕ) → ((i : ℕ) → i < width → l ≢ line_number image (address + i)) → l ≢ line
  not_line l none e = let some = some_wide width wide in none 0 some (e ∙ sym (word_line 0 some))

  pub noted_word : (old new : LastTwo) (epoch : ℕ) → IsLineNoted old new epoch line → AreLinesNoted image old new epoch address width
  noted_word old new epoch one = record {
    last_long = one.last_long;
    before_long = one.before_long;
    here = λ i low. ap (slice_index new.last) (word_line i low) ∙ one.here;
    others = λ l none. one.others l (not_line l none);
    other = one.other;
  }

  pub marked_word : (old new : List ℕ) (epoch : ℕ) → slice_index new line ≡ epoch + 1 → ((l : ℕ) → l ≢ line → slice_index new l ≡ slice_index old l)
      → AreLinesMarked image old new epoch address width
  marked_word old new epoch here others = record {
    here = λ i low. ap (slice_index new) (word_line i low) ∙ here;
    others = λ l none. others l (not_line l none);
  }

  pub meets_word : (s : Lines) (epoch first i : ℕ) → i < width → (HasStored s.own epoch (address + i) → ⊥) → first < other_before s.two epoch line
      → MeetsLine image s epoch first address width
  meets_word s epoch first i low foreign written = record {
    i = i;
    within = low;
    foreign = foreign;
    written = subst (λ l. first < other_before s.two epoch l) (sym (word_line i low)) written;
  }

  pub written_word : (s : Lines) (epoch first : ℕ) → (m : MeetsLine image s epoch first address width) → first < other_before s.two epoch line
  written_word s epoch first m = subst (λ l. first < other_before s.two epoch l) (word_line m.i m.within) m.written

  -- a store where no epoch beside this one has stored
  pub stored_unmarked : (old new : Lines) (epoch first : ℕ) → new.own ≡ old.own → other_before old.two epoch line ≤ first → IsLineNoted old.two new.two epoch line
      → AreStored image old new epoch first address width
  stored_unmarked old new epoch first same alone noted = record {
    own = inl same;
    kept = λ i low written. let less = subst (λ l. first < other_before old.two epoch l) (word_line i low) written in absurd (omega (arith, less, alone));
    lines = noted_word old.two new.two epoch noted;
  }

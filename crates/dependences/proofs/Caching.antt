-- One epoch after another over caches: nothing is found so far, further on, or at all.
use Rattle.std.proofs.Common.{◌≡◌, false, is_some, Option, Some, None, refl, ℕ, ◌+◌, ◌<◌, ◌≤◌, subst, inl, inr, arith}
use Rattle.std.proofs.lemmas.Bool.{cases_eq, cases_lt}
use Rattle.rv32_image.specs.Image.{LoadedImage, IsImage}
use Rattle.epoch_paths.specs.Paths.{ReadsOutside}
use Rattle.dependences.specs.Conflict.{AreBeside, LineConflict, first_beside, run_memory}
use Rattle.dependences.specs.Shared.{SharedOverflow}
use Rattle.epoch_paths.specs.InOrder.{AreAll}
use Rattle.dependences.specs.KeptLines.{MeetsNone}
use Rattle.dependences.specs.KeptTouches.{AreClear, AreTouchesKept, IsNever, Touched}
use Rattle.dependences.proofs.Showing.{line_of, lines_shown, shared_shown}
use Rattle.dependences.proofs.Buffering.{no_overflow}

pub alone : (image : LoadedImage) (cores earlier later : ℕ) → cores < 2 → AreBeside image cores earlier later → ⊥
alone image cores earlier later one beside = let from = beside.from in let before = beside.before in omega (arith, one, from, before)

pub clear_first : (image : LoadedImage) (cores : ℕ) → AreClear image cores 0
clear_first image cores conflict low = omega (arith, low)

-- where nothing is found with this epoch, nor before it, nothing is up to it
pub clear_more : (image : LoadedImage) (cores epoch : ℕ) → MeetsNone image cores epoch → AreClear image cores epoch → AreClear image cores (epoch + 1)
clear_more image cores epoch here are c low = elim (cases_eq c.later epoch) [
  | inl e ↦
      (let from = c.beside.from in
      let before = c.beside.before in
      here c.read c.earlier (subst (λ n. ReadsOutside image n (run_memory image cores n) c.read) e c.reads) (subst (λ n. first_beside cores n ≤ c.earlier) e from)
      (omega (arith, before, e)) (record { at = c.written; in_line = c.same; stores = c.stores }))
  | inr other ↦ are c (omega (arith, low, other))
]

-- the first epoch beside each runs in order
not_past : (image : LoadedImage) (cores ran later earlier end : ℕ) → AreAll image ran → ran ≤ first_beside cores later → later ≤ end → AreBeside image cores earlier end → ⊥
not_past image cores ran later earlier end all past from beside =
    let first = beside.from in
    let before = beside.before in
    let within = beside.within in
    let low = all.no_more (first_beside cores end) (omega (arith, first, before, within)) beside.starts in omega (arith, low, past, from)

pub never_further : (image : LoadedImage) (cores ran later : ℕ) (t : Touched) → AreAll image ran → ran ≤ first_beside cores later → AreClear image cores later
    → AreTouchesKept image cores later t → IsNever image cores
never_further image cores ran later t all past are kept = record {
  lines = λ c. are c (beside_before c.earlier c.later c.beside);
  buffers = no_overflow image cores later t kept beside_before;
}
  where
    beside_before : (e f : ℕ) → AreBeside image cores e f → f < later
    beside_before e f beside = elim (cases_lt f later) [
      | inl before ↦ before
      | inr from ↦ absurd (not_past image cores ran later e f all past from beside)
    ]

pub never_at_all : (image : LoadedImage) (cores : ℕ) (t : Touched) → AreClear image cores image.epochs → AreTouchesKept image cores image.epochs t → IsNever image cores
never_at_all image cores t are kept = record { lines = λ c. are c c.beside.within; buffers = no_overflow image cores image.epochs t kept (λ e f beside. beside.within) }

-- nor do paths
pub never_lines : (image : LoadedImage) (cores : ℕ) → IsImage image → IsNever image cores → LineConflict image cores → ⊥
never_lines image cores is never = lines_shown image cores is never.lines

pub never_buffers : (image : LoadedImage) (cores : ℕ) → IsImage image → IsNever image cores → SharedOverflow image cores → ⊥
never_buffers image cores is never =
    shared_shown image cores is (λ conflict. never.lines (line_of image cores (run_memory image cores) conflict)) never.buffers

pub none_of : {X : Type 0} (o : Option X) → is_some o ≡ false → o ≡ None
none_of None is = refl
none_of (Some x) is = absurd cc

-- one core runs no two epochs at a time
pub never_alone : (image : LoadedImage) (cores : ℕ) → cores < 2 → IsNever image cores
never_alone image cores one = record { lines = λ c. alone image cores c.earlier c.later one c.beside; buffers = λ o. alone image cores o.earlier o.later one o.beside }

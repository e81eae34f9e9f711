-- The first outside read of a byte that is stored in the window is reached on the path: an epoch conflicts with none before it, where
-- none of these stores in order a byte that it reads from outside over memory before the window.
use Rattle.std.proofs.Common.{◌≡◌, ℕ, ◌≤◌, slice_index, refl, sym, subst, inl, inr, arith}
use Rattle.rv32_image.specs.Image.{LoadedImage, IsImage}
use Rattle.rv32_exec.specs.declared.sequential.End.{End}
use Rattle.rv32_exec.specs.declared.sequential.End.TheVariants.{Done, Exit, Fault}
use Rattle.rv32_exec.specs.Sequential.{first_epochs}
use Rattle.epoch_paths.specs.Paths.{ReadsOutside, Stores}
use Rattle.epoch_paths.specs.InOrder.{IsInOrder, memory_before}
use Rattle.dependences.specs.Conflict.{ConflictInOrder, first_beside, memory_by}
use Rattle.dependences.specs.Laws.{IsAlike}
use Rattle.epoch_paths.proofs.Alike.{alike}
use Rattle.epoch_paths.proofs.InOrder.{all_in_order}
use Rattle.dependences.proofs.InOrder.{alike_all, low_most}
use Rattle.dependences.proofs.Showing.{number_done, reads_so, run_in_order, turned, IsWrittenInOrder, all_up}
use Rattle.never_or_shown.specs.Shown.{IsConflictAt}
use Rattle.never_or_shown.specs.Windows.{NoneMeet}

module _ (image : LoadedImage) (is : IsImage image) (first later : ℕ) (low : first ≤ later) (none : NoneMeet image first later) where
  unstored : IsInOrder image later → (a : ℕ) → ReadsOutside image later (memory_before image first) a → IsWrittenInOrder image first later a
      → slice_index (memory_before image first) a ≡ slice_index (memory_before image later) a
  unstored order a reads (inl same) = sym same
  unstored order a reads (inr x) = absurd (none x.0 a x.1 x.2 (all_in_order image later x.0 order (omega (arith, x.2))) (x.3, reads))

  -- where it runs in order, it does the same over both memories
  same_over : IsInOrder image later → IsAlike image later (memory_before image first) (memory_before image later)
  same_over order =
      let up = all_up image later is order in
      let down = all_up image first is (all_in_order image later first order low) in
      alike_all image later (memory_before image first) (memory_before image later)
      (alike image later (memory_before image first) (memory_before image later) down.long up.long
      (λ a reads. unstored order a reads (up.written first low a)))

  reads_over : (cores : ℕ) → first ≡ first_beside cores later → (e : End) → (first_epochs image later).end ≡ e → (a : ℕ) → ReadsOutside image later (memory_by image cores later e) a
      → ReadsOutside image later (memory_before image first) a
  reads_over cores at (Done n) end a reads =
      reads_so image later (memory_before image later) (memory_before image first)
      (turned image later (memory_before image first) (memory_before image later) (same_over (number_done image later n end))) a reads
  reads_over cores at (Exit last) end a reads = subst (λ n. ReadsOutside image later (memory_before image n) a) (sym at) reads
  reads_over cores at (Fault last cause pc) end a reads = subst (λ n. ReadsOutside image later (memory_before image n) a) (sym at) reads

meets_by : (image : LoadedImage) (is : IsImage image) (cores : ℕ) → (x : ConflictInOrder image cores) → NoneMeet image (first_beside cores x.later) x.later → ⊥
meets_by image is cores x none =
    none x.earlier x.byte x.beside.from x.beside.before x.in_order (
      subst (λ m. Stores image x.earlier m x.byte) (run_in_order image cores x.earlier x.in_order) x.stores,
      reads_over image is (first_beside cores x.later) x.later (low_most cores x.later) none cores refl (first_epochs image x.later).end refl x.byte x.reads,
    )

-- so it conflicts with none
pub meets_none : (image : LoadedImage) (cores later : ℕ) → IsImage image → NoneMeet image (first_beside cores later) later → IsConflictAt image cores later → ⊥
meets_none image cores later is none at =
    meets_by image is cores at.conflict (subst (λ n. NoneMeet image (first_beside cores n) n) (sym at.is) none)

-- nor where it isn't an epoch of the loop, or is alone in its window
pub not_there : (image : LoadedImage) (cores later : ℕ) → image.epochs ≤ later → IsConflictAt image cores later → ⊥
not_there image cores later past at = let within = at.conflict.beside.within in let is = at.is in omega (arith, past, within, is)

pub not_beside : (image : LoadedImage) (cores later : ℕ) → later ≤ first_beside cores later → IsConflictAt image cores later → ⊥
not_beside image cores later alone at =
    let is = at.is in
    let from = at.conflict.beside.from in
    let before = at.conflict.beside.before in omega (arith, alone, is, from, before)

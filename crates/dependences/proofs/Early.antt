-- In the first window of the cores, fewer cores run the same epochs beside each other.
use Rattle.std.proofs.Common.{◌≡◌, ℕ, ◌+◌, ◌<◌, ◌≤◌, List, refl, ap, subst, arith}
use Rattle.rv32_image.specs.Image.{LoadedImage}
use Rattle.rv32_exec.specs.declared.sequential.End.{End}
use Rattle.rv32_exec.specs.declared.sequential.End.TheVariants.{Done, Exit, Fault}
use Rattle.rv32_exec.specs.Sequential.{first_epochs}
use Rattle.epoch_paths.specs.Paths.{ReadsOutside, Stores}
use Rattle.epoch_paths.specs.InOrder.{IsInOrder, memory_before}
use Rattle.dependences.specs.Conflict.{LineConflictInOrder, first_beside, memory_by, run_memory}

by_end : (image : LoadedImage) (cores few epoch : ℕ) (end : End) → first_beside cores epoch ≡ first_beside few epoch → memory_by image cores epoch end ≡ memory_by image few epoch end
by_end image cores few epoch (Done n) same = refl
by_end image cores few epoch (Exit last) same = ap (memory_before image) same
by_end image cores few epoch (Fault last cause pc) same = ap (memory_before image) same

-- both begin with the first epoch
from_first : (cores later epoch : ℕ) → later < cores → epoch ≤ later → first_beside cores epoch ≡ first_beside (later + 1) epoch
from_first cores later epoch within low = omega (arith, within, low)

memory_is : (image : LoadedImage) (cores later epoch : ℕ) → later < cores → epoch ≤ later → run_memory image cores epoch ≡ run_memory image (later + 1) epoch
memory_is image cores later epoch within low =
    by_end image cores (later + 1) epoch (first_epochs image epoch).end (from_first cores later epoch within low)

pub early : (image : LoadedImage) (cores : ℕ) (conflict : LineConflictInOrder image cores) → conflict.later < cores → LineConflictInOrder image (conflict.later + 1)
early image cores conflict within =
    let before = conflict.beside.before in record {
      earlier = conflict.earlier;
      later = conflict.later;
      written = conflict.written;
      read = conflict.read;
      beside = record {
        from = omega (arith, before);
        before = before;
        within = conflict.beside.within;
        starts = subst (IsInOrder image) (from_first cores conflict.later conflict.later within (omega arith)) conflict.beside.starts;
      };
      same = conflict.same;
      stores = subst (λ (m : List ℕ). Stores image conflict.earlier m conflict.written) (memory_is image cores conflict.later conflict.earlier within (omega (arith, before))) conflict.stores;
      reads = subst (λ (m : List ℕ). ReadsOutside image conflict.later m conflict.read) (memory_is image cores conflict.later conflict.later within (omega arith)) conflict.reads;
    }

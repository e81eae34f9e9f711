-- Where no two epochs conflict, the path of an epoch is what it does in order.
use Rattle.std.proofs.Common.{◌≡◌, ℕ, zero, suc, ◌+◌, ◌<◌, ◌≤◌, List, length, slice_index, refl, sym, ap, subst, ◌∙◌, inl, inr, arith}
use Rattle.rv32_image.specs.Image.{LoadedImage, IsImage}
use Rattle.rv32_exec.specs.Hart.{HartState, start_of}
use Rattle.rv32_exec.specs.Sequential.{Runs, after_steps}
use Rattle.epoch_paths.specs.InOrder.{IsInOrder, memory_before}
use Rattle.dependences.specs.Conflict.{Conflict, PathReads, first_beside, path_memory}
use Rattle.dependences.specs.Laws.{IsAlike}
use Rattle.epoch_paths.proofs.Alike.{Alike, alike, run_alike, stop_alike}
use Rattle.dependences.proofs.Starting.{IsWritten}
use Rattle.dependences.proofs.Committing.{later_by, up_to_next}
use Rattle.epoch_paths.proofs.InOrder.{before_in_order, all_in_order, ends_with, memory_none}

-- ---- what they write

-- memory before an epoch that runs in order, beside memory before earlier ones
pub record IsWrittenUp (image : LoadedImage) (cores h : ℕ) : Type 0 where
  pub long : length (memory_before image h) ≡ image.size
  pub written : (d : ℕ) → d ≤ h → (a : ℕ) → IsWritten image cores d h a

pub low_most : (cores h : ℕ) → first_beside cores h ≤ h
low_most cores h = omega arith

reads_by : (image : LoadedImage) (cores h a : ℕ) → (Conflict image cores → ⊥) → h < image.epochs → IsInOrder image h → PathReads image cores h a
    → IsWritten image cores (first_beside cores h) h a → slice_index (path_memory image cores h) a ≡ slice_index (memory_before image h) a
reads_by image cores h a free within is reads (inl same) = sym same
reads_by image cores h a free within is reads (inr x) = absurd (free (record {
  earlier = x.0;
  later = h;
  byte = a;
  beside = record { from = x.1; before = x.2; within = within; starts = all_in_order image h (first_beside cores h) is (low_most cores h) };
  in_order = all_in_order image h x.0 is (omega (arith, x.2));
  stores = x.3;
  reads = reads;
}))

-- both runs of an epoch
alike_at : (image : LoadedImage) (cores h : ℕ) → (Conflict image cores → ⊥) → h < image.epochs → IsInOrder image h → IsWrittenUp image cores h
    → length (path_memory image cores h) ≡ image.size → (n : ℕ) → Alike image h (path_memory image cores h) (memory_before image h) n
alike_at image cores h free within is up long =
    alike image h (path_memory image cores h) (memory_before image h) long up.long
    (λ a reads. reads_by image cores h a free within is reads (up.written (first_beside cores h) (low_most cores h) a))

up_next : (image : LoadedImage) (cores h : ℕ) → (Conflict image cores → ⊥) → h < image.epochs → IsInOrder image (suc h) → IsInOrder image h → IsWrittenUp image cores h
    → length (path_memory image cores h) ≡ image.size → IsWrittenUp image cores (h + 1)
up_next image cores h free within is before up long =
    let now = ends_with image h (path_memory image cores h) is (alike_at image cores h free within before up long (image.limit + 1)) in record {
      long = now.0;
      written = λ d most a. up_to_next (λ n. IsWritten image cores n (h + 1) a) h (λ n low. later_by image cores n h a low (now.1 a) (up.written n low a)) (inl refl) d most;
    }

-- for all epochs up to one that runs in order
pub record AreWrittenUp (image : LoadedImage) (cores h : ℕ) : Type 0 where
  pub each : (d : ℕ) → d ≤ h → IsWrittenUp image cores d

up_none : (image : LoadedImage) (cores : ℕ) → IsImage image → IsWrittenUp image cores 0
up_none image cores is = record {
  long = memory_none image is;
  written = λ d most a. let none : 0 ≡ d = omega (arith, most) in subst (λ n. IsWritten image cores n 0 a) none (inl refl);
}

pub all_up : (image : LoadedImage) (cores h : ℕ) → IsImage image → (Conflict image cores → ⊥) → h ≤ image.epochs → IsInOrder image h → AreWrittenUp image cores h
all_up image cores zero is free most order = record {
  each = λ d low. let none : 0 ≡ d = omega (arith, low) in subst (λ n. IsWrittenUp image cores n) none (up_none image cores is);
}
all_up image cores (suc h) is free most order =
    let before = before_in_order image h order in
    let rest = all_up image cores h is free (omega (arith, most)) before in
    let here = rest.each h (omega arith) in
    let long = (rest.each (first_beside cores h) (low_most cores h)).long in
    let next = up_next image cores h free (omega (arith, most)) order before here long in record {
      each = λ d low. up_to_next (λ n. IsWrittenUp image cores n) h rest.each next d (omega (arith, low));
    }

-- ---- the law

there_by : (image : LoadedImage) (epoch : ℕ) (first second : List ℕ) (n : ℕ) (h : HartState) (after : List ℕ) → after_steps image n (start_of image epoch) first ≡ Runs h after
    → Alike image epoch first second n → (after' : List ℕ) × (after_steps image n (start_of image epoch) second ≡ Runs h after')
there_by image epoch first second n h after runs (run_alike g own both) =
    let same : Runs g both.after ≡ Runs h after = sym both.runs ∙ runs in
    let hart : g ≡ h = cc in (both.after', both.runs' ∙ ap (λ x. Runs x both.after') hart)
there_by image epoch first second n h after runs (stop_alike both) = absurd (rw runs at both.stopped)

back_by : (image : LoadedImage) (epoch : ℕ) (first second : List ℕ) (n : ℕ) (h : HartState) (after : List ℕ) → after_steps image n (start_of image epoch) second ≡ Runs h after
    → Alike image epoch first second n → (after' : List ℕ) × (after_steps image n (start_of image epoch) first ≡ Runs h after')
back_by image epoch first second n h after runs (run_alike g own both) =
    let same : Runs g both.after' ≡ Runs h after = sym both.runs' ∙ runs in
    let hart : g ≡ h = cc in (both.after, both.runs ∙ ap (λ x. Runs x both.after) hart)
back_by image epoch first second n h after runs (stop_alike both) = absurd (rw runs at both.stopped')

-- runs that are alike after any number of instructions
pub alike_all : (image : LoadedImage) (epoch : ℕ) (first second : List ℕ) → ((n : ℕ) → Alike image epoch first second n) → IsAlike image epoch first second
alike_all image epoch first second both = record {
  there = λ n h after runs. there_by image epoch first second n h after runs (both n);
  back = λ n h after runs. back_by image epoch first second n h after runs (both n);
}

pub path_in_order : (image : LoadedImage) (cores epoch : ℕ) → IsImage image → (Conflict image cores → ⊥) → epoch < image.epochs → IsInOrder image epoch
    → IsAlike image epoch (path_memory image cores epoch) (memory_before image epoch)
path_in_order image cores epoch is free within order =
    let up = all_up image cores epoch is free (omega (arith, within)) order in
    let here = up.each epoch (omega arith) in
    let long = (up.each (first_beside cores epoch) (low_most cores epoch)).long in
    alike_all image epoch (path_memory image cores epoch) (memory_before image epoch) (alike_at image cores epoch free within order here long)

-- What one run in order shows: where it shows no conflict over bytes, the paths of all epochs do what it shows.
use Rattle.std.proofs.Common.{◌≡◌, ◌≢◌, ◌⊎◌, ℕ, zero, suc, ◌+◌, ◌<◌, ◌≤◌, List, length, get_or, slice_index, refl, sym, ap, subst, ◌∙◌, inl, inr, arith, add-one, Option, Some, None}
use Rattle.rv32_image.specs.Image.{LoadedImage, IsImage}
use Rattle.rv32_exec.specs.declared.sequential.End.{End}
use Rattle.rv32_exec.specs.declared.sequential.End.TheVariants.{Done, Exit, Fault}
use Rattle.rv32_exec.specs.Sequential.{first_epochs}
use Rattle.epoch_paths.specs.Paths.{LoadsAt, ReadsOutside, Stores, StoresAt, Touches}
use Rattle.epoch_paths.specs.InOrder.{IsInOrder, memory_before}
use Rattle.dependences.specs.Conflict.{AreBeside, Conflict, ConflictInOrder, ConflictOver, LineConflict, LineConflictInOrder, LineConflictOver, Overflow, OverflowInOrder, OverflowOver, StoresIn, first_beside, memory_by, path_memory, run_memory}
use Rattle.dependences.specs.Shared.{IsShared, RunBeside, SharedOverflow, SharedOverflowInOrder, SharedOverflowOver, TouchesIn}
use Rattle.dependences.specs.Laws.{IsAlike}
use Rattle.dependences.specs.Nearest.{Depends, IsFar, IsNearest}
use Rattle.epoch_paths.proofs.Alike.{alike}
use Rattle.dependences.proofs.Committing.{up_to_next}
use Rattle.epoch_paths.proofs.InOrder.{all_in_order, before_in_order, done_number, ends_with, memory_none}
use Rattle.dependences.proofs.InOrder.{alike_all, low_most}

-- a conflict over bytes is one over lines
pub line_of : (image : LoadedImage) (cores : ℕ) (memory : ℕ → List ℕ) → ConflictOver image cores memory → LineConflictOver image cores memory
line_of image cores memory conflict = record {
  earlier = conflict.earlier;
  later = conflict.later;
  written = conflict.byte;
  read = conflict.byte;
  beside = conflict.beside;
  same = refl;
  stores = conflict.stores;
  reads = conflict.reads;
}

-- ---- what is alike

loads_alike : (image : LoadedImage) (epoch : ℕ) (first second : List ℕ) → IsAlike image epoch first second → (step a : ℕ) → LoadsAt image epoch first step a → LoadsAt image epoch second step a
loads_alike image epoch first second same step a there =
    let other = same.there step there.hart there.after there.runs in record {
      hart = there.hart;
      after = other.0;
      address = there.address;
      width = there.width;
      signed = there.signed;
      rd = there.rd;
      runs = other.1;
      stops = there.stops;
      from = there.from;
      below = there.below;
    }

stores_alike : (image : LoadedImage) (epoch : ℕ) (first second : List ℕ) → IsAlike image epoch first second → (step a : ℕ) → StoresAt image epoch first step a → StoresAt image epoch second step a
stores_alike image epoch first second same step a there =
    let other = same.there step there.hart there.after there.runs in record {
      hart = there.hart;
      after = other.0;
      address = there.address;
      width = there.width;
      value = there.value;
      runs = other.1;
      stops = there.stops;
      from = there.from;
      below = there.below;
    }

pub turned : (image : LoadedImage) (epoch : ℕ) (first second : List ℕ) → IsAlike image epoch first second → IsAlike image epoch second first
turned image epoch first second same = record { there = same.back; back = same.there }

module _ (image : LoadedImage) (epoch : ℕ) (first second : List ℕ) (same : IsAlike image epoch first second) where
  pub stores_so : (a : ℕ) → Stores image epoch first a → Stores image epoch second a
  stores_so a is = record { step = is.step; there = stores_alike image epoch first second same is.step a is.there }

  pub reads_so : (a : ℕ) → ReadsOutside image epoch first a → ReadsOutside image epoch second a
  reads_so a is = record {
    step = is.step;
    there = loads_alike image epoch first second same is.step a is.there;
    exposed = λ before low stores. is.exposed before low (stores_alike image epoch second first (turned image epoch first second same) before a stores);
  }

  touches_by : (step a : ℕ) → LoadsAt image epoch first step a ⊎ StoresAt image epoch first step a → LoadsAt image epoch second step a ⊎ StoresAt image epoch second step a
  touches_by step a (inl loads) = inl (loads_alike image epoch first second same step a loads)
  touches_by step a (inr stores) = inr (stores_alike image epoch first second same step a stores)

  pub touches_so : (a : ℕ) → Touches image epoch first a → Touches image epoch second a
  touches_so a is = record { step = is.step; there = touches_by is.step a is.there }

  pub stores_in_so : (line : ℕ) → StoresIn image epoch first line → StoresIn image epoch second line
  stores_in_so line is = record { at = is.at; in_line = is.in_line; stores = stores_so is.at is.stores }

  pub touches_in_so : (line : ℕ) → TouchesIn image epoch first line → TouchesIn image epoch second line
  touches_in_so line is = record { at = is.at; in_line = is.in_line; touches = touches_so is.at is.touches }

-- what epochs beside each other do over two memories
pub record AreAlike (image : LoadedImage) (memory memory' : ℕ → List ℕ) (earlier later : ℕ) : Type 0 where
  pub first : IsAlike image earlier (memory earlier) (memory' earlier)
  pub second : IsAlike image later (memory later) (memory' later)

-- an overflow over one memory is one over another, and on as many cores or more, where epochs beside each other do the same over both
module _ (image : LoadedImage) (cores cores' : ℕ) (memory memory' : ℕ → List ℕ)
    (beside : (earlier later : ℕ) → AreBeside image cores earlier later → AreBeside image cores' earlier later)
    (alike : (earlier later : ℕ) → AreBeside image cores earlier later → AreAlike image memory memory' earlier later) where
  shared_line : (epoch line : ℕ) → IsShared image cores memory epoch line → IsShared image cores' memory' epoch line
  shared_line epoch line x = record { other = x.other; beside = either_beside x.beside; touches = touches_in_so image x.other _ _ (by_beside x.beside) line x.touches }
    where
      either_beside : RunBeside image cores x.other epoch → RunBeside image cores' x.other epoch
      either_beside (inl b) = inl (beside x.other epoch b)
      either_beside (inr b) = inr (beside epoch x.other b)

      by_beside : RunBeside image cores x.other epoch → IsAlike image x.other (memory x.other) (memory' x.other)
      by_beside (inl b) = (alike x.other epoch b).first
      by_beside (inr b) = (alike epoch x.other b).second

  pub shared_overflow_so : SharedOverflowOver image cores memory → SharedOverflowOver image cores' memory'
  shared_overflow_so x =
      let both = alike x.earlier x.later x.beside in record {
        earlier = x.earlier;
        later = x.later;
        line = x.line;
        others = x.others;
        bound = x.bound;
        beside = beside x.earlier x.later x.beside;
        touches = touches_in_so image x.earlier _ _ both.first x.line x.touches;
        stores = stores_in_so image x.later _ _ both.second x.line x.stores;
        apart = x.apart;
        full = x.full;
        each = λ k d below. let one = x.each k d below in (one.0, stores_in_so image x.later _ _ both.second _ one.1, shared_line x.later _ one.2);
      }

-- a shared overflow is an overflow
pub overflow_of : (image : LoadedImage) (cores : ℕ) (memory : ℕ → List ℕ) → SharedOverflowOver image cores memory → OverflowOver image cores memory
overflow_of image cores memory x =
    let in_line = x.touches.in_line in record {
      earlier = x.earlier;
      later = x.later;
      touched = x.touches.at;
      others = x.others;
      lines = x.bound;
      beside = x.beside;
      touches = x.touches.touches;
      stores = subst (λ l. StoresIn image x.later (memory x.later) l) (sym in_line) x.stores;
      apart = x.apart;
      full = x.full;
      each = λ k d below. let one = x.each k d below in (subst (λ l. get_or x.others k d ≢ l) (sym in_line) one.0, one.1);
    }

-- ---- what is written in order

-- the byte is as it was before this epoch, or one from it on, and before that one, stores it in order
abbrev pub IsWrittenInOrder : LoadedImage → ℕ → ℕ → ℕ → Type 0
IsWrittenInOrder image from to a =
    (slice_index (memory_before image to) a ≡ slice_index (memory_before image from) a)
    ⊎ ((x : ℕ) × (from ≤ x) × (x < to) × Stores image x (memory_before image x) a)

-- so is each byte, from each epoch up to this one on
pub record IsUp (image : LoadedImage) (h : ℕ) : Type 0 where
  pub long : length (memory_before image h) ≡ image.size
  pub written : (d : ℕ) → d ≤ h → (a : ℕ) → IsWrittenInOrder image d h a

later_by : (image : LoadedImage) (d h a : ℕ) → d ≤ h → (slice_index (memory_before image (h + 1)) a ≡ slice_index (memory_before image h) a) ⊎ Stores image h (memory_before image h) a
    → IsWrittenInOrder image d h a → IsWrittenInOrder image d (h + 1) a
later_by image d h a most (inr stores) before = inr (h, most, omega arith, stores)
later_by image d h a most (inl same) (inl before) = inl (same ∙ before)
later_by image d h a most (inl same) (inr x) = inr (x.0, x.1, omega (arith, x.2), x.3)

up_next : (image : LoadedImage) (h : ℕ) → IsInOrder image (suc h) → IsUp image h → IsUp image (h + 1)
up_next image h is up =
    let now = ends_with image h (memory_before image h) is
    (alike image h (memory_before image h) (memory_before image h) up.long up.long (λ a reads. refl) (image.limit + 1)) in record {
      long = now.0;
      written = λ d most a. up_to_next (λ n. IsWrittenInOrder image n (h + 1) a) h (λ n low. later_by image n h a low (now.1 a) (up.written n low a)) (inl refl) d most;
    }

-- for each epoch that runs in order
pub all_up : (image : LoadedImage) (h : ℕ) → IsImage image → IsInOrder image h → IsUp image h
all_up image zero is order = record {
  long = memory_none image is;
  written = λ d most a. let none : 0 ≡ d = omega (arith, most) in subst (λ n. IsWrittenInOrder image n 0 a) none (inl refl);
}
all_up image (suc h) is order =
    subst (λ n. IsUp image n) (add-one h) (up_next image h order (all_up image h is (before_in_order image h order)))

-- ---- what the run shows

-- of an epoch that it has
pub run_in_order : (image : LoadedImage) (cores epoch : ℕ) → IsInOrder image epoch → run_memory image cores epoch ≡ memory_before image epoch
run_in_order image cores epoch is = ap (memory_by image cores epoch) is

shown_by : (image : LoadedImage) (cores h a : ℕ) → (ConflictInOrder image cores → ⊥) → h < image.epochs → IsInOrder image h
    → ReadsOutside image h (memory_before image h) a → IsWrittenInOrder image (first_beside cores h) h a
    → slice_index (memory_before image h) a ≡ slice_index (path_memory image cores h) a
shown_by image cores h a free within is reads (inl same) = same
shown_by image cores h a free within is reads (inr x) =
    let order = all_in_order image h x.0 is (omega (arith, x.2)) in
    absurd (free (record {
      earlier = x.0;
      later = h;
      byte = a;
      beside = record { from = x.1; before = x.2; within = within; starts = all_in_order image h (first_beside cores h) is (low_most cores h) };
      in_order = order;
      stores = subst (λ m. Stores image x.0 m a) (sym (run_in_order image cores x.0 order)) x.3;
      reads = subst (λ m. ReadsOutside image h m a) (sym (run_in_order image cores h is)) reads;
    }))

in_order_alike : (image : LoadedImage) (cores h : ℕ) → IsImage image → (ConflictInOrder image cores → ⊥) → h < image.epochs → IsInOrder image h
    → IsAlike image h (memory_before image h) (path_memory image cores h)
in_order_alike image cores h is free within order =
    let up = all_up image h is order in
    let low = all_up image (first_beside cores h) is (all_in_order image h (first_beside cores h) order (low_most cores h)) in
    alike_all image h (memory_before image h) (path_memory image cores h)
    (alike image h (memory_before image h) (path_memory image cores h) up.long low.long
    (λ a reads. shown_by image cores h a free within order reads (up.written (first_beside cores h) (low_most cores h) a)))

itself : (image : LoadedImage) (epoch : ℕ) (memory : List ℕ) → IsAlike image epoch memory memory
itself image epoch memory = record { there = λ step h after runs. (after, runs); back = λ step h after runs. (after, runs) }

pub number_done : (image : LoadedImage) (epoch n : ℕ) → (first_epochs image epoch).end ≡ Done n → IsInOrder image epoch
number_done image epoch n is = is ∙ ap Done (sym (done_number image epoch n is))

alike_by : (image : LoadedImage) (cores epoch : ℕ) → IsImage image → (ConflictInOrder image cores → ⊥) → epoch < image.epochs → (e : End) → (first_epochs image epoch).end ≡ e
    → IsAlike image epoch (path_memory image cores epoch) (memory_by image cores epoch e)
alike_by image cores epoch is free within (Done n) end =
    turned image epoch (memory_before image epoch) (path_memory image cores epoch) (in_order_alike image cores epoch is free within (number_done image epoch n end))
alike_by image cores epoch is free within (Exit last) end = itself image epoch (path_memory image cores epoch)
alike_by image cores epoch is free within (Fault last cause pc) end = itself image epoch (path_memory image cores epoch)

path_shown : (image : LoadedImage) (cores epoch : ℕ) → IsImage image → (ConflictInOrder image cores → ⊥) → epoch < image.epochs
    → IsAlike image epoch (path_memory image cores epoch) (run_memory image cores epoch)
path_shown image cores epoch is free within = alike_by image cores epoch is free within (first_epochs image epoch).end refl

-- ---- the laws

pub earlier_within : (image : LoadedImage) (cores earlier later : ℕ) → AreBeside image cores earlier later → earlier < image.epochs
earlier_within image cores earlier later beside = omega (arith, beside.before, beside.within)

pub bytes_shown : (image : LoadedImage) (cores : ℕ) → IsImage image → (ConflictInOrder image cores → ⊥) → Conflict image cores → ⊥
bytes_shown image cores is free x = free (record {
  earlier = x.earlier;
  later = x.later;
  byte = x.byte;
  beside = x.beside;
  in_order = x.in_order;
  stores = stores_so image x.earlier _ _ (path_shown image cores x.earlier is free (earlier_within image cores x.earlier x.later x.beside)) x.byte x.stores;
  reads = reads_so image x.later _ _ (path_shown image cores x.later is free x.beside.within) x.byte x.reads;
})

pub lines_shown : (image : LoadedImage) (cores : ℕ) → IsImage image → (LineConflictInOrder image cores → ⊥) → LineConflict image cores → ⊥
lines_shown image cores is free x =
    let bytes : ConflictInOrder image cores → ⊥ = λ conflict. free (line_of image cores (run_memory image cores) conflict) in
    free (record {
      earlier = x.earlier;
      later = x.later;
      written = x.written;
      read = x.read;
      beside = x.beside;
      same = x.same;
      stores = stores_so image x.earlier _ _ (path_shown image cores x.earlier is bytes (earlier_within image cores x.earlier x.later x.beside)) x.written x.stores;
      reads = reads_so image x.later _ _ (path_shown image cores x.later is bytes x.beside.within) x.read x.reads;
    })

pub buffers_shown : (image : LoadedImage) (cores : ℕ) → IsImage image → (ConflictInOrder image cores → ⊥) → (OverflowInOrder image cores → ⊥) → Overflow image cores → ⊥
buffers_shown image cores is bytes free x =
    let later = path_shown image cores x.later is bytes x.beside.within in
    free (record {
      earlier = x.earlier;
      later = x.later;
      touched = x.touched;
      others = x.others;
      lines = x.lines;
      beside = x.beside;
      touches = touches_so image x.earlier _ _ (path_shown image cores x.earlier is bytes (earlier_within image cores x.earlier x.later x.beside)) x.touched x.touches;
      stores = stores_in_so image x.later _ _ later _ x.stores;
      apart = x.apart;
      full = x.full;
      each = λ k d below. let one = x.each k d below in (one.0, stores_in_so image x.later _ _ later _ one.1);
    })

pub shared_shown : (image : LoadedImage) (cores : ℕ) → IsImage image → (ConflictInOrder image cores → ⊥) → (SharedOverflowInOrder image cores → ⊥) → SharedOverflow image cores → ⊥
shared_shown image cores is bytes free x =
    free (shared_overflow_so image cores cores (path_memory image cores) (run_memory image cores) (λ earlier later beside. beside)
    (λ earlier later beside. record {
      first = path_shown image cores earlier is bytes (earlier_within image cores earlier later beside);
      second = path_shown image cores later is bytes beside.within;
    }) x)

-- ---- far dependences

too_near : (cores earlier later distance : ℕ) → cores ≤ distance → earlier + distance ≤ later → first_beside cores later ≤ earlier → earlier < later → ⊥
too_near cores earlier later distance far most from before = omega (arith, far, most, from, before)

far_by : (image : LoadedImage) (cores earlier later : ℕ) (nearest : Option ℕ) → IsNearest image nearest → IsFar cores nearest → Depends image earlier later
    → first_beside cores later ≤ earlier → ⊥
far_by image cores earlier later None is far depends from = is earlier later depends
far_by image cores earlier later (Some distance) is far depends from = too_near cores earlier later distance far (is.1 earlier later depends) from depends.before

pub far_apart : (image : LoadedImage) (cores : ℕ) (nearest : Option ℕ) → IsImage image → IsInOrder image image.epochs → IsNearest image nearest → IsFar cores nearest
    → Conflict image cores → ⊥
far_apart image cores nearest is order nearest_is far =
    bytes_shown image cores is (λ x.
    let within = x.beside.within in
    let later = all_in_order image image.epochs x.later order (omega (arith, within)) in
    far_by image cores x.earlier x.later nearest nearest_is far (record {
      byte = x.byte;
      before = x.beside.before;
      within = x.beside.within;
      in_order = later;
      stores = subst (λ m. Stores image x.earlier m x.byte) (run_in_order image cores x.earlier x.in_order) x.stores;
      reads = subst (λ m. ReadsOutside image x.later m x.byte) (run_in_order image cores x.later later) x.reads;
    }) x.beside.from)

-- From fewer cores to more a conflict stays one: where none is on more cores, the path of an epoch on fewer does the same.
use Rattle.std.proofs.Common.{◌≡◌, ℕ, ◌<◌, ◌≤◌, slice_index, sym, inl, inr, arith}
use Rattle.rv32_image.specs.Image.{LoadedImage, IsImage}
use Rattle.epoch_paths.specs.InOrder.{IsInOrder}
use Rattle.dependences.specs.Conflict.{AreBeside, Conflict, LineConflict, Overflow, PathReads, first_beside, path_memory}
use Rattle.dependences.specs.Shared.{SharedOverflow}
use Rattle.dependences.specs.Laws.{IsAlike}
use Rattle.epoch_paths.proofs.Alike.{alike}
use Rattle.epoch_paths.proofs.InOrder.{all_in_order}
use Rattle.dependences.proofs.InOrder.{all_up, alike_all, low_most}
use Rattle.dependences.proofs.Showing.{earlier_within, line_of, reads_so, shared_overflow_so, stores_in_so, stores_so, touches_so, turned}
use Rattle.dependences.proofs.Starting.{IsWritten}

-- ---- both windows of an epoch

-- that of more cores begins no later
begins_before : (fewer more epoch : ℕ) → fewer ≤ more → first_beside more epoch ≤ first_beside fewer epoch
begins_before fewer more epoch least = omega (arith, least)

-- and an earlier epoch's no later than a later one's
begins_in_order : (cores earlier later : ℕ) → earlier < later → first_beside cores earlier ≤ first_beside cores later
begins_in_order cores earlier later before = omega (arith, before)

module _ (image : LoadedImage) (fewer more : ℕ) (is : IsImage image) (least : fewer ≤ more) where
  -- a byte that an epoch reads from outside on more cores is the same in the memory of both paths
  read_alike : (epoch a : ℕ) → (Conflict image more → ⊥) → epoch < image.epochs → IsInOrder image (first_beside fewer epoch) → PathReads image more epoch a
      → IsWritten image more (first_beside more epoch) (first_beside fewer epoch) a → slice_index (path_memory image more epoch) a ≡ slice_index (path_memory image fewer epoch) a
  read_alike epoch a free within order reads (inl same) = sym same
  read_alike epoch a free within order reads (inr x) = absurd (free (record {
    earlier = x.0;
    later = epoch;
    byte = a;
    beside = record {
      from = x.1;
      before = (let low = low_most fewer epoch in let before = x.2 in omega (arith, low, before));
      within = within;
      starts = all_in_order image (first_beside fewer epoch) (first_beside more epoch) order (begins_before fewer more epoch least);
    };
    in_order = all_in_order image (first_beside fewer epoch) x.0 order (omega (arith, x.2));
    stores = x.3;
    reads = reads;
  }))

  path_on_fewer : (epoch : ℕ) → (Conflict image more → ⊥) → epoch < image.epochs → IsInOrder image (first_beside fewer epoch)
      → IsAlike image epoch (path_memory image fewer epoch) (path_memory image more epoch)
  path_on_fewer epoch free within order =
      let low = low_most fewer epoch in
      let up = all_up image more (first_beside fewer epoch) is free (omega (arith, low, within)) order in
      let first = begins_before fewer more epoch least in
      let here = up.each (first_beside fewer epoch) (omega arith) in
      turned image epoch (path_memory image more epoch) (path_memory image fewer epoch)
      (alike_all image epoch (path_memory image more epoch) (path_memory image fewer epoch)
      (alike image epoch (path_memory image more epoch) (path_memory image fewer epoch) (up.each (first_beside more epoch) first).long here.long
      (λ a reads. read_alike epoch a free within order reads (here.written (first_beside more epoch) first a))))

  -- ---- two epochs beside each other

  beside_on_more : (earlier later : ℕ) → AreBeside image fewer earlier later → AreBeside image more earlier later
  beside_on_more earlier later beside =
      let first = begins_before fewer more later least in record {
        from = (let from = beside.from in omega (arith, first, from));
        before = beside.before;
        within = beside.within;
        starts = all_in_order image (first_beside fewer later) (first_beside more later) beside.starts first;
      }

  earlier_path : (earlier later : ℕ) → (Conflict image more → ⊥) → AreBeside image fewer earlier later
      → IsAlike image earlier (path_memory image fewer earlier) (path_memory image more earlier)
  earlier_path earlier later free beside =
      path_on_fewer earlier free (earlier_within image fewer earlier later beside)
      (all_in_order image (first_beside fewer later) (first_beside fewer earlier) beside.starts (begins_in_order fewer earlier later beside.before))

  later_path : (earlier later : ℕ) → (Conflict image more → ⊥) → AreBeside image fewer earlier later
      → IsAlike image later (path_memory image fewer later) (path_memory image more later)
  later_path earlier later free beside = path_on_fewer later free beside.within beside.starts

  -- ---- the law

  pub bytes_on_fewer : (Conflict image more → ⊥) → Conflict image fewer → ⊥
  bytes_on_fewer free x = free (record {
    earlier = x.earlier;
    later = x.later;
    byte = x.byte;
    beside = beside_on_more x.earlier x.later x.beside;
    in_order = x.in_order;
    stores = stores_so image x.earlier _ _ (earlier_path x.earlier x.later free x.beside) x.byte x.stores;
    reads = reads_so image x.later _ _ (later_path x.earlier x.later free x.beside) x.byte x.reads;
  })

  pub lines_on_fewer : (LineConflict image more → ⊥) → LineConflict image fewer → ⊥
  lines_on_fewer free x =
      let bytes : Conflict image more → ⊥ = λ conflict. free (line_of image more (path_memory image more) conflict) in
      free (record {
        earlier = x.earlier;
        later = x.later;
        written = x.written;
        read = x.read;
        beside = beside_on_more x.earlier x.later x.beside;
        same = x.same;
        stores = stores_so image x.earlier _ _ (earlier_path x.earlier x.later bytes x.beside) x.written x.stores;
        reads = reads_so image x.later _ _ (later_path x.earlier x.later bytes x.beside) x.read x.reads;
      })

  pub buffers_on_fewer : (Conflict image more → ⊥) → (Overflow image more → ⊥) → Overflow image fewer → ⊥
  buffers_on_fewer bytes free x =
      let later = later_path x.earlier x.later bytes x.beside in
      free (record {
        earlier = x.earlier;
        later = x.later;
        touched = x.touched;
        others = x.others;
        lines = x.lines;
        beside = beside_on_more x.earlier x.later x.beside;
        touches = touches_so image x.earlier _ _ (earlier_path x.earlier x.later bytes x.beside) x.touched x.touches;
        stores = stores_in_so image x.later _ _ later _ x.stores;
        apart = x.apart;
        full = x.full;
        each = λ k d below. let one = x.each k d below in (one.0, stores_in_so image x.later _ _ later _ one.1);
      })

  pub shared_on_fewer : (Conflict image more → ⊥) → (SharedOverflow image more → ⊥) → SharedOverflow image fewer → ⊥
  shared_on_fewer bytes free x =
      free (shared_overflow_so image fewer more (path_memory image fewer) (path_memory image more) beside_on_more
      (λ earlier later beside. record { first = earlier_path earlier later bytes beside; second = later_path earlier later bytes beside }) x)

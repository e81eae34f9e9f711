-- What is kept of the lines of the caches while an epoch runs, at any of its harts.
use Rattle.std.proofs.Common.{◌≡◌, ℕ, ◌+◌, ◌<◌, Bool, true, false, true≢false, List, ◌∷◌, [], Option, Some, None, slice_index, refl, sym, ap, subst, ◌∙◌, arith}
use Rattle.memory_bytes.specs.Bytes.{number_at, with_number}
use Rattle.memory_bytes.proofs.SmallFacts.{some_wide}
use Rattle.rv32_image.specs.Image.{LoadedImage}
use Rattle.rv32_exec.specs.declared.stop.Stop.{Stop}
use Rattle.rv32_exec.specs.declared.stop.Stop.TheVariants as stop
use Rattle.rv32_exec.specs.declared.sequential.End.TheVariants as end
use Rattle.rv32_exec.specs.Hart.{HartState, start_of, stepped}
use Rattle.rv32_exec.specs.Execute.{Executes, IsAccess, IsStore, Stops, after_load, hart_effect}
use Rattle.rv32_exec.specs.Interpreter.{IsNoAccess}
use Rattle.rv32_exec.specs.NextEvent.{Event, next_event}
use Rattle.rv32_exec.specs.Arrival.{after_number}
use Rattle.rv32_exec.specs.Sequential.{after_stop, first_epochs}
use Rattle.rv32_exec.specs.Laws.{HasStopped}
use Rattle.rv32_exec.proofs.Accesses.{stop_of_effect}
use Rattle.rv32_exec.proofs.Runs.{next_event-executes, next_event-stops}
use Rattle.spec_history.specs.Conflict.{line_number}
use Rattle.dependences.specs.declared.caches.CacheConflict.{CacheConflict}
use Rattle.dependences.specs.declared.caches.CacheConflict.TheVariants.{Buffer, Line}
use Rattle.dependences.specs.declared.watch.Watch.{Watch}
use Rattle.epoch_paths.specs.InOrder.{IsInOrder}
use Rattle.dependences.specs.Conflict.{first_beside, run_memory}
use Rattle.epoch_paths.specs.Kept.{CanRun, IsNext, next_runs}
use Rattle.dependences.specs.KeptLines.{AreLinesKept, AreStored, IsAllowed, Lines, MeetsLine, MeetsNone}
use Rattle.dependences.specs.KeptTouches.{AreTouches, AreTouchesKept, IsFound, Touched, after_store, after_touch}
use Rattle.dependences.specs.KeptWatch.{AreAtHand, InBuffers, InLines, IsWatchKept, IsWatched, IsWatchedUpTo, begun, found_by}
use Rattle.dependences.proofs.AtHand.{none_at_hand}
use Rattle.dependences.proofs.Buffering.{buffer_conflict, buffers_kept, buffers_load, buffers_start, buffers_store, touched_long}
use Rattle.dependences.proofs.Lining.{line_conflict, lines_kept, lines_load, lines_path, lines_start, lines_store, meets_none}
use Rattle.epoch_paths.proofs.Outside.{next_so}
use Rattle.dependences.proofs.Running.{stopped_so}

-- the event of the last hart at which it was right is the stop
comes : (image : LoadedImage) (watch : Watch) (h : HartState) (memory : List ℕ) (at : Stop) (k : IsWatchedUpTo image watch h memory) → hart_effect image h ≡ Stops at
    → next_event image k.from ≡ record { now = h; at = at }
comes image watch h memory at k stops = k.same ∙ next_event-stops image h at stops

pub still_watched : (image : LoadedImage) (watch : Watch) (h after : HartState) (memory : List ℕ) → hart_effect image h ≡ Executes after → IsWatched image watch h memory
    → IsWatched image watch after memory
still_watched image watch h after memory executes x = record {
  limits = x.limits;
  within = x.within;
  starts = x.starts;
  met = x.met;
  kept = λ none.
      let k = x.kept none in record {
        from = k.from;
        same = k.same ∙ next_event-executes image h after executes;
        in_lines = k.in_lines;
        in_buffers = k.in_buffers;
      };
}

-- where a conflict has been met nothing more is noted
pub met_before : (image : LoadedImage) (watch : Watch) (h after : HartState) (memory memory' : List ℕ) → watch.has_met ≡ true → IsWatched image watch h memory → IsWatched image watch after memory'
met_before image watch h after memory memory' met x = record {
  limits = x.limits;
  within = x.within;
  starts = x.starts;
  met = x.met;
  kept = λ none. absurd (true≢false (sym met ∙ none));
}

-- ---- what an access asks for

allowed : (image : LoadedImage) (h : HartState) (address width : ℕ) → IsAccess image h address width → IsAllowed image address width
allowed image h address width access = record { wide = access.wide; aligned = access.aligned; within = access.within }

inside : (image : LoadedImage) (h : HartState) (address width : ℕ) → IsAccess image h address width → address < image.size
inside image h address width access = let some = some_wide width access.wide in let within = access.within in omega (arith, some, within)

pub load_access : (image : LoadedImage) (h : HartState) (address width : ℕ) (signed : Bool) (rd : ℕ) → hart_effect image h ≡ Stops (stop.Load address width signed rd) → IsAllowed image address width
load_access image h address width signed rd stops = allowed image h address width (stop_of_effect image h (stop.Load address width signed rd) stops)

pub access_of : (image : LoadedImage) (h : HartState) (address width : ℕ) (signed : Bool) (rd : ℕ) → hart_effect image h ≡ Stops (stop.Load address width signed rd) → address < image.size
access_of image h address width signed rd stops = inside image h address width (stop_of_effect image h (stop.Load address width signed rd) stops)

store_there : (image : LoadedImage) (h : HartState) (address width value : ℕ) → hart_effect image h ≡ Stops (stop.Store address width value) → IsAccess image h address width
store_there image h address width value stops = let it : IsStore image h address width value = stop_of_effect image h (stop.Store address width value) stops in it.access

pub store_access : (image : LoadedImage) (h : HartState) (address width value : ℕ) → hart_effect image h ≡ Stops (stop.Store address width value) → IsAllowed image address width
store_access image h address width value stops = allowed image h address width (store_there image h address width value stops)

pub store_of : (image : LoadedImage) (h : HartState) (address width value : ℕ) → hart_effect image h ≡ Stops (stop.Store address width value) → address < image.size
store_of image h address width value stops = inside image h address width (store_there image h address width value stops)

-- ---- a load

module _ (image : LoadedImage) (watch : Watch) (h : HartState) (memory : List ℕ) (address width : ℕ) (signed : Bool) (rd : ℕ) (x : IsWatched image watch h memory) (none : watch.has_met ≡ false)
    (stops : hart_effect image h ≡ Stops (stop.Load address width signed rd)) where
  at_load : IsAccess image h address width
  at_load = stop_of_effect image h (stop.Load address width signed rd) stops

  -- it meets a line of an epoch beside it
  pub met_now : MeetsLine image watch.lines watch.epoch (first_beside watch.cores watch.epoch) address width → (after : HartState) (memory' : List ℕ)
      → IsWatched image (record { cores = watch.cores; epoch = watch.epoch; lines = watch.lines; touches = watch.touches; has_met = true; quiet = watch.quiet; stored = watch.stored }) after memory'
  met_now meets after memory' =
      let k = x.kept none in
      let is = ap (λ (e : Event). e.at) (comes image watch h memory _ k stops) in
      record {
        limits = x.limits;
        within = x.within;
        starts = x.starts;
        met = λ yes. line_conflict image watch.cores watch.epoch (run_memory image watch.cores watch.epoch) memory watch.lines k.from k.in_lines address width signed rd is refl x.within x.starts meets;
        kept = λ no. absurd (true≢false no);
      }

  pub watched_load : (MeetsLine image watch.lines watch.epoch (first_beside watch.cores watch.epoch) address width → ⊥) → (touched : Touched)
      → touched ≡ after_touch watch.touches image.machine.buffer_lines watch.cores watch.epoch (line_number image address)
      → (new : Watch) → new.cores ≡ watch.cores → new.epoch ≡ watch.epoch → new.lines ≡ watch.lines → new.touches ≡ touched → new.has_met ≡ false
      → IsWatched image new (after_load h width signed rd (number_at (λ a. slice_index memory a) address width)) memory
  watched_load unmet touched is_touched new cores epoch lines touches met =
      let k = x.kept none in
      let come = comes image watch h memory _ k stops in
      let is = ap (λ (e : Event). e.at) come in
      let number = number_at (λ a. slice_index memory a) address width in
      let first = run_memory image watch.cores watch.epoch in
      let access = at_load in
      let in_lines = lines_load image watch.cores watch.epoch first memory watch.lines k.from k.in_lines address width signed rd number is refl unmet in
      let in_buffers = buffers_load image watch.cores watch.epoch first memory watch.touches k.from k.in_buffers x.limits x.within address width access.wide access.aligned access.within
      signed rd number is refl in
      record {
        limits = x.limits;
        within = rw epoch x.within;
        starts = rw (cores, epoch) x.starts;
        met = λ yes. absurd (true≢false (sym yes ∙ met));
        kept = λ no. record {
          from = after_load h width signed rd number;
          same = refl;
          in_lines = rw (cores, epoch, lines) (subst (λ (e : Event). InLines image watch.cores watch.epoch first memory watch.lines (after_number e.now e.at number)) come in_lines);
          in_buffers = rw (cores, epoch, touches, is_touched)
              (subst (λ (e : Event). InBuffers image watch.cores watch.epoch first memory (after_touch watch.touches image.machine.buffer_lines watch.cores watch.epoch (line_number image address)) (after_number e.now e.at number)) come in_buffers);
        };
      }

-- ---- a store

module _ (image : LoadedImage) (watch : Watch) (h : HartState) (memory : List ℕ) (address width value : ℕ) (x : IsWatched image watch h memory) (none : watch.has_met ≡ false)
    (stops : hart_effect image h ≡ Stops (stop.Store address width value)) where
  pub stored_long : AreTouches image (after_touch watch.touches image.machine.buffer_lines watch.cores watch.epoch (line_number image address))
  stored_long =
      let k = x.kept none in
      let access = store_there image h address width value stops in
      touched_long image watch.cores watch.epoch (run_memory image watch.cores watch.epoch) memory watch.touches k.from k.in_buffers x.limits x.within address width access.wide access.aligned access.within

  pub watched_store : (stored : Lines) (touched : Touched) → AreStored image watch.lines stored watch.epoch (first_beside watch.cores watch.epoch) address width
      → touched ≡ after_store (after_touch watch.touches image.machine.buffer_lines watch.cores watch.epoch (line_number image address)) image.machine.buffer_lines watch.cores watch.epoch (line_number image address)
      → (new : Watch) → new.cores ≡ watch.cores → new.epoch ≡ watch.epoch → new.lines ≡ stored → new.touches ≡ touched → new.has_met ≡ false
      → IsWatched image new (stepped h) (with_number memory address width value)
  watched_store stored touched are is_touched new cores epoch lines touches met =
      let k = x.kept none in
      let come = comes image watch h memory _ k stops in
      let is = ap (λ (e : Event). e.at) come in
      let here = ap (λ (e : Event). e.now) come in
      let first = run_memory image watch.cores watch.epoch in
      let access = store_there image h address width value stops in
      let after = with_number memory address width value in
      let in_lines = lines_store image watch.cores watch.epoch first memory watch.lines k.from k.in_lines stored address width value is are in
      let in_buffers = buffers_store image watch.cores watch.epoch first memory watch.touches k.from k.in_buffers x.limits x.within address width access.wide access.aligned access.within value is in
      record {
        limits = x.limits;
        within = rw epoch x.within;
        starts = rw (cores, epoch) x.starts;
        met = λ yes. absurd (true≢false (sym yes ∙ met));
        kept = λ no. record {
          from = stepped h;
          same = refl;
          in_lines = rw (cores, epoch, lines) (subst (λ (g : HartState). InLines image watch.cores watch.epoch first after stored (stepped g)) here in_lines);
          in_buffers = rw (cores, epoch, touches, is_touched)
              (subst (λ (g : HartState). InBuffers image watch.cores watch.epoch first after
              (after_store (after_touch watch.touches image.machine.buffer_lines watch.cores watch.epoch (line_number image address)) image.machine.buffer_lines watch.cores watch.epoch (line_number image address)) (stepped g)) here in_buffers);
        };
      }

-- ---- the start

pub watch_started : (image : LoadedImage) (watch : Watch) (cores epoch : ℕ) (memory : List ℕ) → watch.cores ≡ cores → watch.epoch ≡ epoch → watch.has_met ≡ false → CanRun image epoch memory
    → IsInOrder image (first_beside cores epoch) → memory ≡ run_memory image cores epoch → AreLinesKept image cores epoch watch.lines → AreTouchesKept image cores epoch watch.touches
    → IsWatched image watch (start_of image epoch) memory
watch_started image watch cores epoch memory are is none run starts same lines touches = record {
  limits = run.limits;
  within = rw is run.within;
  starts = rw (are, is) starts;
  met = λ yes. absurd (true≢false (sym yes ∙ none));
  kept = λ no. record {
    from = start_of image epoch;
    same = refl;
    in_lines = rw (are, is, ← same) (lines_start image cores epoch memory watch.lines run.size lines);
    in_buffers = rw (are, is, ← same) (buffers_start image cores epoch watch.touches touches memory run.size);
  };
}

-- ---- the end

-- what is kept of an epoch that has come to its end or fault, and has met nothing
pub record IsWatchEnded (image : LoadedImage) (watch : Watch) (cores epoch : ℕ) (h : HartState) (at : Stop) (first memory : List ℕ) : Type 0 where
  pub found : watch.touches.full ≡ true → IsFound image cores (Some (Buffer epoch))
  pub none : MeetsNone image cores epoch
  pub kept : watch.touches.full ≡ false → IsWatchKept image cores watch (epoch + 1)
  pub next : first_epochs image epoch ≡ record { end = end.Done epoch; bytes = first } → IsNext image (epoch + 1) memory (next_runs image h at)

ended : (image : LoadedImage) (watch : Watch) (h : HartState) (at : Stop) (memory : List ℕ) → IsWatched image watch h memory → watch.has_met ≡ false → hart_effect image h ≡ Stops at → IsNoAccess at
    → IsWatchEnded image watch watch.cores watch.epoch h at (run_memory image watch.cores watch.epoch) memory
ended image watch h at memory x none stops no_access =
    let k = x.kept none in
    let come = comes image watch h memory at k stops in
    let first = run_memory image watch.cores watch.epoch in
    let path = lines_path image watch.cores watch.epoch first memory watch.lines k.from k.in_lines in
    let stopped_lines = subst (λ (e : Event). HasStopped (after_stop e.now k.in_lines.at.after e.at)) (sym come) (stopped_so h k.in_lines.at.after at no_access) in
    let stopped_buffers = subst (λ (e : Event). HasStopped (after_stop e.now k.in_buffers.at.after e.at)) (sym come) (stopped_so h k.in_buffers.at.after at no_access) in
    record {
      found = λ full. buffer_conflict image watch.cores watch.epoch first memory watch.touches k.from k.in_buffers stopped_buffers refl x.within x.starts full;
      none = meets_none image watch.cores watch.epoch first memory watch.lines k.from k.in_lines stopped_lines refl;
      kept = λ clear. record {
        cores_are = refl;
        lines = lines_kept image watch.cores watch.epoch first memory watch.lines k.from k.in_lines stopped_lines refl;
        touches = buffers_kept image watch.cores watch.epoch first memory watch.touches k.from k.in_buffers stopped_buffers refl clear;
      };
      next = λ done. subst (λ (e : Event). IsNext image (watch.epoch + 1) memory (next_runs image e.now e.at)) come
          (next_so image watch.epoch first memory k.from path done (subst (λ (e : Event). HasStopped (after_stop e.now path.at.after e.at)) (sym come) (stopped_so h path.at.after at no_access)));
    }

pub watch_ended : (image : LoadedImage) (watch : Watch) (cores epoch : ℕ) (h : HartState) (at : Stop) (first memory : List ℕ) {was : ℕ} → was ≡ epoch
    → watch.cores ∷ watch.epoch ∷ [] ≡ cores ∷ was ∷ [] → first ≡ run_memory image cores epoch → IsWatched image watch h memory → watch.has_met ≡ false → hart_effect image h ≡ Stops at → IsNoAccess at
    → IsWatchEnded image watch cores epoch h at first memory
watch_ended image watch cores epoch h at first memory {was} is fixed same x none stops no_access =
    let number : watch.epoch ≡ was = cc in
    let count : watch.cores ≡ cores = cc in
    let e = number ∙ is in
    subst (λ m. IsWatchEnded image watch cores epoch h at m memory) (sym same)
    (subst (λ c. IsWatchEnded image watch c epoch h at (run_memory image c epoch) memory) count
    (subst (λ n. IsWatchEnded image watch watch.cores n h at (run_memory image watch.cores n) memory) e (ended image watch h at memory x none stops no_access)))

-- the conflict that an epoch has met
pub watch_met : (image : LoadedImage) (watch : Watch) (cores epoch : ℕ) (h : HartState) (memory : List ℕ) {was : ℕ} → was ≡ epoch → watch.cores ∷ watch.epoch ∷ [] ≡ cores ∷ was ∷ []
    → IsWatched image watch h memory → watch.has_met ≡ true → IsFound image cores (Some (Line epoch))
watch_met image watch cores epoch h memory {was} is fixed x met =
    let number : watch.epoch ≡ was = cc in
    let count : watch.cores ≡ cores = cc in
    subst (λ n. IsFound image cores (Some (Line n))) (number ∙ is) (subst (λ c. IsFound image c (Some (Line watch.epoch))) count (x.met met))

-- what is found of an epoch that has come to its end or fault
pub record IsWatchDone (image : LoadedImage) (watch : Watch) (cores epoch : ℕ) (h : HartState) (at : Stop) (first memory : List ℕ) : Type 0 where
  pub found : IsFound image cores (found_by watch)
  pub none : found_by watch ≡ None → MeetsNone image cores epoch
  pub kept : found_by watch ≡ None → IsWatchKept image cores watch (epoch + 1)
  pub next : found_by watch ≡ None → first_epochs image epoch ≡ record { end = end.Done epoch; bytes = first } → IsNext image (epoch + 1) memory (next_runs image h at)

one_or_none : (conflict : CacheConflict) (found : Option CacheConflict) → found ≡ Some conflict → found ≡ None → ⊥
one_or_none conflict found one none = cc

module _ (image : LoadedImage) (watch : Watch) (cores epoch : ℕ) (h : HartState) (at : Stop) (first memory : List ℕ) (number : watch.epoch ≡ epoch) (count : watch.cores ≡ cores)
    (same : first ≡ run_memory image cores epoch) (x : IsWatched image watch h memory) (stops : hart_effect image h ≡ Stops at) (no_access : IsNoAccess at) where
  fixed : watch.cores ∷ watch.epoch ∷ [] ≡ cores ∷ epoch ∷ []
  fixed = rw (count, number) refl

  unmet : watch.has_met ≡ false → IsWatchEnded image watch cores epoch h at first memory
  unmet none = watch_ended image watch cores epoch h at first memory refl fixed same x none stops no_access

  done_by : (met full : Bool) → watch.has_met ≡ met → watch.touches.full ≡ full → IsWatchDone image watch cores epoch h at first memory
  done_by true full met is = record {
    found = rw (met, number) (watch_met image watch cores epoch h memory refl fixed x met);
    none = λ found. absurd (one_or_none (Line watch.epoch) (found_by watch) (rw met refl) found);
    kept = λ found. absurd (one_or_none (Line watch.epoch) (found_by watch) (rw met refl) found);
    next = λ found. absurd (one_or_none (Line watch.epoch) (found_by watch) (rw met refl) found);
  }
  done_by false true met is = record {
    found = rw (met, is, number) (let end = unmet met in end.found is);
    none = λ found. absurd (one_or_none (Buffer watch.epoch) (found_by watch) (rw (met, is) refl) found);
    kept = λ found. absurd (one_or_none (Buffer watch.epoch) (found_by watch) (rw (met, is) refl) found);
    next = λ found. absurd (one_or_none (Buffer watch.epoch) (found_by watch) (rw (met, is) refl) found);
  }
  done_by false false met is =
      let end = unmet met in
      record {
        found = rw (met, is) tt;
        none = λ found. end.none;
        kept = λ found. end.kept is;
        next = λ found. end.next;
      }

  watch_done_at : IsWatchDone image watch cores epoch h at first memory
  watch_done_at = done_by watch.has_met watch.touches.full refl refl

-- of one that began after these
pub watch_done : (image : LoadedImage) (watch : Watch) (cores epoch : ℕ) (h : HartState) (at : Stop) (first memory : List ℕ) (old start : Watch) → start ≡ begun old epoch → old.cores ≡ cores
    → watch.cores ∷ watch.epoch ∷ [] ≡ start.cores ∷ start.epoch ∷ [] → first ≡ run_memory image cores epoch → IsWatched image watch h memory → hart_effect image h ≡ Stops at → IsNoAccess at
    → IsWatchDone image watch cores epoch h at first memory
watch_done image watch cores epoch h at first memory old start is count fixed same x stops no_access =
    let number : watch.epoch ≡ start.epoch = cc in
    let counted : watch.cores ≡ start.cores = cc in
    watch_done_at image watch cores epoch h at first memory (number ∙ ap (λ (w : Watch). w.epoch) is) (counted ∙ (ap (λ (w : Watch). w.cores) is ∙ count)) same x stops no_access

-- the notes are right where an epoch begins
pub watch_begun : (image : LoadedImage) (old start : Watch) (cores epoch : ℕ) (memory : List ℕ) → start ≡ begun old epoch → CanRun image epoch memory → IsInOrder image (first_beside cores epoch)
    → memory ≡ run_memory image cores epoch → IsWatchKept image cores old epoch → IsWatched image start (start_of image epoch) memory × AreAtHand start
watch_begun image old start cores epoch memory is run starts same kept =
    subst (λ (w : Watch). IsWatched image w (start_of image epoch) memory × AreAtHand w) (sym is) (
      watch_started image (begun old epoch) cores epoch memory kept.cores_are refl refl run starts same kept.lines kept.touches,
      none_at_hand (begun old epoch) refl refl,
    )

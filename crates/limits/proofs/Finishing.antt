-- The run is over: its steps are a timing of the epochs that run in order.
use Rattle.std.proofs.Common.{◌≡◌, ℕ, suc, ◌+◌, ◌-◌, ◌<◌, ◌≤◌, true, false, List, refl, sym, ap, subst, inl, inr, Some, arith}
use Rattle.std.proofs.lemmas.Bool.{cases_lt}
use Rattle.rv32_image.specs.Image.{LoadedImage}
use Rattle.rv32_exec.specs.declared.stop.Stop.{Stop}
use Rattle.rv32_exec.specs.declared.stop.Stop.TheVariants as stop
use Rattle.rv32_exec.specs.declared.sequential.End.TheVariants.{Done}
use Rattle.rv32_exec.specs.NextEvent.{next_event}
use Rattle.rv32_exec.specs.Sequential.{SequentialResult, after_stop, exits, first_epochs}
use Rattle.rv32_exec.specs.Laws.{HasStopped}
use Rattle.spec_history.specs.FlatState.{CoreState, FlatState}
use Rattle.spec_history.proofs.OneEntry.Going.{Going}
use Rattle.epoch_paths.specs.InOrder.{IsInOrder, memory_before, AreAll}
use Rattle.epoch_paths.proofs.InOrder.{all_by_last, all_in_order as all_epochs}
use Rattle.epoch_paths.proofs.Outside.{OnPath, done_before, no_exit, no_fault}
use Rattle.limits.specs.declared.limit.Waits.{Waits}
use Rattle.limits.specs.Limits.{IsLimit, IsTiming, Timing, steps_of}
use Rattle.limits.proofs.Stopping.{lasts_once}
use Rattle.limits.proofs.Marks.{IsDone, IsPath, IsTimedIn, Marks}
use Rattle.limits.proofs.Beginning.{one_here}
use Rattle.limits.proofs.Pathing.{shown_by}
use Rattle.limits.proofs.Leaving.{all_begin, all_done, all_in_order, left_marks, path}

-- ---- one timing

-- in so many steps a timing has all epochs that run in order
pub record IsBound (image : LoadedImage) (waits : Waits) (cores steps : ℕ) : Type 0 where
  pub epochs : ℕ
  pub all : AreAll image epochs
  pub timing : Timing
  pub is : IsTiming image waits cores epochs timing
  pub most : steps_of epochs timing ≤ steps

pub one_count : (image : LoadedImage) (n k : ℕ) → AreAll image n → AreAll image k → n ≤ k
one_count image n k first second = elim (cases_lt k n) [
  | inl less ↦ (let most = first.most in let low = second.no_more k (omega (arith, less, most)) (first.each k less) in absurd (omega (arith, low)))
  | inr most ↦ most
]

pub bounds : (image : LoadedImage) (waits : Waits) (cores limit steps : ℕ) → IsLimit image waits cores limit → IsBound image waits cores steps → limit ≤ steps
bounds image waits cores limit steps l b =
    let same : b.epochs ≡ l.epochs = omega (arith, one_count image b.epochs l.epochs b.all l.all, one_count image l.epochs b.epochs l.all b.all) in
    let least = l.least b.timing (subst (λ n. IsTiming image waits cores n b.timing) same b.is) in
    let steps_are = ap (λ n. steps_of n b.timing) same in
    let most = b.most in omega (arith, least, steps_are, most)

pub no_epochs : (image : LoadedImage) (waits : Waits) (cores steps : ℕ) (t : Timing) → AreAll image 0 → 1 ≤ steps → IsBound image waits cores steps
no_epochs image waits cores steps t all some = record {
  epochs = 0;
  all = all;
  timing = t;
  is = record {
    begins = λ d low. absurd (omega (arith, low));
    first = λ d low. absurd (omega (arith, low));
    next = λ d place length low. absurd (omega (arith, low));
    ready = λ d place byte earlier stored depends. let low = all.no_more d depends.within depends.in_order in absurd (omega (arith, low));
    ends = λ d length low. absurd (omega (arith, low));
    in_order = λ d low. absurd (omega (arith, low));
  };
  most = some;
}

-- ---- the end of the homefree epoch is the loop's

module _ (image : LoadedImage) (waits : Waits) (cores now : ℕ) (s : FlatState) (m : Marks) (by : ℕ) (c : CoreState) (going : Going image cores s) (x : IsTimedIn image waits cores now s m)
    (at : s.cores by ≡ Some c) (homefree : c.epoch ≡ s.homefree) (unhurt : c.hurt ≡ false) (due : m.from by + ((next_event image c.hart).now.done - c.hart.done) ≤ now) where
  abbrev memory : List ℕ
  memory = memory_before image c.epoch

  abbrev p : IsPath image waits m c
  p = path image waits cores now s m by c going x at homefree unhurt due

  abbrev m' : Marks
  m' = left_marks m by c.epoch c.hart.done (next_event image c.hart).now.done now (shown_by c.own m.shown now)

  started : c.epoch < image.epochs
  started = let low = (going.kept.core by c at).below in let most = going.kept.started in omega (arith, low, most)

  in_order : IsInOrder image c.epoch
  in_order = subst (IsInOrder image) (sym homefree) (ap (λ (r : SequentialResult). r.end) going.shown.done)

  done : first_epochs image c.epoch ≡ record { end = Done c.epoch; bytes = memory }
  done = subst (λ e. first_epochs image e ≡ record { end = Done e; bytes = memory_before image e }) (sym homefree) (done_before image s.homefree going.shown.before going.shown.done)

  module _ (stopped : HasStopped (after_stop (next_event image c.hart).now p.at.after (next_event image c.hart).at)) (all : AreAll image (c.epoch + 1)) where
    one : (d : ℕ) → d < suc c.epoch → IsDone image waits now m' d
    one d low = all_done image waits cores now s m by c going x at homefree unhurt due stopped d (omega (arith, low, homefree))

    is_timing : IsTiming image waits cores (suc c.epoch) m'.timing
    is_timing = record {
      begins = λ d low.
          let below = (going.kept.core by c at).below in
          (all_begin image waits cores now s m by c going x at homefree unhurt due stopped d (omega (arith, low, below))).1;
      first = λ d low. (one d low).first;
      next = λ d place length low is before.
          let y = one d low in let same = lasts_once image d y.length length y.lasts is in y.next place (omega (arith, before, same));
      ready = λ d place byte earlier stored depends.
          let low = all.no_more d depends.within depends.in_order in (one d (omega (arith, low))).ready place byte earlier stored depends;
      ends = λ d length low is.
          let y = one d low in let same = lasts_once image d y.length length y.lasts is in subst (λ n. m'.timing.at d n ≤ m'.timing.commit d) same y.ends;
      in_order = λ d low. all_in_order image waits cores now s m by c going x at homefree unhurt due stopped d (omega (arith, low, homefree));
    }

    pub is_bound : IsBound image waits cores (now + 1)
    is_bound =
        let commit = one_here m.timing.commit c.epoch now in record {
          epochs = suc c.epoch;
          all = subst (AreAll image) (let same : c.epoch + 1 ≡ suc c.epoch = omega arith in same) all;
          timing = m'.timing;
          is = is_timing;
          most = omega (arith, commit);
        }

  abbrev on_path : OnPath image c.epoch memory p.at.after c.hart
  on_path = record { own = p.own; at = p.at; is = refl }

  stops : (a : Stop) → (next_event image c.hart).at ≡ a → HasStopped (after_stop (next_event image c.hart).now p.at.after a)
      → HasStopped (after_stop (next_event image c.hart).now p.at.after (next_event image c.hart).at)
  stops a is stopped = subst (λ y. HasStopped (after_stop (next_event image c.hart).now p.at.after y)) (sym is) stopped

  pub over_done : (next_event image c.hart).at ≡ stop.Ended → s.homefree + 1 ≡ image.epochs → IsBound image waits cores (now + 1)
  over_done is last = is_bound (stops stop.Ended is tt) (record {
    most = omega (arith, last, homefree);
    each = λ d low. all_epochs image c.epoch d in_order (omega (arith, low));
    no_more = λ d low order. omega (arith, low, last, homefree);
  })

  pub over_exit : (next_event image c.hart).at ≡ stop.Ended → exits image (next_event image c.hart).now ≡ true → IsBound image waits cores (now + 1)
  over_exit is exit = is_bound (stops stop.Ended is tt)
      (all_by_last image c.epoch started in_order (no_exit image c.epoch memory p.at.after c.hart on_path done is exit))

  pub over_fault : (cause pc : ℕ) → (next_event image c.hart).at ≡ stop.Fault cause pc → IsBound image waits cores (now + 1)
  over_fault cause pc is = is_bound (stops (stop.Fault cause pc) is tt)
      (all_by_last image c.epoch started in_order (no_fault image c.epoch memory p.at.after c.hart on_path done cause pc is))

-- The steps of a run beside those of a timing: no step comes later.
use Rattle.std.proofs.Common.{◌≡◌, ◌≢◌, ◌⊎◌, ℕ, zero, suc, ◌+◌, ◌-◌, ◌<◌, ◌≤◌, Option, None, sym, ap, inl, inr, Some, arith}
use Rattle.std.proofs.lemmas.Bool.{cases_lt}
use Rattle.rv32_exec.specs.declared.stop.Stop.{Stop}
use Rattle.rv32_exec.specs.declared.stop.Stop.TheVariants as stop
use Rattle.rv32_image.specs.Image.{LoadedImage}
use Rattle.rv32_exec.specs.Hart.{HartState, start_of}
use Rattle.rv32_exec.specs.NextEvent.{next_event}
use Rattle.spec_history.specs.FlatState.{CoreState, FlatState}
use Rattle.epoch_paths.specs.InOrder.{IsInOrder, memory_before, AreAll}
use Rattle.epoch_paths.specs.Kept.{IsAt}
use Rattle.epoch_paths.proofs.Paths.{to_event}
use Rattle.even_speed.specs.declared.clock.Clock.{Clock}
use Rattle.even_speed.specs.declared.clock.Next.{Next}
use Rattle.even_speed.specs.declared.clock.Next.TheVariants.{Due, Waits, Gone}
use Rattle.limits.specs.declared.limit.Waits.TheVariants.{Commit}
use Rattle.limits.specs.Limits.{IsTiming, Timing}
use Rattle.limits.proofs.Stopping.{before_stop, lasts_some}
use Rattle.limits.proofs.Least.{climbs}

-- ---- the plan

-- this step isn't after the first in which so many cores can begin the epoch
abbrev pub BeginsBy : ℕ → Timing → ℕ → ℕ → Type 0
BeginsBy cores t epoch step = (epoch < cores → step ≡ 0) × ((before : ℕ) → epoch ≡ before + cores → step ≤ t.commit before + 1)

-- at an access
pub record IsAccessBy (now bound : ℕ) (next : Next) : Type 0 where
  pub due : ℕ
  pub is : next ≡ Due due
  pub soon : due ≤ bound
  pub by : now ≤ bound

-- at the end of the epoch: it waits only where it isn't the homefree one
abbrev pub IsEndBy : ℕ → ℕ → ℕ → ℕ → Next → Type 0
IsEndBy now homefree epoch bound (Due due) = (due ≤ bound) ⊎ (due ≤ now)
IsEndBy now homefree epoch bound (Waits since cause) = epoch ≢ homefree
IsEndBy now homefree epoch bound Gone = ⊥

-- a core that runs an epoch and is at this stop
abbrev pub IsBy : ℕ → ℕ → ℕ → ℕ → Stop → Next → Type 0
IsBy now homefree epoch bound (stop.Load address width signed rd) next = IsAccessBy now bound next
IsBy now homefree epoch bound (stop.Store address width value) next = IsAccessBy now bound next
IsBy now homefree epoch bound stop.Ended next = IsEndBy now homefree epoch bound next
IsBy now homefree epoch bound (stop.Fault cause pc) next = IsEndBy now homefree epoch bound next

-- a core that is idle, and due no later than it can begin this epoch, where there is one
pub record IsSlot (image : LoadedImage) (cores : ℕ) (t : Timing) (s : FlatState) (clocks : ℕ → Clock) (epoch k : ℕ) : Type 0 where
  pub there : k < cores
  pub idle : s.cores k ≡ None
  pub soon : epoch < image.epochs → (due : ℕ) × ((clocks k).next ≡ Due due) × BeginsBy cores t epoch due

-- an epoch that an idle core can begin now, or once those before it have begun
pub record MayBegin (cores : ℕ) (s : FlatState) (epoch : ℕ) : Type 0 where
  pub from : s.next_epoch ≤ epoch
  pub near : epoch < s.homefree + cores

pub record IsOnPlan (image : LoadedImage) (cores : ℕ) (t : Timing) (now : ℕ) (s : FlatState) (clocks : ℕ → Clock) : Type 0 where
  pub left : s.homefree < image.epochs
  pub window : s.next_epoch ≤ s.homefree + cores
  pub homefree : now ≤ t.commit s.homefree
  -- each epoch that has begun and not committed runs, and no later than planned, where it is one of those in order
  pub runs : (epoch : ℕ) → s.homefree ≤ epoch → epoch < s.next_epoch → (k : ℕ) × (c : CoreState) × (s.cores k ≡ Some c) × (c.epoch ≡ epoch)
  pub run : (k : ℕ) (c : CoreState) → s.cores k ≡ Some c → IsInOrder image c.epoch
      → IsBy now s.homefree c.epoch (t.at c.epoch (next_event image c.hart).now.done) (next_event image c.hart).at (clocks k).next
  -- for each that may begin there is an idle core, and each idle core is for one
  pub next : MayBegin cores s s.next_epoch → s.next_epoch < image.epochs → BeginsBy cores t s.next_epoch now
  pub slot : ℕ → ℕ
  pub slots : (epoch : ℕ) → MayBegin cores s epoch → IsSlot image cores t s clocks epoch (slot epoch)
  pub apart : (e f : ℕ) → MayBegin cores s e → MayBegin cores s f → slot e ≡ slot f → e ≡ f
  pub used : (k : ℕ) → k < cores → s.cores k ≡ None → (e : ℕ) × MayBegin cores s e × (slot e ≡ k)

-- ---- timings

module _ (image : LoadedImage) (cores epochs : ℕ) (t : Timing) (all : AreAll image epochs) (y : IsTiming image Commit cores epochs t) where
  -- commits come in order
  rises : (d n : ℕ) → d + n < epochs → t.commit d ≤ t.commit (d + n)
  rises d zero low = let same : d + 0 ≡ d = omega arith in let is = ap t.commit same in omega (arith, is)
  rises d (suc n) low =
      let before = rises d n (omega (arith, low)) in
      let more = y.in_order (d + n) (omega (arith, low)) in
      let same : d + suc n ≡ d + n + 1 = omega arith in let is = ap t.commit same in omega (arith, before, more, is)

  pub commits_rise : (d e : ℕ) → d ≤ e → e < epochs → t.commit d ≤ t.commit e
  commits_rise d e low below =
      let same : d + (e - d) ≡ e = omega (arith, low) in
      let rise = rises d (e - d) (omega (arith, low, below)) in let is = ap t.commit same in omega (arith, rise, is)

  -- the next event of a path is no later than its end
  event_within : (e : ℕ) (h : HartState) (own : ℕ → Option ℕ) → IsAt image e (memory_before image e) h own → (next_event image h).now.done ≤ (lasts_some image e).0
  event_within e h own at =
      let last = (lasts_some image e).1 in
      before_stop image (lasts_some image e).0 (next_event image h).now.done (start_of image e) last.hart (next_event image h).now (memory_before image e) last.after at.after
      last.runs last.stops (to_event image e (memory_before image e) h own at)

  pub places_rise : (e place : ℕ) (h : HartState) (own : ℕ → Option ℕ) → e < epochs → IsAt image e (memory_before image e) h own → place ≤ (next_event image h).now.done
      → t.at e place + ((next_event image h).now.done - place) ≤ t.at e (next_event image h).now.done
  places_rise e place h own below at from =
      let last = (lasts_some image e).1 in
      let within = event_within e h own at in
      let sum : place + ((next_event image h).now.done - place) ≡ (next_event image h).now.done = omega (arith, from) in
      let rise = climbs image Commit cores epochs t y e (lasts_some image e).0 place ((next_event image h).now.done - place) below last (omega (arith, from, within)) in
      let is = ap (t.at e) sum in omega (arith, rise, is)

  pub event_commits : (e : ℕ) (h : HartState) (own : ℕ → Option ℕ) → e < epochs → IsAt image e (memory_before image e) h own
      → t.at e (next_event image h).now.done ≤ t.commit e
  event_commits e h own below at =
      let last = (lasts_some image e).1 in
      let within = event_within e h own at in
      let n = (next_event image h).now.done in
      let sum : n + ((lasts_some image e).0 - n) ≡ (lasts_some image e).0 = omega (arith, within) in
      let rise = climbs image Commit cores epochs t y e (lasts_some image e).0 n ((lasts_some image e).0 - n) below last (omega (arith, within)) in
      let is = ap (t.at e) sum in
      let ends = y.ends e (lasts_some image e).0 below last in omega (arith, rise, is, ends)

  -- ---- beginnings

  pub begins_within : (e step : ℕ) → e < epochs → BeginsBy cores t e step → step ≤ t.begin e
  begins_within e step below by = elim (cases_lt e cores) [
    | inl early ↦ (let none = by.0 early in omega (arith, none))
    | inr late ↦
        (let sum : e - cores + cores ≡ e = omega (arith, late) in
        let soon = by.1 (e - cores) (sym sum) in
        let after = y.begins (e - cores) (omega (arith, sum, below)) in
        let is = ap t.begin sum in omega (arith, soon, after, is))
  ]

  pub begins_commits : (e step : ℕ) → e < epochs → BeginsBy cores t e step → step ≤ t.commit e
  begins_commits e step below by =
      let from = begins_within e step below by in
      let first = y.first e below in
      let last = (lasts_some image e).1 in
      let rise = climbs image Commit cores epochs t y e (lasts_some image e).0 0 (lasts_some image e).0 below last (omega arith) in
      let ends = y.ends e (lasts_some image e).0 below last in
      let same : 0 + (lasts_some image e).0 ≡ (lasts_some image e).0 = omega arith in
      let is = ap (t.at e) same in omega (arith, from, first, rise, ends, is)

  pub later_begins : (e f step : ℕ) → e ≤ f → f < epochs + cores → BeginsBy cores t e step → BeginsBy cores t f step
  later_begins e f step low near by = (
    λ early. by.0 (omega (arith, early, low)),
    λ before sum. elim (cases_lt e cores) [
      | inl early ↦ (let none = by.0 early in omega (arith, none))
      | inr late ↦
          (let sum' : e ≡ e - cores + cores = omega (arith, late) in
          let soon = by.1 (e - cores) sum' in
          let rise = commits_rise (e - cores) before (omega (arith, sum, low, late)) (omega (arith, sum, near)) in omega (arith, soon, rise))
    ],
  )

  -- no later than both
  pub both_begin : (e now due step : ℕ) → BeginsBy cores t e now → BeginsBy cores t e due → ((bound : ℕ) → now ≤ bound → due ≤ bound → step ≤ bound) → BeginsBy cores t e step
  both_begin e now due step first second most = (
    λ early. let a = first.0 early in let b = second.0 early in let c = most 0 (omega (arith, a)) (omega (arith, b)) in omega (arith, c),
    λ before sum. most (t.commit before + 1) (first.1 before sum) (second.1 before sum),
  )

-- What the register is after a batch of hurts: its counts are as they were, the caller runs on, and there is room for one
-- entry more.
use Rattle.std.proofs.Common.{◌≡◌, ◌<◌, ◌+◌, ℕ, Bool, false, List, length, vec_len, vec_capacity, ap, ◌∙◌, arith}
use Rattle.rv32_exec.specs.declared.stop.Stop.{Stop}
use Rattle.rv32_exec.specs.Arrival.{Arrival}
use Rattle.run_ledger.specs.declared.counts.Counts.{Counts}
use Rattle.run_ledger.specs.Counts.{no_counts}
use Rattle.spec_history.specs.declared.entry.Entry.{Entry}
use Rattle.spec_history.specs.declared.entry.What.TheVariants.{Hurt}
use Rattle.homefree.specs.declared.register.Register.{Register}
use Rattle.homefree.specs.declared.register.Running.{Running}
use Rattle.homefree.specs.Arms.{MayHurt}
use Rattle.homefree.specs.AtStop.{IsAtStop}
use Rattle.homefree.specs.Counted.{counted_in}
use Rattle.homefree.specs.Kept.{running_at}
use Rattle.homefree.specs.Noted.{epoch_in, hurts_noted}
use Rattle.homefree.specs.Steps.{Steps}
use Rattle.homefree.proofs.Fields.Steps.{four_same}
use Rattle.homefree.proofs.Fields.Batches.{batch_fewer}

-- a batch has fewer entries than there are cores
pub hurts_fewer : (r : Register) (core : ℕ) (hurt : ℕ → Bool) → hurt core ≡ false → core < length r.running.items
    → length (hurts_noted core hurt r.running.items (length r.running.items)) < length r.running.items
hurts_fewer r core hurt spared there =
    let less = batch_fewer core hurt (λ k. Hurt (epoch_in r.running.items k)) (length r.running.items) core spared there in omega (arith, less)

pub room_after : (old mid : Register) (core : ℕ) (now : Running) (hurt : ℕ → Bool) → MayHurt old core now hurt
    → Steps old mid no_counts no_counts (hurts_noted core hurt old.running.items (length old.running.items))
    → vec_len mid.history < vec_capacity mid.history
room_after old mid core now hurt may steps =
    let less = hurts_fewer old core hurt may.spared may.there in
    let room = may.room in
    let used = steps.used in
    let grown = steps.room in
    omega (arith, less, room, used, grown)

-- entries that leave all shares as they are count nothing
pub totals_same : (old mid : Register) (entries : List Entry) → Steps old mid no_counts no_counts entries → mid.totals ≡ old.totals
totals_same old mid entries steps =
    let is = steps.held in
    let loads : 0 ≡ 0 + (counted_in entries).loads = ap (λ (c : Counts). c.loads) is in
    let stores : 0 ≡ 0 + (counted_in entries).stores = ap (λ (c : Counts). c.stores) is in
    let restarts : 0 ≡ 0 + (counted_in entries).restarts = ap (λ (c : Counts). c.restarts) is in
    let commits : 0 ≡ 0 + (counted_in entries).commits = ap (λ (c : Counts). c.commits) is in
    steps.totals ∙ four_same _ old.totals.loads _ old.totals.stores _ old.totals.restarts _ old.totals.commits
    (omega (arith, loads)) (omega (arith, stores)) (omega (arith, restarts)) (omega (arith, commits))

pub at_stop_after : (old mid : Register) (core : ℕ) (now : Running) (arrived : Arrival) (at : Stop) → IsAtStop old core now arrived at → mid.image ≡ old.image
    → running_at mid.running.items core ≡ running_at old.running.items core → IsAtStop mid core now arrived at
at_stop_after old mid core now arrived at is_at image same = record {
  runs = same ∙ is_at.runs;
  unhurt = is_at.unhurt;
  base = is_at.base;
  hart = rw image is_at.hart;
  event = rw image is_at.event;
  is = is_at.is;
}

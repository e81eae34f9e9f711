-- When an entry is refused, and with what: the first of these tests that it fails.
use Rattle.std.specs.Prelude.{ℕ, zero, suc, ◌==◌, ◌&&◌, ◌||◌, not, Bool, true, false, Option, Some, None, is_some, nat_lt, if◌then◌else◌}
use Rattle.rv32_exec.specs.declared.stop.Stop.{Stop}
use Rattle.rv32_exec.specs.declared.stop.Stop.TheVariants as stop
use Rattle.memory_bytes.specs.Bytes.{number_at}
use Rattle.memory_bytes.specs.Maps.{over}
use Rattle.rv32_image.specs.Image.{LoadedImage}
use Rattle.rv32_exec.specs.NextEvent.{Event, next_event}
use Rattle.rv32_exec.specs.Sequential.{exits}
use Rattle.spec_history.specs.declared.entry.Entry.{Entry}
use Rattle.spec_history.specs.declared.entry.What.{What}
use Rattle.spec_history.specs.declared.entry.What.TheVariants.{Start, Load, Store, Hurt, Cancel, Restart, Publish, Commit, Fault}
use Rattle.spec_history.specs.declared.illegal.Illegal.{Illegal}
use Rattle.spec_history.specs.declared.illegal.Illegal.TheVariants.{Over, NotThere, NotNext, NotHomefree, WrongValue, HurtMissing, NotCancelled}
use Rattle.spec_history.specs.FlatState.{CoreState, FlatState}
use Rattle.spec_history.specs.Effect.{by_core, effect}

-- some number below n passes the test
unfoldable pub any_below : ℕ → (ℕ → Bool) → Bool
any_below zero test = false
any_below (suc n) test = test n || any_below n test

-- the core runs an epoch that passes the test
abbrev pub has : Option CoreState → (CoreState → Bool) → Bool
has core test = by_core core false test

-- the core runs an epoch, is not hurt, and passes the test
abbrev pub runs_and : Option CoreState → (CoreState → Bool) → Bool
runs_and core test = has core (λ c. not c.hurt && test c)

abbrev pub runs : Option CoreState → Bool
runs core = runs_and core (λ _. true)

-- the core runs this epoch, and can be hurt
abbrev pub can_be_hurt : ℕ → Option CoreState → Bool
can_be_hurt epoch core = runs_and core (λ c. (c.epoch == epoch) && not c.straight)

-- the core runs this epoch
abbrev pub is_at : ℕ → Option CoreState → Bool
is_at epoch core = has core (λ c. c.epoch == epoch)

-- NotThere: the core, and that of the epoch that is hurt or cancelled, is as the entry needs it
abbrev pub is_there : ℕ → FlatState → ℕ → What → Bool
is_there count s by (Start epoch) = nat_lt by count && not (is_some (s.cores by))
is_there count s by (Hurt epoch) = runs_and (s.cores by) (λ c. nat_lt c.epoch epoch) && any_below count (λ k. can_be_hurt epoch (s.cores k))
is_there count s by (Cancel epoch) = runs_and (s.cores by) (λ c. nat_lt c.epoch epoch) && any_below count (λ k. is_at epoch (s.cores k))
is_there count s by Restart = has (s.cores by) (λ c. c.hurt)
is_there count s by Publish = runs_and (s.cores by) (λ c. not c.straight)
-- a load, a store, a commit and a fault
is_there count s by what = runs (s.cores by)

abbrev pub is_that_load : ℕ → ℕ → Stop → Bool
is_that_load address width (stop.Load a w signed rd) = (a == address) && (w == width)
is_that_load address width at = false

abbrev pub is_that_store : ℕ → ℕ → ℕ → Stop → Bool
is_that_store address width value (stop.Store a w v) = (a == address) && ((w == width) && (v == value))
is_that_store address width value at = false

abbrev pub is_the_end : Stop → Bool
is_the_end stop.Ended = true
is_the_end at = false

abbrev pub is_that_fault : ℕ → ℕ → Stop → Bool
is_that_fault cause pc (stop.Fault c p) = (c == cause) && (p == pc)
is_that_fault cause pc at = false

-- the epoch ends, and the loop with it
abbrev pub is_an_exit : LoadedImage → Event → Bool
is_an_exit image event = is_the_end event.at && exits image event.now

-- the next event of the core's epoch passes the test
abbrev pub next_is : LoadedImage → Option CoreState → (Event → Bool) → Bool
next_is image core test = has core (λ c. test (next_event image c.hart))

-- NotNext: it is the next epoch, or the next event of the core's epoch; a cancel goes before an exit
abbrev pub is_next : LoadedImage → FlatState → ℕ → What → Bool
is_next image s by (Start epoch) = (epoch == s.next_epoch) && nat_lt epoch image.epochs
is_next image s by (Load address width value) = next_is image (s.cores by) (λ event. is_that_load address width event.at)
is_next image s by (Store address width value) = next_is image (s.cores by) (λ event. is_that_store address width value event.at)
is_next image s by (Cancel epoch) = next_is image (s.cores by) (is_an_exit image)
is_next image s by Commit = next_is image (s.cores by) (λ event. is_the_end event.at)
is_next image s by (Fault cause pc) = next_is image (s.cores by) (λ event. is_that_fault cause pc event.at)
is_next image s by what = true

-- NotHomefree: what only the homefree epoch may do is done by it
abbrev pub is_homefree : FlatState → ℕ → What → Bool
is_homefree s by (Cancel epoch) = is_at s.homefree (s.cores by)
is_homefree s by Publish = is_at s.homefree (s.cores by)
is_homefree s by Commit = is_at s.homefree (s.cores by)
is_homefree s by (Fault cause pc) = is_at s.homefree (s.cores by)
is_homefree s by what = true

-- WrongValue: a load gives the core's own bytes, and else the committed ones
abbrev pub is_value : FlatState → ℕ → What → Bool
is_value s by (Load address width value) = has (s.cores by) (λ c. number_at (over c.own s.committed) address width == value)
is_value s by what = true

-- HurtMissing: a committed byte changes that another core, which runs and is not hurt, has read from outside
abbrev pub has_read : Option CoreState → ℕ → Bool
has_read core a = runs_and core (λ c. is_some (c.outside a))

abbrev pub other_has_read : ℕ → FlatState → ℕ → ℕ → Bool
other_has_read count s by a = any_below count (λ k. not (k == by) && has_read (s.cores k) a)

-- some byte of memory of this size would change so
abbrev pub changes_unseen : ℕ → ℕ → FlatState → ℕ → (ℕ → ℕ) → Bool
changes_unseen size count s by committed = any_below size (λ a. not (committed a == s.committed a) && other_has_read count s by a)

abbrev pub misses_a_hurt : LoadedImage → ℕ → FlatState → Entry → Bool
misses_a_hurt image count s entry = changes_unseen image.size count s entry.by (effect image s entry).committed

-- NotCancelled: an epoch commits that exits, and another core runs
abbrev pub other_runs : ℕ → FlatState → ℕ → Bool
other_runs count s by = any_below count (λ k. not (k == by) && is_some (s.cores k))

abbrev pub misses_a_cancel : LoadedImage → ℕ → FlatState → ℕ → What → Bool
misses_a_cancel image count s by Commit = next_is image (s.cores by) (is_an_exit image) && other_runs count s by
misses_a_cancel image count s by what = false

-- the refusal of an entry on a machine of this many cores, or none
unfoldable pub refusal_of : LoadedImage → ℕ → FlatState → Entry → Option Illegal
refusal_of image count s entry =
    if is_some s.end then Some Over
    else if not (is_there count s entry.by entry.what) then Some NotThere
    else if not (is_next image s entry.by entry.what) then Some NotNext
    else if not (is_homefree s entry.by entry.what) then Some NotHomefree
    else if not (is_value s entry.by entry.what) then Some WrongValue
    else if misses_a_hurt image count s entry then Some HurtMissing
    else if misses_a_cancel image count s entry.by entry.what then Some NotCancelled
    else None

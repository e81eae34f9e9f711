-- Attempts: how they begin and end.
use Rattle.std.specs.Prelude.{ℕ, ◌==◌, false, if◌then◌else◌, Some, None}
use Rattle.violations.specs.View.{attempt_of}
use Rattle.bus_states.specs.Bus.{CoreState, Bus}
use Rattle.bus_states.specs.Messages.{dropped_core}

-- the bus, with this core so
abbrev pub with_core : ℕ → CoreState → Bus → Bus
with_core core state bus = record bus { core = λ k. if k == core then state else bus.core k }

-- an attempt of the epoch begins
abbrev pub after_begin : Bus → ℕ → ℕ → Bus
after_begin bus core epoch =
    with_core core (record (bus.core core) { attempt = Some (attempt_of epoch false) }) bus

-- a straight attempt ends
abbrev pub after_leave : Bus → ℕ → Bus
after_leave bus core = with_core core (record (bus.core core) { attempt = None }) bus

-- an attempt is given up: its lines are rolled back as by a violation
abbrev pub after_cancel : Bus → ℕ → Bus
after_cancel bus core = with_core core (dropped_core (bus.core core)) bus

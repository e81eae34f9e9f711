use Rattle.std.proofs.Common.{◌≡◌, ◌+◌, ◌&&◌, is_none, false}
use Rattle.memory_bytes.specs.Shadow.{byte_in}
use Rattle.spec_history.specs.Refusal.{any_below}
use Rattle.even_speed.specs.Held.{is_stored}
use Rattle.even_speed.specs.Holds.{holding_of}
use Rattle.even_speed.proofs.holds.Holds.reads_stored.Given as goal

-- of the bytes so far none is such a one
abbrev pub invariant-loop-i : goal.invariant-loop-i
invariant-loop-i l =
    any_below l.i (λ i. is_none (byte_in l.own.cells (l.addr + i)) && is_stored (holding_of l.self) l.homefree l.epoch ((holding_of l.self).piece (l.addr + i))) ≡ false

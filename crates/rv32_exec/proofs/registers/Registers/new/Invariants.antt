use Rattle.std.proofs.Common.{◌≡◌, length, slice_index, take}
use Rattle.rv32_exec.proofs.registers.Registers.new.Given as goal

-- the registers so far are set, and the last place is not
abbrev pub invariant-loop-number : goal.invariant-loop-number
invariant-loop-number l = record {
  long : length l.places ≡ 33;
  set : take l.number l.places ≡ take l.number l.x;
  unread : slice_index l.places 32 ≡ 0;
}

use Rattle.std.proofs.Common.{◌≡◌, ◌<◌, ◌^◌, drop, length}
use Rattle.trace_text.proofs.HexFold.{hex_after}
use Rattle.trace_text.proofs.entry.digits.Given as goal

-- the number so far, with the digits that are left, is the whole number
abbrev pub invariant-loop-digit : goal.invariant-loop-digit
invariant-loop-digit l = record {
  value : hex_after l.n (drop l.digit-index l.word) ≡ hex_after 0 l.word;
  below : l.n < 16 ^ l.digit-index;
  long : length l.word ≡ 8;
}

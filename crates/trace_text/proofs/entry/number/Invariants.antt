use Rattle.std.proofs.Common.{◌≡◌, ◌<◌, ◌≤◌, ◌^◌, drop, length}
use Rattle.std.specs.List.{list_all}
use Rattle.std.specs.Char.{is_ascii_digit}
use Rattle.std.specs.Str.Parse.{digits_value, digits_value_after}
use Rattle.trace_text.proofs.entry.number.Given as goal

-- the number so far, with the digits that are left, is the whole number
abbrev pub invariant-loop-digit : goal.invariant-loop-digit
invariant-loop-digit l = record {
  value : digits_value_after 10 l.number (drop l.digit-index l.word) ≡ digits_value 10 l.word;
  digits : list_all is_ascii_digit (drop l.digit-index l.word) ≡ list_all is_ascii_digit l.word;
  below : l.number < 10 ^ l.digit-index;
  short : length l.word ≤ 10;
}

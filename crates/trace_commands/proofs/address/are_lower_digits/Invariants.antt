use Rattle.std.proofs.Common.{◌≡◌, drop}
use Rattle.std.specs.List.{list_all}
use Rattle.trace_commands.specs.Addresses.{is_lower_digit}
use Rattle.trace_commands.proofs.address.are_lower_digits.Given as goal

-- all are, if the others are
abbrev pub invariant-loop-b : goal.invariant-loop-b
invariant-loop-b l = list_all is_lower_digit l.word ≡ list_all is_lower_digit (drop l.b-index l.word)

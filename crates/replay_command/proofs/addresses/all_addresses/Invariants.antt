use Rattle.std.proofs.Common.{◌≡◌, map, drop}
use Rattle.std.specs.List.{list_all}
use Rattle.replay_command.specs.Addresses.{is_address}
use Rattle.replay_command.proofs.addresses.all_addresses.Given as goal

-- all are, if the others are
abbrev pub invariant-loop-word : goal.invariant-loop-word
invariant-loop-word g l = list_all is_address (map g.S.AsStr.text l.words) ≡ list_all is_address (map g.S.AsStr.text (drop l.word-index l.words))

use Rattle.std.proofs.Common.{◌≡◌, map, take}
use Rattle.replay_command.specs.Addresses.{addresses_of}
use Rattle.replay_command.proofs.addresses.addresses_of.Given as goal

-- those of the words so far
abbrev pub invariant-loop-word : goal.invariant-loop-word
invariant-loop-word g l = l.addresses.items ≡ addresses_of (map g.S.AsStr.text (take l.word-index l.words))

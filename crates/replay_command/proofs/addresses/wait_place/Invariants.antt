use Rattle.std.proofs.Common.{◌≡◌, ◌+◌, map, drop}
use Rattle.replay_command.specs.Addresses.{wait_place}
use Rattle.replay_command.proofs.addresses.wait_place.Given as goal

-- none so far is the word
abbrev pub invariant-loop-word : goal.invariant-loop-word
invariant-loop-word g l = record {
  place : l.place ≡ l.word-index;
  before : wait_place (map g.S.AsStr.text l.words) ≡ l.place + wait_place (map g.S.AsStr.text (drop l.word-index l.words));
}

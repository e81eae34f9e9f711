use Rattle.std.proofs.Common.{◌≡◌, ◌+◌, map, drop}
use Rattle.replay_command.specs.CostWords.{costs_place}
use Rattle.replay_command.proofs.costs.costs_place.Given as goal

-- none so far is such a word
abbrev pub invariant-loop-word : goal.invariant-loop-word
invariant-loop-word g l = record {
  place : l.place ≡ l.word-index;
  before : costs_place (map g.S.AsStr.text l.words) ≡ l.place + costs_place (map g.S.AsStr.text (drop l.word-index l.words));
}

use Rattle.std.proofs.Common.{◌≡◌, ◌+◌, map, drop}
use Rattle.trace_commands.specs.Apart.{apart_place}
use Rattle.trace_commands.proofs.apart.apart_place.Given as goal

-- none so far is the word
abbrev pub invariant-loop-word : goal.invariant-loop-word
invariant-loop-word g l = record {
  place : l.place ≡ l.word-index;
  before : apart_place (map g.S.AsStr.text l.words) ≡ l.place + apart_place (map g.S.AsStr.text (drop l.word-index l.words));
}

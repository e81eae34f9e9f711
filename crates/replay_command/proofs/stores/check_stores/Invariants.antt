use Rattle.std.proofs.Common.{◌≡◌, true, map, drop}
use Rattle.std.specs.List.{list_all}
use Rattle.trace_commands.specs.Stores.{names_store}
use Rattle.replay_command.specs.Stores.{HasRefused, RunsOnAll}
use Rattle.replay_command.proofs.stores.check_stores.Given as goal

-- what is so of the stores that are left, is so of all
abbrev pub invariant-loop-word : goal.invariant-loop-word
invariant-loop-word g l = record {
  stores : list_all names_store (map g.S.AsStr.text (drop l.word-index l.words)) ≡ true;
  run : RunsOnAll l.image l.cores (map g.S.AsStr.text (drop l.word-index l.words)) → RunsOnAll l.image l.cores (map g.S.AsStr.text l.words);
  refused : HasRefused l.image l.cores (map g.S.AsStr.text (drop l.word-index l.words)) → HasRefused l.image l.cores (map g.S.AsStr.text l.words);
}

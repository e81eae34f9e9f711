use Rattle.std.proofs.Common.{ℕ, List, map, drop}
use Rattle.replay_command.specs.Stores.{RunsOnAll}
use Rattle.gain.specs.Gains.{AddStores}
use Rattle.gain.proofs.stores.push_stores.Given as goal

-- what the stores that are left add to the text, all add to the text before
abbrev pub invariant-loop-word : goal.invariant-loop-word
invariant-loop-word g l = record {
  stores : RunsOnAll l.image l.study.cores (map g.S.AsStr.text (drop l.word-index l.words));
  adds : (new : List ℕ) → AddStores l.study l.addresses l.image (map g.S.AsStr.text (drop l.word-index l.words)) l.text.items new
      → AddStores l.study l.addresses l.image (map g.S.AsStr.text l.words) l.initial.text.items new;
}

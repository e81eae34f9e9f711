use Rattle.std.proofs.Common.{◌≡◌, map, drop}
use Rattle.std.specs.List.{list_all}
use Rattle.trace_commands.specs.Stores.{names_store}
use Rattle.trace_commands.proofs.stores.are_stores.Given as goal

-- all do, if the others do
abbrev pub invariant-loop-word : goal.invariant-loop-word
invariant-loop-word g l =
    list_all names_store (map g.S.AsStr.text l.words) ≡ list_all names_store (map g.S.AsStr.text (drop l.word-index l.words))

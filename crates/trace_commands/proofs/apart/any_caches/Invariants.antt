use Rattle.std.proofs.Common.{◌≡◌, map, drop}
use Rattle.std.specs.List.{list_any}
use Rattle.trace_commands.specs.Apart.{names_caches}
use Rattle.trace_commands.proofs.apart.any_caches.Given as goal

-- one does, if one of the others does
abbrev pub invariant-loop-word : goal.invariant-loop-word
invariant-loop-word g l =
    list_any names_caches (map g.S.AsStr.text l.words) ≡ list_any names_caches (map g.S.AsStr.text (drop l.word-index l.words))

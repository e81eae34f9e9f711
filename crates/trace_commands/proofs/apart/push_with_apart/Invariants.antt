use Rattle.std.proofs.Common.{◌≡◌, ◌++◌, map, take}
use Rattle.std.specs.String.{string_bytes}
use Rattle.trace_commands.specs.Apart.{with_apart}
use Rattle.trace_commands.proofs.apart.push_with_apart.Given as goal

-- those so far
abbrev pub invariant-loop-word : goal.invariant-loop-word
invariant-loop-word g l =
    map string_bytes l.told.items ≡ map string_bytes l.fn.told.items ++ map (with_apart l.apart) (map g.S.AsStr.text (take l.word-index l.words))

use Rattle.std.proofs.Common.{List, ℕ, drop}
use Rattle.gain.specs.Evens.{AddEvenEach}
use Rattle.gain.proofs.even_lines.push_each.Given as goal

-- what the rest adds to it, all add to the text before
abbrev pub invariant-loop-cores : goal.invariant-loop-cores
invariant-loop-cores g l = (new : List ℕ)
    → AddEvenEach g.S.EpochStore.starts g.S.EpochStore.makes g.S.EpochStore.view g.S.EpochStore.waits g.S.PricedStore.prices g.S.PricedStore.keeps l.asked.addresses.now l.asked.study.now l.asked.image.now l.store
    (drop l.cores-index l.counts) l.text.items new
    → AddEvenEach g.S.EpochStore.starts g.S.EpochStore.makes g.S.EpochStore.view g.S.EpochStore.waits g.S.PricedStore.prices g.S.PricedStore.keeps l.asked.addresses.now l.asked.study.now l.asked.image.now l.store
    l.counts l.initial.text.items new

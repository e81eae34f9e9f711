use Rattle.std.proofs.Common.{List, ℕ, drop}
use Rattle.gain.specs.Lines.{AddEach}
use Rattle.gain.proofs.lines.push_each.Given as goal

-- what the rest adds to it, all add to the text before
abbrev pub invariant-loop-cores : goal.invariant-loop-cores
invariant-loop-cores g l = (new : List ℕ) → AddEach g.S.EpochStore.starts g.S.EpochStore.makes g.S.EpochStore.view g.S.EpochStore.waits g.S.PricedStore.prices g.S.PricedStore.keeps l.waiting l.runs.image.now l.runs.room l.runs.store.now l.runs.base (drop l.cores-index l.counts) l.text.items new
    → AddEach g.S.EpochStore.starts g.S.EpochStore.makes g.S.EpochStore.view g.S.EpochStore.waits g.S.PricedStore.prices g.S.PricedStore.keeps l.waiting l.runs.image.now l.runs.room l.runs.store.now l.runs.base l.counts l.initial.text.items new

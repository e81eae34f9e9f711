use Rattle.homefree.specs.BookView.{IsOfSameLoop}
use Rattle.homefree.specs.Counted.{IsNoMore}
use Rattle.homefree.specs.Held.{HaveArrived}
use Rattle.depends.specs.Ahead.{IsPlan}
use Rattle.depends.proofs.ahead.take_turns.Given as goal

-- whoever's turn comes is a core
abbrev pub invariant-loop-taken : goal.invariant-loop-taken
invariant-loop-taken g l = record {
  same : IsOfSameLoop l.initial.book l.book;
  shares : IsNoMore l.shares l.book.totals;
  held : HaveArrived l.book.image l.held;
  plan : IsPlan l.book.cores l.plan;
}

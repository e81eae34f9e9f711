use Rattle.std.proofs.Common.{◌≡◌, IfSome, sym, subst, ◌∙◌, inl, inr, arith}
use Rattle.std.proofs.lemmas.Bool.{cases_eq}
use Rattle.rv32_image.proofs.SmallFacts.{none_and_some}
use Rattle.homefree.specs.BookView.{IsFull}
use Rattle.homefree.specs.LockView.{loop_of}
use Rattle.never_or_shown.specs.Shown.{ComesTo, IsConflictAt}
use Rattle.never_or_shown.proofs.shown.show_conflict.Goals.{in-HistoryFull, in-Unviolated}
use Rattle.never_or_shown.proofs.shown.show_conflict.Goals as goal

pub loop-later-preserved : goal.loop-later-preserved
loop-later-preserved c = elim c.match-branch-2.branch [
  | in-HistoryFull w ↦ record {
    full = subst (λ o. IfSome o (λ book. (loop_of book ≡ record { image = c.args.image.now; cores = c.args.cores; room = c.args.room }) × IsFull book)) (sym w.full-is)
        (subst (λ a. ComesTo (record { image = c.args.image.now; cores = c.args.cores; room = c.args.room }) (IsConflictAt c.args.image.now c.args.cores c.loop-later.later) a) w.in-HistoryFull.is c.in_ok-book.ensures);
    none = λ none later from below conflict. none_and_some c.match-branch-2.full w.in-HistoryFull.book none w.full-is;
  }
  | in-Unviolated w ↦ record {
    full = subst (λ o. IfSome o (λ book. (loop_of book ≡ record { image = c.args.image.now; cores = c.args.cores; room = c.args.room }) × IsFull book)) (sym w.full-is) c.loop-later.invariant.full;
    none = λ none later from below conflict. elim (cases_eq later c.loop-later.later) [
      | inl e ↦
          subst (λ a. ComesTo (record { image = c.args.image.now; cores = c.args.cores; room = c.args.room }) (IsConflictAt c.args.image.now c.args.cores c.loop-later.later) a) w.in-Unviolated.is
          c.in_ok-book.ensures (subst (λ n. IsConflictAt c.args.image.now c.args.cores n) e conflict)
      | inr other ↦ c.loop-later.invariant.none (sym w.full-is ∙ none) later from (omega (arith, below, other)) conflict
    ];
  }
]

pub returns-in-None : goal.returns-in-None
returns-in-None c = λ conflict.
    let one = c.laters-from.ensures conflict in
    let last = one.last in
    c.loop-later.invariant.none c.in-None.is one.later one.first (omega (arith, last, c.loop-later-test.false)) one.at

use Rattle.std.proofs.Common.{◌/◌, arith}
use Rattle.violations.specs.PlainInside.{view_of}
use Rattle.violations.proofs.Opening.{same_view, same_settled, same_fit}
use Rattle.violations.proofs.plain.PlainStore.grow.Goals as goal

pub invariant_of-self : goal.invariant_of-self
invariant_of-self c =
    let p = view_of c.self.inside in
    let states = c.reserve.new.states.items in
    let same = c.reserve.ensures.same in record {
      size = c.self.invariant.size;
      fit = same_fit p states 0 same (rw c.self.invariant.size at c.reserve.ensures.within) (λ some. absurd (omega (arith, some))) c.self.invariant.fit;
      settled = same_settled p states 0 same c.self.invariant.settled;
    }

pub returns-in_err-reserve-clause-view : goal.returns-in_err-reserve-clause-view
returns-in_err-reserve-clause-view c = let p = view_of c.self.inside in rw (← c.self.view_is) (same_view p c.reserve.new.states.items 0 c.reserve.ensures.same)

pub invariant_of-self-2 : goal.invariant_of-self-2
invariant_of-self-2 c =
    let p = view_of c.self.inside in
    let states = c.reserve.new.states.items in
    let accesses = c.min-accesses.result / 4 in
    let same = c.reserve.ensures.same in record {
      size = c.self.invariant.size;
      fit = same_fit p states accesses same (rw c.self.invariant.size at c.reserve.ensures.within) (λ some. rw c.self.invariant.size at c.in_ok-reserve.ensures.room) c.self.invariant.fit;
      settled = same_settled p states accesses same c.self.invariant.settled;
    }

pub returns-clause-view : goal.returns-clause-view
returns-clause-view c =
    let p = view_of c.self.inside in
    rw (← c.self.view_is) (same_view p c.reserve.new.states.items (c.min-accesses.result / 4) c.reserve.ensures.same)

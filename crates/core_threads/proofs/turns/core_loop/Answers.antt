use Rattle.std.proofs.Common.{ℕ, suc, ◌<◌, Some, option_copied, ◌∙◌, subst, ap, sym}
use Rattle.core_threads.specs.declared.turns.After.{After}
use Rattle.core_threads.specs.declared.turns.After.TheVariants.{Ends}
use Rattle.core_threads.specs.declared.turns.LoopEnd.TheVariants as loop
use Rattle.core_threads.specs.Answered.{hand_after}
use Rattle.core_threads.specs.Passes.{Knows}
use Rattle.core_threads.proofs.Passing.{later_trans}
use Rattle.core_threads.proofs.Turning.{arrived_at}
use Rattle.core_threads.proofs.Taking.{arrival_is, ends_by, isnt_goes, isnt_leaves, isnt_waits, its_turn, one_more, turn_count}
use Rattle.core_threads.proofs.turns.core_loop.Goals as goal

pub returns-in-Ends-clause-later : goal.returns-in-Ends-clause-later
returns-in-Ends-clause-later g c = later_trans c.args.pass c.loop.pass c.one_turn-later.result.0 c.loop.invariant.0 c.one_turn-later.ensures.later

pub returns-in-Ends-clause-counted : goal.returns-in-Ends-clause-counted
returns-in-Ends-clause-counted g c = c.one_turn-later.ensures.counted

pub one_turn-later-requires-clause-own : goal.one_turn-later-requires-clause-own
one_turn-later-requires-clause-own g c κs within = c.loop.invariant.0.lock ∙ c.requires.own

pub one_turn-later-requires-clause-core : goal.one_turn-later-requires-clause-core
one_turn-later-requires-clause-core g c κs within = (subst (λ (n : ℕ). n < c.args.lock.now.fixed.cores) (sym c.loop.invariant.0.lo) c.requires.core.0, c.requires.core.1)

pub one_turn-later-requires-clause-counted : goal.one_turn-later-requires-clause-counted
one_turn-later-requires-clause-counted g c κs within = c.loop.invariant.1

pub loop-preserved-in-Waits : goal.loop-preserved-in-Waits
loop-preserved-in-Waits g c = (
  later_trans c.args.pass c.loop.pass c.one_turn-later.result.0 c.loop.invariant.0 c.one_turn-later.ensures.later,
  c.one_turn-later.ensures.counted,
  c.loop.invariant.2,
  λ n q shares end rest. c.loop.invariant.3 (suc n) q shares end
      (one_more g.S.EpochStore.makes g.S.EpochStore.view g.S.EpochStore.waits c.args.lock.now.fixed c.args.pass.lo c.loop.pass c.one_turn-later.result.0 q c.loop.shares c.one_turn-later.new.shares shares c.loop.next
      c.loop.hart c.one_turn-later.new.hart c.one_turn-later.result.1 end
      (its_turn g.S.EpochStore.makes g.S.EpochStore.view g.S.EpochStore.waits c.args.lock.now.fixed c.loop.pass.lo c.args.pass.lo c.loop.pass c.one_turn-later.result.0 c.loop.shares c.one_turn-later.new.shares
      (option_copied c.as_ref-handed.result) c.loop.next c.loop.hart c.one_turn-later.new.hart c.one_turn-later.result.1 c.loop.invariant.0.lo c.as_ref-handed.ensures.value
      (c.one_turn-later.ensures.turn (isnt_waits c.one_turn-later.result.1 loop.Spent c.in-Waits.is)))
      n _ (λ e. isnt_waits c.one_turn-later.result.1 e c.in-Waits.is) (ap (λ (a : After). hand_after c.args.lock.now.fixed.image a c.one_turn-later.new.hart c.loop.next) (sym c.in-Waits.is)) rest),
)

pub loop-preserved : goal.loop-preserved
loop-preserved g c = (
  later_trans c.args.pass c.loop.pass c.one_turn-later.result.0 c.loop.invariant.0 c.one_turn-later.ensures.later,
  c.one_turn-later.ensures.counted,
  tt,
  λ n q shares end rest. c.loop.invariant.3 (suc n) q shares end
      (one_more g.S.EpochStore.makes g.S.EpochStore.view g.S.EpochStore.waits c.args.lock.now.fixed c.args.pass.lo c.loop.pass c.one_turn-later.result.0 q c.loop.shares c.one_turn-later.new.shares shares c.loop.next
      c.loop.hart c.one_turn-later.new.hart c.one_turn-later.result.1 end
      (its_turn g.S.EpochStore.makes g.S.EpochStore.view g.S.EpochStore.waits c.args.lock.now.fixed c.loop.pass.lo c.args.pass.lo c.loop.pass c.one_turn-later.result.0 c.loop.shares c.one_turn-later.new.shares
      (option_copied c.as_ref-handed.result) c.loop.next c.loop.hart c.one_turn-later.new.hart c.one_turn-later.result.1 c.loop.invariant.0.lo c.as_ref-handed.ensures.value
      (c.one_turn-later.ensures.turn (isnt_leaves c.one_turn-later.result.1 loop.Spent c.in-Leaves.is)))
      n _ (λ e. isnt_leaves c.one_turn-later.result.1 e c.in-Leaves.is) (ap (λ (a : After). hand_after c.args.lock.now.fixed.image a c.one_turn-later.new.hart c.loop.next) (sym c.in-Leaves.is)) rest),
)

pub loop-preserved-in-Some-next : goal.loop-preserved-in-Some-next
loop-preserved-in-Some-next g c = (
  later_trans c.args.pass c.loop.pass c.one_turn-later.result.0 c.loop.invariant.0 c.one_turn-later.ensures.later,
  c.one_turn-later.ensures.counted,
  arrived_at c.args.lock.now.fixed.image c.args.image.now c.one_turn-later.new.hart c.advance_from.new.self c.requires.image c.advance_from.ensures.base c.advance_from.ensures.now c.advance_from.ensures.at,
  λ n q shares end rest. c.loop.invariant.3 (suc n) q shares end
      (one_more g.S.EpochStore.makes g.S.EpochStore.view g.S.EpochStore.waits c.args.lock.now.fixed c.args.pass.lo c.loop.pass c.one_turn-later.result.0 q c.loop.shares c.one_turn-later.new.shares shares c.loop.next
      c.loop.hart c.one_turn-later.new.hart c.one_turn-later.result.1 end
      (its_turn g.S.EpochStore.makes g.S.EpochStore.view g.S.EpochStore.waits c.args.lock.now.fixed c.loop.pass.lo c.args.pass.lo c.loop.pass c.one_turn-later.result.0 c.loop.shares c.one_turn-later.new.shares
      (option_copied c.as_ref-handed.result) c.loop.next c.loop.hart c.one_turn-later.new.hart c.one_turn-later.result.1 c.loop.invariant.0.lo c.as_ref-handed.ensures.value
      (c.one_turn-later.ensures.turn (isnt_goes c.one_turn-later.result.1 loop.Spent c.in-Goes.is)))
      n _ (λ e. isnt_goes c.one_turn-later.result.1 e c.in-Goes.is) (ap Some (arrival_is c.args.lock.now.fixed.image c.args.image.now c.one_turn-later.new.hart c.advance_from.new.self c.requires.image c.advance_from.ensures.base c.advance_from.ensures.now c.advance_from.ensures.at)
      ∙ ap (λ (a : After). hand_after c.args.lock.now.fixed.image a c.one_turn-later.new.hart c.loop.next) (sym c.in-Goes.is)) rest),
)

pub loop-preserved-in-None-next : goal.loop-preserved-in-None-next
loop-preserved-in-None-next g c = (
  later_trans c.args.pass c.loop.pass c.one_turn-later.result.0 c.loop.invariant.0 c.one_turn-later.ensures.later,
  c.one_turn-later.ensures.counted,
  arrived_at c.args.lock.now.fixed.image c.args.image.now c.one_turn-later.new.hart c.advance.result c.requires.image c.advance.ensures.base c.advance.ensures.now c.advance.ensures.at,
  λ n q shares end rest. c.loop.invariant.3 (suc n) q shares end
      (one_more g.S.EpochStore.makes g.S.EpochStore.view g.S.EpochStore.waits c.args.lock.now.fixed c.args.pass.lo c.loop.pass c.one_turn-later.result.0 q c.loop.shares c.one_turn-later.new.shares shares c.loop.next
      c.loop.hart c.one_turn-later.new.hart c.one_turn-later.result.1 end
      (its_turn g.S.EpochStore.makes g.S.EpochStore.view g.S.EpochStore.waits c.args.lock.now.fixed c.loop.pass.lo c.args.pass.lo c.loop.pass c.one_turn-later.result.0 c.loop.shares c.one_turn-later.new.shares
      (option_copied c.as_ref-handed.result) c.loop.next c.loop.hart c.one_turn-later.new.hart c.one_turn-later.result.1 c.loop.invariant.0.lo c.as_ref-handed.ensures.value
      (c.one_turn-later.ensures.turn (isnt_goes c.one_turn-later.result.1 loop.Spent c.in-Goes.is)))
      n _ (λ e. isnt_goes c.one_turn-later.result.1 e c.in-Goes.is) (ap Some (arrival_is c.args.lock.now.fixed.image c.args.image.now c.one_turn-later.new.hart c.advance.result c.requires.image c.advance.ensures.base c.advance.ensures.now c.advance.ensures.at)
      ∙ ap (λ (a : After). hand_after c.args.lock.now.fixed.image a c.one_turn-later.new.hart c.loop.next) (sym c.in-Goes.is)) rest),
)

pub returns-in-Ends-clause-over : goal.returns-in-Ends-clause-over
returns-in-Ends-clause-over g c = λ is. c.one_turn-later.ensures.over (c.in-Ends.is ∙ ap Ends is)

pub returns-in-Ends-clause-stopped : goal.returns-in-Ends-clause-stopped
returns-in-Ends-clause-stopped g c = λ is. c.one_turn-later.ensures.stopped (c.in-Ends.is ∙ ap Ends is)

pub returns-in-Ends-clause-spent : goal.returns-in-Ends-clause-spent
returns-in-Ends-clause-spent g c = λ is. ap (λ (k : Knows). k.out) (c.one_turn-later.ensures.none (c.in-Ends.is ∙ ap Ends is)).0

pub returns-in-Ends-clause-turns : goal.returns-in-Ends-clause-turns
returns-in-Ends-clause-turns g c =
    c.loop.invariant.3 (turn_count c.in-Ends.end) c.one_turn-later.result.0 c.one_turn-later.new.shares c.in-Ends.end
    (ends_by g.S.EpochStore.makes g.S.EpochStore.view g.S.EpochStore.waits c.args.lock.now.fixed c.args.pass.lo c.loop.pass c.one_turn-later.result.0 c.loop.shares c.one_turn-later.new.shares c.loop.next
    c.loop.hart c.one_turn-later.new.hart c.one_turn-later.result.1 c.in-Ends.end c.in-Ends.is c.one_turn-later.ensures.none
    (λ on. its_turn g.S.EpochStore.makes g.S.EpochStore.view g.S.EpochStore.waits c.args.lock.now.fixed c.loop.pass.lo c.args.pass.lo c.loop.pass c.one_turn-later.result.0 c.loop.shares c.one_turn-later.new.shares
    (option_copied c.as_ref-handed.result) c.loop.next c.loop.hart c.one_turn-later.new.hart c.one_turn-later.result.1 c.loop.invariant.0.lo c.as_ref-handed.ensures.value (c.one_turn-later.ensures.turn on)))

use Rattle.std.proofs.Common.{◌≡◌, refl, sym, ◌∙◌, arith, length}
use Rattle.run_ledger.specs.Counts.{no_counts}
use Rattle.violations.specs.CoreSet.{is_in}
use Rattle.homefree.proofs.Fields.Steps.{steps_none}
use Rattle.spec_history.specs.declared.entry.What.TheVariants.{Hurt}
use Rattle.homefree.specs.Noted.{epoch_in}
use Rattle.homefree.proofs.Fields.Batches.{apart_by, batch_most, one_hurt_more, no_hurt_more}
use Rattle.homefree.proofs.register.Register.hurt_all.Goals as goal
use Rattle.homefree.proofs.register.Register.hurt_all.Goals.{then-has, else-has}

pub loop-k-init : goal.loop-k-init
loop-k-init c = record { steps = λ shares. steps_none c.args.self.now shares; rest = λ j from. refl; spared = λ j is. refl }

pub hurt_at-requires-clause-room : goal.hurt_at-requires-clause-room
hurt_at-requires-clause-room c =
    let grown = (c.loop-k.invariant.steps no_counts).room in
    let used = (c.loop-k.invariant.steps no_counts).used in
    let most = batch_most c.args.by (is_in c.args.hurt) (λ j. Hurt (epoch_in c.args.self.now.running.items j)) c.loop-k.k in
    let less = c.loop-k-test.true in
    let count = c.len-count.ensures in
    let room = c.requires.room in
    omega (arith, grown, used, most, less, count, room)

pub loop-k-preserved : goal.loop-k-preserved
loop-k-preserved c = elim c.if-has.branch [
  | then-has w ↦ rw w.self-is (record {
    steps = λ shares. one_hurt_more c.args.self.now c.loop-k.self w.hurt_at.new.self shares c.args.by c.loop-k.k (is_in c.args.hurt) (sym c.has.ensures ∙ w.if-has.true)
        (c.loop-k.invariant.rest c.loop-k.k (omega arith)) (c.loop-k.invariant.steps shares) (w.hurt_at.ensures.steps shares);
    rest = λ j from. w.hurt_at.ensures.others j (omega (arith, from)) ∙ c.loop-k.invariant.rest j (omega (arith, from));
    spared = λ j is. w.hurt_at.ensures.others j (apart_by (is_in c.args.hurt) j c.loop-k.k is (sym c.has.ensures ∙ w.if-has.true)) ∙ c.loop-k.invariant.spared j is;
  })
  | else-has w ↦ rw w.self-is (record {
    steps = λ shares. no_hurt_more c.args.self.now c.loop-k.self shares c.args.by c.loop-k.k (is_in c.args.hurt) (sym c.has.ensures ∙ w.if-has.false) (c.loop-k.invariant.steps shares);
    rest = λ j from. c.loop-k.invariant.rest j (omega (arith, from));
    spared = c.loop-k.invariant.spared;
  })
]

pub returns-clause-steps : goal.returns-clause-steps
returns-clause-steps c shares =
    let low = c.loop-k-test.false in
    let high = c.loop-k.auto.k-end in
    let count = c.len-count.ensures in
    let all : c.loop-k.k ≡ length c.args.self.now.running.items = omega (arith, low, high, count) in
    rw (← all) (c.loop-k.invariant.steps shares)

pub returns-clause-spared : goal.returns-clause-spared
returns-clause-spared c k is = c.loop-k.invariant.spared k is

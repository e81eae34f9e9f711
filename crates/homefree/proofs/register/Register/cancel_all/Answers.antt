use Rattle.std.proofs.Common.{◌≡◌, refl, sym, ◌∙◌, arith, length}
use Rattle.run_ledger.specs.Counts.{no_counts}
use Rattle.spec_history.specs.declared.entry.What.TheVariants.{Cancel}
use Rattle.homefree.specs.Noted.{epoch_in, other_kept}
use Rattle.homefree.proofs.Fields.Steps.{steps_none}
use Rattle.homefree.proofs.Fields.Batches.{batch_most, one_cancel_more, no_cancel_more}
use Rattle.homefree.proofs.register.Register.cancel_all.Goals as goal
use Rattle.homefree.proofs.register.Register.cancel_all.Goals.{then-k-by, else-k-by}

pub loop-k-init : goal.loop-k-init
loop-k-init c = record { steps = λ shares. steps_none c.args.self.now shares; rest = λ j from. refl; own = refl }

pub cancel_at-requires-clause-core : goal.cancel_at-requires-clause-core
cancel_at-requires-clause-core c =
    let same = (c.loop-k.invariant.steps no_counts).cores in
    let less = c.loop-k-test.true in
    let count = c.len-count.ensures in
    omega (arith, same, less, count)

pub cancel_at-requires-clause-room : goal.cancel_at-requires-clause-room
cancel_at-requires-clause-room c =
    let grown = (c.loop-k.invariant.steps no_counts).room in
    let used = (c.loop-k.invariant.steps no_counts).used in
    let running = c.args.self.now.running.items in
    let most = batch_most c.args.by (other_kept running c.args.by) (λ j. Cancel (epoch_in running j)) c.loop-k.k in
    let less = c.loop-k-test.true in
    let count = c.len-count.ensures in
    let room = c.requires.room in
    omega (arith, grown, used, most, less, count, room)

pub loop-k-preserved : goal.loop-k-preserved
loop-k-preserved c = elim c.if-k-by.branch [
  | then-k-by w ↦ rw w.self-is (record {
    steps = λ shares. one_cancel_more c.args.self.now c.loop-k.self w.cancel_at.new.self shares c.args.by c.loop-k.k w.if-k-by.true
        (c.loop-k.invariant.rest c.loop-k.k (omega arith)) (c.loop-k.invariant.steps shares) (w.cancel_at.ensures.steps shares);
    rest = λ j from. w.cancel_at.ensures.others j (omega (arith, from)) ∙ c.loop-k.invariant.rest j (omega (arith, from));
    own = w.cancel_at.ensures.others c.args.by (λ same. w.if-k-by.true (sym same)) ∙ c.loop-k.invariant.own;
  })
  | else-k-by w ↦ rw w.self-is (record {
    steps = λ shares. no_cancel_more c.args.self.now c.loop-k.self shares c.args.by c.loop-k.k w.if-k-by.false (c.loop-k.invariant.steps shares);
    rest = λ j from. c.loop-k.invariant.rest j (omega (arith, from));
    own = c.loop-k.invariant.own;
  })
]

pub returns-clause-steps : goal.returns-clause-steps
returns-clause-steps c shares =
    let low = c.loop-k-test.false in
    let high = c.loop-k.auto.k-end in
    let count = c.len-count.ensures in
    let all : c.loop-k.k ≡ length c.args.self.now.running.items = omega (arith, low, high, count) in
    rw (← all) (c.loop-k.invariant.steps shares)

pub returns-clause-own : goal.returns-clause-own
returns-clause-own c = c.loop-k.invariant.own

use Rattle.std.proofs.Common.{sym, ◌∙◌, arith}
use Rattle.violations.specs.CoreSet.{is_in}
use Rattle.spec_bus.proofs.Unions.{union_init, union_more, union_skip, union_all}
use Rattle.spec_bus.proofs.publish.union.Goals as goal
use Rattle.spec_bus.proofs.publish.union.Goals.{then-has, else-has}

pub loop-k-init : goal.loop-k-init
loop-k-init c j = union_init j (is_in c.args.first j) (is_in c.args.second j)

pub loop-k-preserved : goal.loop-k-preserved
loop-k-preserved c j =
    elim c.if-has.branch [
      | then-has w ↦ rw w.both-is
          (union_more c.loop-k.k (is_in c.args.first) (is_in c.args.second) (is_in c.loop-k.both) (is_in w.insert.new.self)
          (sym c.has.ensures ∙ w.if-has.true) w.insert.ensures c.loop-k.invariant j)
      | else-has w ↦ rw w.both-is
          (union_skip c.loop-k.k (is_in c.args.first) (is_in c.args.second) (is_in c.loop-k.both)
          (sym c.has.ensures ∙ w.if-has.false) c.loop-k.invariant j)
    ]

pub returns : goal.returns
returns c j =
    union_all c.loop-k.k j (is_in c.args.first j) (is_in c.args.second j) (is_in c.loop-k.both j)
    (λ past. c.requires j (omega (arith, past, c.loop-k-test.false))) (c.loop-k.invariant j)

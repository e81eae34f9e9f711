use Rattle.dependences.proofs.Running.{ended_at, started_at}
use Rattle.dependences.proofs.flow.follow.Goals as goal

pub run_to_end-at-requires-clause-right : goal.run_to_end-at-requires-clause-right
run_to_end-at-requires-clause-right g c =
    rw c.start-hart.ensures
    (started_at g.F.Found.keeps c.args.image.now _ c.args.epoch c.args.memory.now c.of-flow.ensures c.requires.run c.requires.before c.requires.kept.found c.requires.kept.list c.requires.kept.stores
    c.requires.kept.writers c.requires.kept.later)

pub returns-clause-kept : goal.returns-clause-kept
returns-clause-kept g c =
    let end = ended_at g.F.Found.keeps c.args.image.now c.run_to_end-at.new.notes c.args.epoch c.run_to_end-at.new.self c.run_to_end-at.result c.args.memory.now c.run_to_end-at.new.bytes
    c.of-flow.ensures c.run_to_end-at.ensures.fixed c.run_to_end-at.ensures.right c.if-flow.false c.run_to_end-at.ensures.stop c.run_to_end-at.ensures.end c.requires.before in
    end.kept

pub returns-clause-lasts : goal.returns-clause-lasts
returns-clause-lasts g c =
    let end = ended_at g.F.Found.keeps c.args.image.now c.run_to_end-at.new.notes c.args.epoch c.run_to_end-at.new.self c.run_to_end-at.result c.args.memory.now c.run_to_end-at.new.bytes
    c.of-flow.ensures c.run_to_end-at.ensures.fixed c.run_to_end-at.ensures.right c.if-flow.false c.run_to_end-at.ensures.stop c.run_to_end-at.ensures.end c.requires.before in
    rw c.done.ensures end.lasts

pub returns-clause-next : goal.returns-clause-next
returns-clause-next g c =
    let end = ended_at g.F.Found.keeps c.args.image.now c.run_to_end-at.new.notes c.args.epoch c.run_to_end-at.new.self c.run_to_end-at.result c.args.memory.now c.run_to_end-at.new.bytes
    c.of-flow.ensures c.run_to_end-at.ensures.fixed c.run_to_end-at.ensures.right c.if-flow.false c.run_to_end-at.ensures.stop c.run_to_end-at.ensures.end c.requires.before in
    rw c.next_runs.ensures end.next

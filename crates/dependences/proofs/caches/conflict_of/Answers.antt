use Rattle.std.proofs.Common.{sym, ◌∙◌}
use Rattle.dependences.proofs.Watching.{watch_begun, watch_done}
use Rattle.dependences.proofs.caches.conflict_of.Goals as goal

pub run_to_end-at-requires-clause-right : goal.run_to_end-at-requires-clause-right
run_to_end-at-requires-clause-right c =
    rw c.start-hart.ensures (watch_begun c.args.image.now c.args.watch.now _ c.args.cores c.args.epoch c.args.memory.now c.begin.ensures c.requires.run c.requires.starts c.requires.memory c.requires.kept)

pub returns-clause-found : goal.returns-clause-found
returns-clause-found c =
    let end = watch_done c.args.image.now c.run_to_end-at.new.notes c.args.cores c.args.epoch c.run_to_end-at.new.self c.run_to_end-at.result c.args.memory.now c.run_to_end-at.new.bytes
    c.args.watch.now _ c.begin.ensures c.requires.kept.cores_are c.run_to_end-at.ensures.fixed c.requires.memory c.run_to_end-at.ensures.right.0 c.run_to_end-at.ensures.stop c.run_to_end-at.ensures.end in
    rw c.found.ensures end.found

pub returns-clause-none : goal.returns-clause-none
returns-clause-none c none =
    let end = watch_done c.args.image.now c.run_to_end-at.new.notes c.args.cores c.args.epoch c.run_to_end-at.new.self c.run_to_end-at.result c.args.memory.now c.run_to_end-at.new.bytes
    c.args.watch.now _ c.begin.ensures c.requires.kept.cores_are c.run_to_end-at.ensures.fixed c.requires.memory c.run_to_end-at.ensures.right.0 c.run_to_end-at.ensures.stop c.run_to_end-at.ensures.end in
    end.none (sym c.found.ensures ∙ none)

pub returns-clause-kept : goal.returns-clause-kept
returns-clause-kept c none =
    let end = watch_done c.args.image.now c.run_to_end-at.new.notes c.args.cores c.args.epoch c.run_to_end-at.new.self c.run_to_end-at.result c.args.memory.now c.run_to_end-at.new.bytes
    c.args.watch.now _ c.begin.ensures c.requires.kept.cores_are c.run_to_end-at.ensures.fixed c.requires.memory c.run_to_end-at.ensures.right.0 c.run_to_end-at.ensures.stop c.run_to_end-at.ensures.end in
    end.kept (sym c.found.ensures ∙ none)

pub returns-clause-next : goal.returns-clause-next
returns-clause-next c none done =
    let end = watch_done c.args.image.now c.run_to_end-at.new.notes c.args.cores c.args.epoch c.run_to_end-at.new.self c.run_to_end-at.result c.args.memory.now c.run_to_end-at.new.bytes
    c.args.watch.now _ c.begin.ensures c.requires.kept.cores_are c.run_to_end-at.ensures.fixed c.requires.memory c.run_to_end-at.ensures.right.0 c.run_to_end-at.ensures.stop c.run_to_end-at.ensures.end in
    rw c.next_runs.ensures (end.next (sym c.found.ensures ∙ none) done)

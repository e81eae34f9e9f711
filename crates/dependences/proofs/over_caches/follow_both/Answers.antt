use Rattle.std.proofs.Common.{◌≡◌, ℕ, ◌∷◌, [], sym, ap, ◌∙◌}
use Rattle.rv32_exec.specs.Sequential.{SequentialResult}
use Rattle.epoch_paths.specs.InOrder.{IsInOrder}
use Rattle.dependences.specs.Conflict.{first_beside}
use Rattle.epoch_paths.proofs.InOrder.{all_in_order}
use Rattle.dependences.proofs.InOrder.{low_most}
use Rattle.dependences.proofs.Running.{ended_at, run_more, started_at}
use Rattle.dependences.proofs.Showing.{run_in_order}
use Rattle.dependences.proofs.Watching.{watch_begun, watch_done}
use Rattle.dependences.proofs.over_caches.follow_both.Goals as goal

-- the parts of what stays of both notes
fixed_first : {a b c a' b' c' : ℕ} → a ∷ b ∷ c ∷ [] ≡ a' ∷ b' ∷ c' ∷ [] → a ∷ [] ≡ a' ∷ []
fixed_first is = cc

fixed_second : {a b c a' b' c' : ℕ} → a ∷ b ∷ c ∷ [] ≡ a' ∷ b' ∷ c' ∷ [] → b ∷ c ∷ [] ≡ b' ∷ c' ∷ []
fixed_second is = cc

pub run_to_end-at-requires-clause-right : goal.run_to_end-at-requires-clause-right
run_to_end-at-requires-clause-right g c =
    let image = c.args.image.now in
    let order : IsInOrder image c.args.epoch = ap (λ (r : SequentialResult). r.end) c.requires.before in
    let same = sym (run_in_order image c.args.cores c.args.epoch order ∙ ap (λ (r : SequentialResult). r.bytes) c.requires.before) in
    let kept = c.requires.flow.kept in (
      rw c.start-hart.ensures (started_at g.F.Found.keeps image _ c.args.epoch c.args.memory.now c.of-both.ensures c.requires.run c.requires.before kept.found kept.list kept.stores kept.writers kept.later),
      rw c.start-hart.ensures (watch_begun image c.args.both.now.second c.begin.new.self c.args.cores c.args.epoch c.args.memory.now c.begin.ensures c.requires.run
          (all_in_order image c.args.epoch (first_beside c.args.cores c.args.epoch) order (low_most c.args.cores c.args.epoch)) same c.requires.watch),
    )

pub returns-clause-next : goal.returns-clause-next
returns-clause-next g c =
    let image = c.args.image.now in
    let end = ended_at g.F.Found.keeps image c.run_to_end-at.new.notes.first c.args.epoch c.run_to_end-at.new.self c.run_to_end-at.result c.args.memory.now c.run_to_end-at.new.bytes
    c.of-both.ensures (fixed_first c.run_to_end-at.ensures.fixed) c.run_to_end-at.ensures.right.0 c.if-both.false c.run_to_end-at.ensures.stop c.run_to_end-at.ensures.end c.requires.before in
    rw c.next_runs.ensures end.next

pub returns-clause-flow : goal.returns-clause-flow
returns-clause-flow g c =
    let image = c.args.image.now in
    let end = ended_at g.F.Found.keeps image c.run_to_end-at.new.notes.first c.args.epoch c.run_to_end-at.new.self c.run_to_end-at.result c.args.memory.now c.run_to_end-at.new.bytes
    c.of-both.ensures (fixed_first c.run_to_end-at.ensures.fixed) c.run_to_end-at.ensures.right.0 c.if-both.false c.run_to_end-at.ensures.stop c.run_to_end-at.ensures.end c.requires.before in
    run_more g.F.Found.keeps image c.args.epoch c.done.result c.args.both.now.first c.run_to_end-at.new.notes.first c.args.lengths.now.items c.add.new.lengths.items c.requires.flow end.kept
    (rw c.done.ensures end.lasts) c.in_ok-add.ensures

pub returns-clause-found : goal.returns-clause-found
returns-clause-found g c =
    let image = c.args.image.now in
    let order : IsInOrder image c.args.epoch = ap (λ (r : SequentialResult). r.end) c.requires.before in
    let same = sym (run_in_order image c.args.cores c.args.epoch order ∙ ap (λ (r : SequentialResult). r.bytes) c.requires.before) in
    let end = watch_done image c.run_to_end-at.new.notes.second c.args.cores c.args.epoch c.run_to_end-at.new.self c.run_to_end-at.result c.args.memory.now c.run_to_end-at.new.bytes
    c.args.both.now.second c.begin.new.self c.begin.ensures c.requires.watch.cores_are (fixed_second c.run_to_end-at.ensures.fixed) same c.run_to_end-at.ensures.right.1.0 c.run_to_end-at.ensures.stop c.run_to_end-at.ensures.end in
    rw c.found.ensures end.found

pub returns-clause-none : goal.returns-clause-none
returns-clause-none g c none =
    let image = c.args.image.now in
    let order : IsInOrder image c.args.epoch = ap (λ (r : SequentialResult). r.end) c.requires.before in
    let same = sym (run_in_order image c.args.cores c.args.epoch order ∙ ap (λ (r : SequentialResult). r.bytes) c.requires.before) in
    let end = watch_done image c.run_to_end-at.new.notes.second c.args.cores c.args.epoch c.run_to_end-at.new.self c.run_to_end-at.result c.args.memory.now c.run_to_end-at.new.bytes
    c.args.both.now.second c.begin.new.self c.begin.ensures c.requires.watch.cores_are (fixed_second c.run_to_end-at.ensures.fixed) same c.run_to_end-at.ensures.right.1.0 c.run_to_end-at.ensures.stop c.run_to_end-at.ensures.end in
    end.none (sym c.found.ensures ∙ none)

pub returns-clause-watch : goal.returns-clause-watch
returns-clause-watch g c none =
    let image = c.args.image.now in
    let order : IsInOrder image c.args.epoch = ap (λ (r : SequentialResult). r.end) c.requires.before in
    let same = sym (run_in_order image c.args.cores c.args.epoch order ∙ ap (λ (r : SequentialResult). r.bytes) c.requires.before) in
    let end = watch_done image c.run_to_end-at.new.notes.second c.args.cores c.args.epoch c.run_to_end-at.new.self c.run_to_end-at.result c.args.memory.now c.run_to_end-at.new.bytes
    c.args.both.now.second c.begin.new.self c.begin.ensures c.requires.watch.cores_are (fixed_second c.run_to_end-at.ensures.fixed) same c.run_to_end-at.ensures.right.1.0 c.run_to_end-at.ensures.stop c.run_to_end-at.ensures.end in
    end.kept (sym c.found.ensures ∙ none)

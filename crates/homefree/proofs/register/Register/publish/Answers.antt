use Rattle.std.proofs.Common.{◌≡◌, ◌==◌, Some, true, cond, arith, refl, ap, ◌∙◌}
use Rattle.std.proofs.lemmas.Bool.Decides.{nat_tests}
use Rattle.run_ledger.specs.Counts.{no_counts}
use Rattle.violations.specs.CoreSet.{is_in}
use Rattle.homefree.specs.Kept.{running_at}
use Rattle.homefree.proofs.Fields.Noting.{published}
use Rattle.homefree.proofs.Fields.Steps.{steps_then}
use Rattle.homefree.proofs.Fields.Hurting.{room_after}
use Rattle.homefree.proofs.register.Register.publish.Goals as goal

pub note-requires : goal.note-requires
note-requires c = room_after c.args.self.now c.hurt_all.new.self c.args.core c.requires.may.0 (is_in c.args.hurt) c.requires.may.1 (c.hurt_all.ensures.steps no_counts)

pub returns-clause-steps : goal.returns-clause-steps
returns-clause-steps c shares =
    let mid = c.hurt_all.new.self in
    let runs = c.hurt_all.ensures.spared c.args.core c.requires.may.1.spared ∙ c.requires.may.1.runs in
    steps_then c.args.self.now mid _ shares shares shares _ _ (c.hurt_all.ensures.steps shares)
    (published mid _ shares c.args.core c.requires.may.0 runs refl (c.set_straight.ensures c.requires.may.0 runs).len c.note.ensures.items c.note.ensures.room c.note.ensures.used refl refl refl refl
    (c.set_straight.ensures c.requires.may.0 runs).each)

pub returns-clause-runs : goal.returns-clause-runs
returns-clause-runs c now runs =
    let mid = c.hurt_all.new.self in
    let at = c.hurt_all.ensures.spared c.args.core c.requires.may.1.spared ∙ runs in
    let same : (c.args.core == c.args.core) ≡ true = grind (arith, nat_tests) in
    (c.set_straight.ensures now at).each c.args.core ∙ ap (λ b. cond b (Some (record now { straight = true })) (running_at mid.running.items c.args.core)) same

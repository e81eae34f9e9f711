use Rattle.std.proofs.Common.{◌≡◌, ◌+◌, ◌<◌, ◌∙◌, length, map, take, refl, sym, ap, subst, arith}
use Rattle.std.proofs.lemmas.Option.{slice_get-get_or}
use Rattle.std.proofs.lemmas.List.{take_all}
use Rattle.spec_history.specs.Replay.{replay}
use Rattle.spec_history.specs.View.{state_in, cores_in}
use Rattle.spec_history.proofs.Replay.Reaching.{audited_more}
use Rattle.conflicts.proofs.Explaining.{legal_in}
use Rattle.conflict_findings.specs.Ends.{ended_before, running_below, running_from}
use Rattle.conflict_findings.specs.Rollbacks.{rollback_at}
use Rattle.conflict_findings.specs.Violated.{AreMarked}
use Rattle.conflict_findings.proofs.Growing.{ended_more}
use Rattle.conflict_findings.proofs.Marking.{marked_in}
use Rattle.conflict_text.specs.Gathered.{IsGathered}
use Rattle.conflict_text.proofs.Gathering.{more_found}
use Rattle.conflict_text.proofs.Telling.{kept_more}
use Rattle.conflict_text.proofs.finding.Gathering.replay.Goals as goal

pub explanation_at-requires-clause-known : goal.explanation_at-requires-clause-known
explanation_at-requires-clause-known c = rw c.loop-place.invariant.image c.loop-place.invariant.known

pub keep-requires-clause-summed : goal.keep-requires-clause-summed
keep-requires-clause-summed c = (map (rollback_at c.args.sited.now.image.now c.args.sited.now.entries.now c.args.sited.now.sites.now) c.loop-place.invariant.found.found, c.loop-place.invariant.found.summed)

pub loop-place-preserved : goal.loop-place-preserved
loop-place-preserved c =
    let was = c.loop-place.invariant in
    let same = c.in-Ok.ensures.same in
    let applied = c.in-Ok.ensures.answer in
    let image = c.args.sited.now.image.now in
    let cores = c.args.cores in
    let entries = c.args.sited.now.entries.now in
    let place = c.loop-place.place in
    let flat = c.loop-place.self.flat in
    let below : place < length entries = omega (arith, c.loop-place-test.true) in
    let there = slice_get-get_or entries place _ below in
    let found = c.in_ok-explained.ensures in
    let legal = legal_in flat.image cores (cores_in flat) (state_in flat) _ was.cores applied.legal in
    let shown = found.found _ there legal in
    let explained = rw was.image at found.explained in
    let told = rw was.image at c.in_ok-keep.ensures.told in
    let summed = rw was.image at c.in_ok-keep.ensures.summed in record {
      image = same.image ∙ was.image;
      cores = same.cores ∙ was.cores;
      replays = audited_more image cores entries place _ flat c.apply.new.self was.image was.cores was.replays below applied;
      marked = marked_in flat c.apply.new.self entries place _ there applied was.marked;
      found = more_found image cores (state_in flat) entries c.args.sited.now.sites.now place c.in_ok-explained.explained _ _ _ _ was.replays shown explained was.found told summed;
      ended = kept_more c.args.all c.ended_by-found.result (ended_before image cores entries place) _ c.loop-place.self.ended.items _
          (ended_more image flat.image cores entries place (state_in flat) _ _ _ _ was.image was.replays there c.ended_by-found.ensures refl refl) was.ended c.in_ok-keep_ended.ensures;
      known = rw was.image at found.known;
      followed = record {
        is = c.in_ok-note.ensures.known;
        noted = let noted = c.in_ok-keep.ensures.noted ∙ was.followed.noted in c.in_ok-note.ensures.further (omega (arith, below, noted)) ∙ ap (λ n. n + 1) noted;
      };
    }

pub running_in-requires-clause-marked : goal.running_in-requires-clause-marked
running_in-requires-clause-marked c =
    let entries = c.args.sited.now.entries.now in
    let last : c.loop-place.place ≡ length entries = omega (arith, c.loop-place-test.false, c.loop-place.auto.place-end) in
    subst (λ n. AreMarked entries n (state_in c.loop-place.self.flat).cores) last c.loop-place.invariant.marked

pub returns-clause-gathered : goal.returns-clause-gathered
returns-clause-gathered c =
    let last : c.loop-place.place ≡ length c.args.sited.now.entries.now = omega (arith, c.loop-place-test.false, c.loop-place.auto.place-end) in
    subst (λ n. IsGathered c.args.all c.args.sited.now.image.now c.args.cores c.args.sited.now.entries.now c.args.sited.now.sites.now n c.loop-place.self) last c.loop-place.invariant

pub returns-clause-running : goal.returns-clause-running
returns-clause-running c =
    let was = c.loop-place.invariant in
    let image = c.args.sited.now.image.now in
    let cores = c.args.cores in
    let entries = c.args.sited.now.entries.now in
    let place = c.loop-place.place in
    let flat = c.loop-place.self.flat in
    let last : place ≡ length entries = omega (arith, c.loop-place-test.false, c.loop-place.auto.place-end) in
    let whole : take place entries ≡ entries = take_all place entries (omega (arith, last)) in
    let replays = sym (ap (replay image cores) whole) ∙ was.replays in
    c.in_ok-running.ensures ∙ (ap (λ i. running_below i entries (state_in flat) cores) was.image ∙ sym (ap (running_from image cores entries) replays))

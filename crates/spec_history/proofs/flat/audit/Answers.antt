use Rattle.std.proofs.Common.{◌<◌, length, ◌∙◌, inl, arith}
use Rattle.spec_history.proofs.Replay.Reaching.{no_entries, audited_more, audited_fault}
use Rattle.spec_history.proofs.flat.audit.Goals as goal

pub loop-place-init : goal.loop-place-init
loop-place-init c = record { image = c.in-Ok.ensures.image; cores = c.in-Ok.ensures.cores; replays = rw c.in-Ok.ensures.state (no_entries c.args.image.now c.args.cores) }

pub returns-in-Err-clause-replay : goal.returns-in-Err-clause-replay
returns-in-Err-clause-replay c =
    let was = c.loop-place.invariant in
    let below : c.loop-place.place < length c.args.entries.now = omega (arith, c.loop-place-test.true) in
    inl (audited_fault c.args.image.now c.args.cores c.args.entries.now c.loop-place.place c.in-Err.illegal _ c.loop-place.flat c.apply.new.self was.image was.cores was.replays below c.in-Err.ensures.answer)

pub loop-place-preserved : goal.loop-place-preserved
loop-place-preserved c =
    let was = c.loop-place.invariant in
    let same = c.in_default-apply.ensures.same in
    let below : c.loop-place.place < length c.args.entries.now = omega (arith, c.loop-place-test.true) in record {
      image = same.image ∙ was.image;
      cores = same.cores ∙ was.cores;
      replays = audited_more c.args.image.now c.args.cores c.args.entries.now c.loop-place.place _ c.loop-place.flat c.apply.new.self was.image was.cores was.replays below c.in_default-apply.ensures.answer;
    }

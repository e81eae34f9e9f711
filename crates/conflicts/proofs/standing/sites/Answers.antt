use Rattle.std.proofs.Common.{◌<◌, ◌∙◌, length, sym, inl, arith}
use Rattle.std.proofs.lemmas.Option.{slice_get-get_or}
use Rattle.memory_bytes.proofs.SmallFacts.{ok_holds}
use Rattle.spec_history.specs.View.{state_in}
use Rattle.spec_history.proofs.Replay.Reaching.{no_entries, audited_more, audited_fault}
use Rattle.conflicts.proofs.Growing.{no_sites, sites_more}
use Rattle.conflicts.proofs.standing.sites.Goals as goal

pub loop-place-init : goal.loop-place-init
loop-place-init c = record {
  image = c.in-Ok.ensures.image;
  cores = c.in-Ok.ensures.cores;
  replays = rw c.in-Ok.ensures.state (no_entries c.args.image.now c.args.cores);
  each = c.new-sites.ensures.items ∙ no_sites c.args.image.now c.args.cores c.args.entries.now;
}

pub returns-in-Err-clause-legal : goal.returns-in-Err-clause-legal
returns-in-Err-clause-legal c =
    let was = c.loop-place.invariant in
    let below : c.loop-place.place < length c.args.entries.now = omega (arith, c.loop-place-test.true) in
    inl (audited_fault c.args.image.now c.args.cores c.args.entries.now c.loop-place.place c.in-Err.illegal _ c.loop-place.flat c.apply.new.self was.image was.cores was.replays below c.in-Err.ensures.answer)

pub loop-place-preserved : goal.loop-place-preserved
loop-place-preserved c =
    let was = c.loop-place.invariant in
    let same = c.in_default-apply.ensures.same in
    let below : c.loop-place.place < length c.args.entries.now = omega (arith, c.loop-place-test.true) in
    let grown = ok_holds c.keep_site.result _ (sym c.is_err.ensures.value ∙ c.if-is_err.false) c.keep_site.ensures in record {
      image = same.image ∙ was.image;
      cores = same.cores ∙ was.cores;
      replays = audited_more c.args.image.now c.args.cores c.args.entries.now c.loop-place.place _ c.loop-place.flat c.apply.new.self was.image was.cores was.replays below c.in_default-apply.ensures.answer;
      each = sites_more c.args.image.now c.loop-place.flat.image c.args.cores c.args.entries.now c.loop-place.place (state_in c.loop-place.flat) _ c.site_of-site.result
          c.loop-place.sites.items _ was.image was.replays (slice_get-get_or c.args.entries.now c.loop-place.place _ below) c.site_of-site.ensures was.each grown;
    }

use Rattle.std.proofs.Common.{◌≡◌, ◌<◌, ◌∙◌, All, IfSome, length, sym, ap, subst, inl, arith}
use Rattle.std.proofs.lemmas.Option.{slice_get-get_or}
use Rattle.memory_bytes.proofs.SmallFacts.{ok_holds}
use Rattle.rv32_image.specs.Image.{LoadedImage}
use Rattle.spec_history.specs.View.{state_in, cores_in}
use Rattle.spec_history.proofs.Replay.Reaching.{no_entries, audited_more, audited_fault}
use Rattle.conflicts.specs.Behind.{IsKnown}
use Rattle.conflicts.specs.Explained.{IsExplained, IsExplainedIn, places_of}
use Rattle.conflicts.proofs.Explaining.{no_places, each_more, explained_more, legal_in}
use Rattle.conflicts.proofs.Growing.{no_sites, sites_more}
use Rattle.conflicts.proofs.with_sites.explain_with_sites.Goals as goal

pub loop-place-init : goal.loop-place-init
loop-place-init c =
    let empty = c.new-explanations.ensures.items in record {
      image = c.in-Ok.ensures.image;
      cores = c.in-Ok.ensures.cores;
      replays = rw c.in-Ok.ensures.state (no_entries c.args.image.now c.args.cores);
      each = ap places_of empty ∙ no_places c.args.entries.now;
      explained = λ k d below. absurd (omega (arith, below, ap length empty));
      sites = c.new-sites.ensures.items ∙ no_sites c.args.image.now c.args.cores c.args.entries.now;
      known = c.new-known.ensures _ c.args.entries.now;
    }

pub returns-in-Err-clause-legal : goal.returns-in-Err-clause-legal
returns-in-Err-clause-legal c =
    let was = c.loop-place.invariant in
    let below : c.loop-place.place < length c.args.entries.now = omega (arith, c.loop-place-test.true) in
    inl (audited_fault c.args.image.now c.args.cores c.args.entries.now c.loop-place.place c.in-Err.illegal _ c.loop-place.flat c.apply.new.self was.image was.cores was.replays below c.in-Err.ensures.answer)

pub loop-place-preserved : goal.loop-place-preserved
loop-place-preserved c =
    let was = c.loop-place.invariant in
    let same = c.in_default-apply.ensures.same in
    let applied = c.in_default-apply.ensures.answer in
    let entries = c.args.entries.now in
    let place = c.loop-place.place in
    let below : place < length entries = omega (arith, c.loop-place-test.true) in
    let found = c.in-Ok-explanation_at.ensures in
    let own = c.loop-place.flat.image in
    let legal = legal_in own c.args.cores (cores_in c.loop-place.flat) (state_in c.loop-place.flat) _ was.cores applied.legal in
    let there = found.found _ (slice_get-get_or entries place _ below) legal in
    let explained = subst (λ (i : LoadedImage). IfSome c.in-Ok-explanation_at.found (λ e. (e.place ≡ place) × IsExplainedIn i (state_in c.loop-place.flat) entries e)) was.image found.explained in
    let grown = ok_holds c.keep.result _ (sym c.is_err.ensures.value ∙ c.if-is_err.false) c.keep.ensures in
    let longer = ok_holds c.keep_site.result _ (sym c.is_err-in-loop-place.ensures.value ∙ c.if-is_err-2.false) c.keep_site.ensures in
    record {
      image = same.image ∙ was.image;
      cores = same.cores ∙ was.cores;
      replays = audited_more c.args.image.now c.args.cores entries place _ c.loop-place.flat c.apply.new.self was.image was.cores was.replays below applied;
      each = ap places_of grown ∙ each_more own (state_in c.loop-place.flat) entries place c.loop-place.explanations.items c.in-Ok-explanation_at.found there found.explained was.each;
      explained = subst (All (IsExplained c.args.image.now c.args.cores entries)) (sym grown)
          (explained_more c.args.image.now c.args.cores (state_in c.loop-place.flat) entries place c.loop-place.explanations.items c.in-Ok-explanation_at.found was.replays explained was.explained);
      sites = sites_more c.args.image.now own c.args.cores entries place (state_in c.loop-place.flat) _ c.site_of-site.result c.loop-place.sites.items _ was.image was.replays
          (slice_get-get_or entries place _ below) c.site_of-site.ensures was.sites longer;
      known = subst (λ (i : LoadedImage). IsKnown i.size entries c.explanation_at.new.known) (sym same.image) found.known;
    }

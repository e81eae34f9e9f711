use Rattle.std.proofs.Common.{◌∙◌, filter, sym, ap, subst}
use Rattle.spec_history.specs.FlatState.{FlatState}
use Rattle.spec_history.proofs.Replay.Reaching.{no_entries}
use Rattle.conflict_findings.specs.Violated.{AreMarked}
use Rattle.conflict_findings.proofs.Growing.{none_ended}
use Rattle.conflict_findings.proofs.Marking.{marked_first}
use Rattle.conflict_text.specs.Ends.{is_kept}
use Rattle.conflict_text.proofs.Gathering.{none_found}
use Rattle.conflict_text.proofs.finding.Gathering.new.Goals as goal

pub returns : goal.returns
returns c = λ all entries sites.
    let image = c.args.image.now in
    let cores = c.args.cores in record {
      image = c.in-Ok.ensures.image;
      cores = c.in-Ok.ensures.cores;
      replays = rw c.in-Ok.ensures.state (no_entries image cores);
      marked = subst (λ (s : FlatState). AreMarked entries 0 s.cores) (sym c.in-Ok.ensures.state) (marked_first image entries 0);
      found = none_found image cores entries sites _ _ c.new-findings.ensures.lines c.new-findings.ensures.sums;
      ended = c.new-ended.ensures.items ∙ ap (filter (is_kept all)) (none_ended image cores entries);
      known = c.new-known.ensures image.size entries;
      followed = c.new-findings.ensures.followed entries;
    }

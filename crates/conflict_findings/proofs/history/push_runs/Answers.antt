use Rattle.std.proofs.Common.{ℕ, List, Option, sym, ap, subst}
use Rattle.std.proofs.lemmas.Result.{on_ok_weaker}
use Rattle.spec_history.specs.View.{state_in}
use Rattle.spec_history.specs.declared.kind.Kind.TheVariants.{SilentStore, FalseSharing}
use Rattle.spec_history.specs.Conflict.{line_count, read_bytes, what_at}
use Rattle.conflicts.specs.declared.blame.Violated.{Violated}
use Rattle.conflicts.specs.Parties.{meeting_in}
use Rattle.conflicts.specs.Violated.{violation_in}
use Rattle.conflict_findings.specs.declared.run.Run.{Run}
use Rattle.conflict_findings.specs.Runs.{AreLinesRead, AreRead, line_run, runs_below, runs_by, shared_run, violation_of}
use Rattle.conflict_findings.proofs.OneRun.{joined, nothing_more, with_entry, without_entry}
use Rattle.conflict_findings.proofs.history.push_runs.Goals as goal

pub returns-in_default-what_at : goal.returns-in_default-what_at
returns-in_default-what_at c =
    let e = c.args.e in
    nothing_more c.args.runs.now.items (runs_by c.args.scene.now.flat.now.image (state_in c.args.scene.now.flat.now) c.args.scene.now.entries.now e e.cause (what_at c.args.scene.now.entries.now e.cause))
    (without_entry c.args.scene.now.flat.now.image (state_in c.args.scene.now.flat.now) c.args.scene.now.entries.now e (what_at c.args.scene.now.entries.now e.cause) (sym c.in_default-what_at.ensures))

pub push_lines-requires : goal.push_lines-requires
push_lines-requires c =
    let image = c.args.scene.now.flat.now.image in
    let flat = c.args.scene.now.flat.now in
    let reads : ℕ → Option ℕ = read_bytes ((state_in flat).cores c.args.e.victim.core) in
    let read : AreRead image.size reads c.as_slice-2.result.now = subst (AreRead image.size reads) (sym c.as_slice-2.ensures.value) c.in_ok-read.ensures in
    let lines : AreLinesRead image reads c.in_ok-lines.lines.items = (rw c.image.ensures at c.in_ok-lines.ensures) reads read in
    subst (λ (v : Violated). AreLinesRead image (meeting_in flat v.parties).reads c.as_slice-3.result.now) (sym c.beside.ensures)
    (subst (AreLinesRead image reads) (sym c.as_slice-3.ensures.value) lines)

pub returns : goal.returns
returns c =
    let e = c.args.e in
    let image = c.args.scene.now.flat.now.image in
    let entries = c.args.scene.now.entries.now in
    let s = state_in c.args.scene.now.flat.now in
    let cause = c.in-Some.cause in
    let what = c.in-Some-what_at.what in
    let lines : Violated → List Run = λ v. runs_below (line_count image) (line_run image entries e.blame (violation_in c.args.scene.now.flat.now v)) in
    let first = runs_below image.size (shared_run image entries e.blame (violation_of s e cause what SilentStore)) in
    let second = runs_below (line_count image) (line_run image entries e.blame (violation_of s e cause what FalseSharing)) in
    on_ok_weaker c.push_lines.result
    (λ grown. joined c.args.runs.now.items c.push_shared.new.runs.items c.push_lines.new.runs.items first (lines c.beside.result) second
    (runs_by image s entries e e.cause (what_at entries e.cause))
    c.in_ok-push_shared.ensures (ap lines c.beside.ensures) (with_entry image s entries e (what_at entries e.cause) cause what c.in-Some.is (sym c.in-Some-what_at.ensures)) grown)
    c.push_lines.ensures

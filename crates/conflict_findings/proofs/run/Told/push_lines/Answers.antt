use Rattle.std.proofs.Common.{◌≡◌, ◌<◌, ◌≤◌, ◌++◌, ℕ, List, None, Option, length, option_to_list, slice_index, sym, ap, ◌∙◌, inl, inr, arith}
use Rattle.std.proofs.lemmas.Bool.{cases_eq}
use Rattle.std.proofs.lemmas.List.{append-nil}
use Rattle.spec_history.specs.Conflict.{line_count}
use Rattle.conflicts.specs.Parties.{meeting_in}
use Rattle.conflicts.specs.Violated.{violation_in}
use Rattle.conflicts.proofs.Blaming.{either_way}
use Rattle.conflict_findings.specs.declared.run.Run.{Run}
use Rattle.conflict_findings.specs.Runs.{is_falsely_shared, line_run}
use Rattle.conflict_findings.proofs.RunsBelow.{none_below, told_all, told_past}
use Rattle.conflict_findings.proofs.OneRun.{no_line}
use Rattle.conflict_findings.proofs.Searching.{line_listed, not_between}
use Rattle.conflict_findings.proofs.run.Told.push_lines.Goals as goal
use Rattle.conflict_findings.proofs.run.Told.push_lines.Goals.{then-line-from+in_ok-keep, else-line-from}

pub loop-line-init : goal.loop-line-init
loop-line-init c =
    let runs : ℕ → Option Run = line_run c.args.self.now.scene.flat.now.image c.args.self.now.scene.entries.now c.args.self.now.blame (violation_in c.args.self.now.scene.flat.now c.args.self.now.violated) in
    let items = c.args.runs.now.items in record {
      within = omega arith;
      told = sym (ap (λ (xs : List Run). items ++ xs) (none_below runs) ∙ append-nil items);
      passed = λ k below. absurd (omega (arith, below));
    }

pub loop-line-preserved : goal.loop-line-preserved
loop-line-preserved c =
    let image = c.args.self.now.scene.flat.now.image in
    let v = violation_in c.args.self.now.scene.flat.now c.args.self.now.violated in
    let m = meeting_in c.args.self.now.scene.flat.now c.args.self.now.violated.parties in
    let runs : ℕ → Option Run = line_run image c.args.self.now.scene.entries.now c.args.self.now.blame v in
    let lines = c.args.lines.now in
    let index = c.loop-line.line-index in
    let line = slice_index lines index in
    let inside : index < length lines = omega (arith, c.loop-line-test.true) in
    let counted = c.requires.within index inside in
    let from = c.loop-line.from in
    let was = c.loop-line.invariant in
    elim c.if-line-from.branch [
      | then-line-from+in_ok-keep w ↦
          let none : (j : ℕ) → from ≤ j → j < line → runs j ≡ None = λ j after before. either_way (is_falsely_shared image m j) (runs j ≡ None)
          (λ shared.
          let at = line_listed image m lines j c.requires.each shared in
          absurd (not_between lines index from j at.0 c.requires.ordered inside was.passed after before at.1 at.2))
          (λ isnt. no_line image c.args.self.now.scene.entries.now c.args.self.now.blame v j isnt) in record {
            within = rw w.from-is (omega (arith, counted));
            told = rw (w.runs-is, w.from-is)
                (told_past from line _ runs c.args.runs.now.items c.loop-line.runs.items _ w.if-line-from.true none was.told
                (w.in_ok-keep.ensures ∙ ap (λ (o : Option Run). c.loop-line.runs.items ++ option_to_list o) w.line_run.ensures) (omega arith) (λ j above below. absurd (omega (arith, above, below))));
            passed = rw w.from-is (λ k below. elim (cases_eq k index) [
              | inl e ↦ omega (arith, ap (slice_index lines) e)
              | inr other ↦ let less = was.passed k (omega (arith, below, other)) in omega (arith, less, w.if-line-from.true)
            ]);
          }
      | else-line-from w ↦ record {
        within = rw w.from-is was.within;
        told = rw (w.runs-is, w.from-is) was.told;
        passed = rw w.from-is (λ k below. elim (cases_eq k index) [
          | inl e ↦ omega (arith, ap (slice_index lines) e, w.if-line-from.false)
          | inr other ↦ was.passed k (omega (arith, below, other))
        ]);
      }
    ]

pub returns : goal.returns
returns c =
    let image = c.args.self.now.scene.flat.now.image in
    let v = violation_in c.args.self.now.scene.flat.now c.args.self.now.violated in
    let m = meeting_in c.args.self.now.scene.flat.now c.args.self.now.violated.parties in
    let runs : ℕ → Option Run = line_run image c.args.self.now.scene.entries.now c.args.self.now.blame v in
    let was = c.loop-line.invariant in
    told_all c.loop-line.from (line_count image) runs c.args.runs.now.items c.loop-line.runs.items was.within
    (λ j after below. either_way (is_falsely_shared image m j) (runs j ≡ None)
    (λ shared.
    let at = line_listed image m c.args.lines.now j c.requires.each shared in
    let less = was.passed at.0 (omega (arith, at.1, c.loop-line-test.false)) in
    absurd (omega (arith, less, at.2, after)))
    (λ isnt. no_line image c.args.self.now.scene.entries.now c.args.self.now.blame v j isnt)) was.told

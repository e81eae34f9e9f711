use Rattle.std.proofs.Common.{◌≡◌, ◌<◌, ◌≤◌, ◌++◌, ℕ, List, None, Option, length, slice_index, sym, ap, ◌∙◌, inl, inr, arith}
use Rattle.std.proofs.lemmas.Bool.{cases_eq}
use Rattle.std.proofs.lemmas.List.{append-nil}
use Rattle.spec_history.specs.Conflict.{is_shared}
use Rattle.conflicts.specs.Parties.{meeting_in}
use Rattle.conflicts.specs.Violated.{violation_in}
use Rattle.conflicts.proofs.Blaming.{either_way}
use Rattle.conflict_findings.specs.declared.run.Run.{Run}
use Rattle.conflict_findings.specs.Runs.{shared_run}
use Rattle.conflict_findings.proofs.RunsBelow.{none_below, told_all, told_past}
use Rattle.conflict_findings.proofs.OneRun.{unshared}
use Rattle.conflict_findings.proofs.Searching.{not_between, shared_listed}
use Rattle.conflict_findings.proofs.run.Told.push_shared.Goals as goal
use Rattle.conflict_findings.proofs.run.Told.push_shared.Goals.{then-addr-from+in_ok-from, else-addr-from}

pub loop-addr-init : goal.loop-addr-init
loop-addr-init c =
    let runs : ℕ → Option Run = shared_run c.args.self.now.scene.flat.now.image c.args.self.now.scene.entries.now c.args.self.now.blame (violation_in c.args.self.now.scene.flat.now c.args.self.now.violated) in
    let items = c.args.runs.now.items in record {
      within = omega arith;
      told = sym (ap (λ (xs : List Run). items ++ xs) (none_below runs) ∙ append-nil items);
      passed = λ k below. absurd (omega (arith, below));
    }

pub loop-addr-preserved : goal.loop-addr-preserved
loop-addr-preserved c =
    let v = violation_in c.args.self.now.scene.flat.now c.args.self.now.violated in
    let m = meeting_in c.args.self.now.scene.flat.now c.args.self.now.violated.parties in
    let runs : ℕ → Option Run = shared_run c.args.self.now.scene.flat.now.image c.args.self.now.scene.entries.now c.args.self.now.blame v in
    let addresses = c.args.read.now in
    let index = c.loop-addr.addr-index in
    let found = slice_index addresses index in
    let inside : index < length addresses = omega (arith, c.loop-addr-test.true) in
    let from = c.loop-addr.from in
    let was = c.loop-addr.invariant in
    elim c.if-addr-from.branch [
      | then-addr-from+in_ok-from w ↦
          let next = w.in_ok-from.ensures.next in
          let none : (j : ℕ) → from ≤ j → j < found → runs j ≡ None = λ j after before. either_way (is_shared m j) (runs j ≡ None)
          (λ shared.
          let at = shared_listed m addresses j c.requires.read.each shared in
          absurd (not_between addresses index from j at.0 c.requires.read.ordered inside was.passed after before at.1 at.2))
          (λ isnt. unshared c.args.self.now.scene.flat.now.image c.args.self.now.scene.entries.now c.args.self.now.blame v j isnt) in record {
            within = rw w.from-is next.1;
            told = rw (w.runs-is, w.from-is)
                (told_past from found _ runs c.args.runs.now.items c.loop-addr.runs.items _ w.if-addr-from.true none was.told w.in_ok-from.ensures.told next.0 w.in_ok-from.ensures.none);
            passed = rw w.from-is (λ k below. elim (cases_eq k index) [
              | inl e ↦ omega (arith, ap (slice_index addresses) e, next.0)
              | inr other ↦ let less = was.passed k (omega (arith, below, other)) in omega (arith, less, w.if-addr-from.true, next.0)
            ]);
          }
      | else-addr-from w ↦ record {
        within = rw w.from-is was.within;
        told = rw (w.runs-is, w.from-is) was.told;
        passed = rw w.from-is (λ k below. elim (cases_eq k index) [
          | inl e ↦ omega (arith, ap (slice_index addresses) e, w.if-addr-from.false)
          | inr other ↦ was.passed k (omega (arith, below, other))
        ]);
      }
    ]

pub returns : goal.returns
returns c =
    let v = violation_in c.args.self.now.scene.flat.now c.args.self.now.violated in
    let m = meeting_in c.args.self.now.scene.flat.now c.args.self.now.violated.parties in
    let runs : ℕ → Option Run = shared_run c.args.self.now.scene.flat.now.image c.args.self.now.scene.entries.now c.args.self.now.blame v in
    let was = c.loop-addr.invariant in
    told_all c.loop-addr.from c.args.self.now.scene.flat.now.image.size runs c.args.runs.now.items c.loop-addr.runs.items was.within
    (λ j after below. either_way (is_shared m j) (runs j ≡ None)
    (λ shared.
    let at = shared_listed m c.args.read.now j c.requires.read.each shared in
    let less = was.passed at.0 (omega (arith, at.1, c.loop-addr-test.false)) in
    absurd (omega (arith, less, at.2, after)))
    (λ isnt. unshared c.args.self.now.scene.flat.now.image c.args.self.now.scene.entries.now c.args.self.now.blame v j isnt)) was.told

use Rattle.std.proofs.Common.{◌≡◌, ◌+◌, length, slice_get, Some, ap, sym, ◌∙◌, subst, ltb-true}
use Rattle.std.proofs.lemmas.Option.{slice_get-get_or}
use Rattle.conflict_findings.specs.declared.numbers.Numbers.{Numbers}
use Rattle.conflict_findings.specs.Numbers.{AreNumbers}
use Rattle.conflict_findings.proofs.Noting.{none_noted, run_noted}
use Rattle.conflict_findings.proofs.numbers.Numbers.note.Goals as goal
use Rattle.conflict_findings.proofs.numbers.Numbers.note.Goals.{in-Some-begun_by+in_ok-insert, in_default-begun_by}

pub returns-clause-known : goal.returns-clause-known
returns-clause-known c =
    let entries = c.args.entries.now in
    let old = c.args.self.now in
    let entry = c.in-Some.entry.now in
    let looked = c.in-Some.ensures.lookup in
    let there : slice_get entries old.place ≡ Some entry = slice_get-get_or entries old.place entry (ltb-true old.place (length entries) (sym looked.0)) ∙ ap Some (sym looked.1) in
    let further : Numbers → Numbers = λ n. record { place = n.place + 1; runs = n.runs } in
    elim c.match-begun_by.branch [
      | in-Some-begun_by+in_ok-insert w ↦
          subst (λ n. AreNumbers entries (further n)) (sym w.self-is)
          (run_noted entries old.place w.in-Some-begun_by.run' entry old.runs w.insert.new.self there w.in-Some-begun_by.ensures c.requires w.in_ok-insert.ensures.updates)
      | in_default-begun_by w ↦
          subst (λ n. AreNumbers entries (further n)) (sym w.self-is)
          (none_noted entries old.place entry old.runs there w.in_default-begun_by.ensures c.requires)
    ]

use Rattle.std.proofs.Common.{◌∙◌, sym, arith}
use Rattle.conflict_findings.specs.declared.ended.Ended.{Ended}
use Rattle.conflict_findings.proofs.Tallying.{all_counted, endings_add_up}
use Rattle.conflict_findings.proofs.end_laws.endings_make_up_all.Goals as goal

pub returns-clause-count : goal.returns-clause-count
returns-clause-count c ended = sym (all_counted ended) ∙ endings_add_up (λ (e : Ended). 1) ended

pub returns-clause-done : goal.returns-clause-done
returns-clause-done c ended running = omega (arith, endings_add_up (λ (e : Ended). e.done) ended)

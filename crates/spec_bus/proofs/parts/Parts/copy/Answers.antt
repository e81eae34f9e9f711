use Rattle.std.proofs.Common.{◌∙◌, ◌≤◌, length, sym, ap, arith}
use Rattle.std.proofs.lemmas.Bool.Decides.{nat_tests}
use Rattle.bus_states.specs.Bus.{CoreState}
use Rattle.spec_bus.proofs.Bytes.{zeros}
use Rattle.spec_bus.proofs.CoreCopies.{core_past}
use Rattle.spec_bus.proofs.parts.Parts.copy.Goals as goal

pub returns-in-None-clause-cells : goal.returns-in-None-clause-cells
returns-in-None-clause-cells c x =
    let none = c.in-None.ensures.lookup in
    let long = ap (λ xs. length xs) c.deref.ensures.value in
    let past : length c.args.self.now.cores.items ≤ c.args.k = grind (arith, nat_tests) in
    zeros x ∙ ap (λ (core : CoreState). (core.copy c.args.addr).cell x) (sym (core_past c.args.self.now.cores.items c.args.k past))

use Rattle.std.proofs.Common.{◌<◌, ◌&&◌, not, nat_lt, ℕ, Bool, Option, unwrap_or, sym, ap, ◌∙◌, arith, le-ltb, lt-ltb}
use Rattle.spec_history.proofs.CodedCores.CoreStates.{also_at}
use Rattle.conflicts.specs.Blame.{is_alike}
use Rattle.conflicts.specs.Violated.{violation_in}
use Rattle.spec_history.proofs.Searches.Tests.{first_at, first_none}
use Rattle.conflicts.proofs.alike.BlamedByte.range_end.Goals as goal

pub loop-addr-init : goal.loop-addr-init
loop-addr-init c k before =
    let fails = not (is_alike c.args.self.now.scene.flat.now.image c.args.self.now.scene.entries.now (violation_in c.args.self.now.scene.flat.now c.args.self.now.violated) c.args.self.now.load c.args.self.now.store c.args.self.now.byte k) in
    ap (λ b. b && fails) (le-ltb c.args.self.now.byte k (omega (arith, before)))

pub returns-then-not-is_alike-clause-end : goal.returns-then-not-is_alike-clause-end
returns-then-not-is_alike-clause-end c =
    let alike : ℕ → Bool = is_alike c.args.self.now.scene.flat.now.image c.args.self.now.scene.entries.now (violation_in c.args.self.now.scene.flat.now c.args.self.now.violated) c.args.self.now.load c.args.self.now.store c.args.self.now.byte in
    let ends : ℕ → Bool = λ a. nat_lt c.args.self.now.byte a && not (alike a) in
    let size = c.args.self.now.scene.flat.now.image.size in
    let within : c.loop-addr.addr < size = omega (arith, c.loop-addr-test.true, (rw c.image.ensures at c.size-size.ensures.size)) in
    let above : c.args.self.now.byte < c.loop-addr.addr = omega arith in
    let fails = ap not (sym c.is_alike.ensures ∙ c.if-not-is_alike.true) in
    sym (ap (λ (o : Option ℕ). unwrap_or o size) (first_at size ends c.loop-addr.addr within (ap (λ b. b && not (alike c.loop-addr.addr)) (lt-ltb c.args.self.now.byte c.loop-addr.addr above) ∙ fails) c.loop-addr.invariant))

pub loop-addr-preserved : goal.loop-addr-preserved
loop-addr-preserved c =
    let alike : ℕ → Bool = is_alike c.args.self.now.scene.flat.now.image c.args.self.now.scene.entries.now (violation_in c.args.self.now.scene.flat.now c.args.self.now.violated) c.args.self.now.load c.args.self.now.store c.args.self.now.byte in
    let ends : ℕ → Bool = λ a. nat_lt c.args.self.now.byte a && not (alike a) in
    let above : c.args.self.now.byte < c.loop-addr.addr = omega arith in
    also_at ends c.loop-addr.addr c.loop-addr.invariant
    (ap (λ b. b && not (alike c.loop-addr.addr)) (lt-ltb c.args.self.now.byte c.loop-addr.addr above) ∙ ap not (sym c.is_alike.ensures ∙ c.if-not-is_alike.false))

pub returns-clause-end : goal.returns-clause-end
returns-clause-end c =
    let alike : ℕ → Bool = is_alike c.args.self.now.scene.flat.now.image c.args.self.now.scene.entries.now (violation_in c.args.self.now.scene.flat.now c.args.self.now.violated) c.args.self.now.load c.args.self.now.store c.args.self.now.byte in
    let ends : ℕ → Bool = λ a. nat_lt c.args.self.now.byte a && not (alike a) in
    let size = c.args.self.now.scene.flat.now.image.size in
    (rw c.image.ensures at c.size-size.ensures.size)
    ∙ sym (ap (λ (o : Option ℕ). unwrap_or o size) (first_none size ends (λ k below. c.loop-addr.invariant k (omega (arith, below, c.loop-addr-test.false, (rw c.image.ensures at c.size-size.ensures.size))))))

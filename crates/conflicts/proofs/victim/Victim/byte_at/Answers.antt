use Rattle.std.proofs.Common.{◌≡◌, ◌<◌, ◌≤◌, ℕ, Bool, false, sym, ap, ◌∙◌, inl, inr, arith}
use Rattle.std.proofs.lemmas.Bool.{cases_eq, false_from_ne_true}
use Rattle.conflicts.specs.Attempts.{core_does, loads_byte}
use Rattle.conflicts.specs.Blame.{is_read_at}
use Rattle.conflicts.specs.Violated.{violation_in}
use Rattle.spec_history.proofs.Searches.Tests.{first_at, first_none}
use Rattle.conflicts.proofs.Blaming.{either_way, unloaded}
use Rattle.conflicts.proofs.victim.Victim.byte_at.Goals as goal

pub loop-addr-init : goal.loop-addr-init
loop-addr-init c a before below =
    unloaded c.args.self.now.scene.flat.now.image c.args.self.now.scene.entries.now (violation_in c.args.self.now.scene.flat.now c.args.self.now.violated) c.args.load a
    (false_from_ne_true (core_does c.args.self.now.scene.entries.now c.args.self.now.violated.parties.victim c.args.load (loads_byte a))
    (λ loads. omega (arith, before, ((rw c.image.ensures at c.loaded_at-first.ensures.each) a loads below).0)))

pub returns-then-is_read_at-clause-byte : goal.returns-then-is_read_at-clause-byte
returns-then-is_read_at-clause-byte c =
    let within : c.loop-addr.addr < c.args.self.now.scene.flat.now.image.size = omega (arith, c.loop-addr-test.true, (rw c.image.ensures at c.loaded_at-first.ensures.within)) in
    sym (first_at c.args.self.now.scene.flat.now.image.size (is_read_at c.args.self.now.scene.flat.now.image c.args.self.now.scene.entries.now (violation_in c.args.self.now.scene.flat.now c.args.self.now.violated) c.args.load) c.loop-addr.addr within
    (sym c.is_read_at.ensures ∙ c.if-is_read_at.true) (λ a before. c.loop-addr.invariant a before (omega (arith, before, within))))

pub loop-addr-preserved : goal.loop-addr-preserved
loop-addr-preserved c a before below =
    let test = is_read_at c.args.self.now.scene.flat.now.image c.args.self.now.scene.entries.now (violation_in c.args.self.now.scene.flat.now c.args.self.now.violated) c.args.load in
    elim (cases_eq a c.loop-addr.addr) [
      | inl e ↦ ap test e ∙ (sym c.is_read_at.ensures ∙ c.if-is_read_at.false)
      | inr other ↦ c.loop-addr.invariant a (omega (arith, before, other)) below
    ]

pub returns-clause-byte : goal.returns-clause-byte
returns-clause-byte c =
    let v = violation_in c.args.self.now.scene.flat.now c.args.self.now.violated in
    let test : ℕ → Bool = is_read_at c.args.self.now.scene.flat.now.image c.args.self.now.scene.entries.now v c.args.load in
    let all : c.loaded_at-first.result.1 ≤ c.loop-addr.addr = c.loop-addr-test.false in
    sym (first_none c.args.self.now.scene.flat.now.image.size test (λ a below. either_way (core_does c.args.self.now.scene.entries.now v.victim c.args.load (loads_byte a)) (test a ≡ false)
    (λ loads. c.loop-addr.invariant a (omega (arith, all, ((rw c.image.ensures at c.loaded_at-first.ensures.each) a loads below).1)) below)
    (λ is. unloaded c.args.self.now.scene.flat.now.image c.args.self.now.scene.entries.now v c.args.load a is)))

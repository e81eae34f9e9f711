use Rattle.std.proofs.Common.{rules, ◌≡◌, ◌<◌, ◌≤◌, length, refl, sym, ap, ◌∙◌, arith}
use Rattle.std.specs.Vec.{with_items}
use Rattle.spec_history.specs.Effect.{hurt_at}
use Rattle.spec_history.specs.Cores.{core_of}
use Rattle.spec_history.proofs.CodedCores.Parts.{whole_items}
use Rattle.spec_history.proofs.CodedCores.Changing.{changing_start, changing_more, changed_becomes}
use Rattle.spec_history.proofs.machine.Machine.hurt.Goals as goal

pub loop-core-init : goal.loop-core-init
loop-core-init c = rw c.deref_mut-core-items.ensures.value (changing_start (hurt_at c.args.epoch) c.args.self.now.image c.args.self.now.cores.items c.requires.cores)

pub loop-core-preserved : goal.loop-core-preserved
loop-core-preserved c =
    let image = c.args.self.now.image in
    let below : c.loop-core.core-index < length c.loop-core.core-items = omega (arith, c.loop-core.auto.core-items, c.loop-core-test.true) in
    changing_more (hurt_at c.args.epoch) image c.loop-core.core-index c.args.self.now.cores.items c.loop-core.core-items c.core-item.result c.hurt_at.new.self below c.core-item.is
    (c.hurt_at.ensures.core ∙ ap (λ l. hurt_at c.args.epoch (core_of l)) (sym c.core-item.is)) (λ fit. c.hurt_at.ensures.fit image (rw c.core-item.is at fit)) c.loop-core.invariant

pub returns : goal.returns
returns c =
    let m = c.args.self.now in
    let xs = c.loop-core.core-items in
    let all : length xs ≤ c.loop-core.core-index = omega (arith, c.loop-core.auto.core-items, c.loop-core-test.false) in
    let count : m.cores.len ≡ length m.cores.items = search rules in
    let items = sym (whole_items m.cores.items xs m.cores.len count c.loop-core.invariant.long) in
    changed_becomes (hurt_at c.args.epoch) m (record m { cores = with_items m.cores xs }) c.loop-core.core-index refl c.requires refl refl refl refl refl refl
    (rw (← items) all) (rw (← items) c.loop-core.invariant)

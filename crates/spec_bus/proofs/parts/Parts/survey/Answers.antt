use Rattle.std.proofs.Common.{◌≡◌, ℕ, ◌||◌, ◌&&◌, ◌==◌, refl, arith}
use Rattle.violations.specs.CoreSet.{is_in}
use Rattle.bus_states.specs.Messages.{message_of}
use Rattle.spec_bus.specs.Parts.{bus_in}
use Rattle.spec_bus.proofs.CoreCopies.{core_past}
use Rattle.spec_bus.proofs.Surveys.{surveyed_more, surveyed_none, surveyed_all}
use Rattle.spec_bus.proofs.parts.Parts.survey.Goals as goal
use Rattle.spec_bus.proofs.parts.Parts.survey.Goals.{then-effect, else-effect, then-effect-2, else-effect-2, then-effect-3, else-effect-3}

pub loop-k-init : goal.loop-k-init
loop-k-init c =
    surveyed_none (bus_in c.args.self.now) (message_of (bus_in c.args.self.now) c.args.notice c.args.core c.args.addr) (is_in c.none-hurt.result) c.none-hurt.ensures

pub loop-k-preserved : goal.loop-k-preserved
loop-k-preserved c =
    let busy : c.if-effect-2.busy ≡ (c.effect-effect.result.holds_up || c.loop-k.busy) =
    elim c.if-effect-2.branch [ then-effect-2 w ↦ rw (w.busy-is, w.if-effect-2.true) refl | else-effect-2 w ↦ rw (w.busy-is, w.if-effect-2.false) refl ] in
    let shared : c.if-effect-3.shared ≡ (c.effect-effect.result.remains || c.loop-k.shared) =
    elim c.if-effect-3.branch [ then-effect-3 w ↦ rw (w.shared-is, w.if-effect-3.true) refl | else-effect-3 w ↦ rw (w.shared-is, w.if-effect-3.false) refl ] in
    let hurt : (k : ℕ) → is_in c.if-effect.hurt k ≡ ((c.effect-effect.result.violated && (k == c.loop-k.k)) || is_in c.loop-k.hurt k) =
    elim c.if-effect.branch [
      | then-effect w ↦ λ k. rw (w.hurt-is, w.if-effect.true) (w.insert.ensures k)
      | else-effect w ↦ λ k. rw (w.hurt-is, w.if-effect.false) refl
    ] in
    rw (busy, shared)
    (surveyed_more (bus_in c.args.self.now) (message_of (bus_in c.args.self.now) c.args.notice c.args.core c.args.addr) c.loop-k.k
    (is_in c.loop-k.hurt) (is_in c.if-effect.hurt) c.loop-k.busy c.loop-k.shared
    c.effect-effect.result.violated c.effect-effect.result.holds_up c.effect-effect.result.remains
    c.loop-k.invariant hurt c.effect-effect.ensures.violated c.effect-effect.ensures.holds_up c.effect-effect.ensures.remains)

pub returns-clause-hurt : goal.returns-clause-hurt
returns-clause-hurt c =
    surveyed_all (bus_in c.args.self.now) (message_of (bus_in c.args.self.now) c.args.notice c.args.core c.args.addr) c.loop-k.k
    (is_in c.loop-k.hurt) c.loop-k.busy c.loop-k.shared c.loop-k.invariant (core_past c.args.self.now.cores.items) (omega arith)

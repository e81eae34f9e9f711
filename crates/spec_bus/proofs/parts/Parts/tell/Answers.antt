use Rattle.std.proofs.Common.{◌∙◌, ◌<◌, ◌≤◌, length, refl, ap, subst, arith}
use Rattle.bus_states.specs.Bus.{CoreState}
use Rattle.spec_bus.specs.Parts.{bus_in, message_in}
use Rattle.spec_bus.proofs.CoreCopies.{core_set, state_get}
use Rattle.spec_bus.proofs.Tellings.{may_hear, next_core, next_later, heard_by, heard_is, heard_more, heard_skip, heard_all}
use Rattle.spec_bus.proofs.parts.Parts.tell.Goals as goal
use Rattle.spec_bus.proofs.parts.Parts.tell.Goals.{then-k-sent, else-k-sent}

pub hear-requires-clause-may_hear : goal.hear-requires-clause-may_hear
hear-requires-clause-may_hear c =
    let there : c.loop-k.k < length c.loop-k.self.cores.items = omega (arith, c.loop-k.invariant.count) in
    may_hear (bus_in c.args.self.now) (message_in c.args.sent.now) c.loop-k.k _ c.is_later-later.result c.has-violated.result
    c.requires.at.coherent c.requires.at.line c.requires.may.free (omega arith) c.if-k-sent.true
    (state_get c.loop-k.self.cores.items c.loop-k.k c.index_mut.result.now there c.index_mut.ensures.value
    ∙ next_core c.loop-k.k c.args.self.now c.loop-k.self (message_in c.args.sent.now) c.loop-k.invariant)
    (c.is_later-later.ensures ∙ next_later c.loop-k.k c.args.self.now c.loop-k.self (message_in c.args.sent.now) c.loop-k.invariant)
    (c.has-violated.ensures ∙ c.requires.may.hurts c.loop-k.k)

pub hear-requires-clause-past : goal.hear-requires-clause-past
hear-requires-clause-past c x le =
    let there : c.loop-k.k < length c.loop-k.self.cores.items = omega (arith, c.loop-k.invariant.count) in
    let inside : c.loop-k.k < length c.args.self.now.cores.items = omega arith in
    let long =
    ap (λ (core : CoreState). core.line_length)
    (state_get c.loop-k.self.cores.items c.loop-k.k c.index_mut.result.now there c.index_mut.ensures.value
    ∙ next_core c.loop-k.k c.args.self.now c.loop-k.self (message_in c.args.sent.now) c.loop-k.invariant)
    ∙ c.requires.at.coherent.lengths c.loop-k.k inside in
    c.requires.past x (subst (λ n. n ≤ x) long le)

pub loop-k-preserved : goal.loop-k-preserved
loop-k-preserved c =
    let message = message_in c.args.sent.now in
    let there : c.loop-k.k < length c.loop-k.self.cores.items = omega (arith, c.loop-k.invariant.count) in
    elim c.if-k-sent.branch [
      | then-k-sent w ↦
          let set =
          core_set c.loop-k.self.cores.items c.loop-k.k w.index_mut.result.now w.hear.new.self (heard_by message w.is_later-later.result w.has-violated.result)
          there w.index_mut.ensures.value w.hear.ensures in
          rw w.self-is
          (heard_more c.loop-k.k c.args.self.now c.loop-k.self _ message _ c.loop-k.invariant w.if-k-sent.true
          set.count set.others refl refl refl set.core
          (heard_is (bus_in c.args.self.now) message c.loop-k.k _ w.is_later-later.result w.has-violated.result
          (next_core c.loop-k.k c.args.self.now c.loop-k.self message c.loop-k.invariant)
          (w.is_later-later.ensures ∙ next_later c.loop-k.k c.args.self.now c.loop-k.self message c.loop-k.invariant)
          (w.has-violated.ensures ∙ c.requires.may.hurts c.loop-k.k)))
      | else-k-sent w ↦ rw w.self-is (heard_skip c.loop-k.k c.args.self.now c.loop-k.self message c.loop-k.invariant w.if-k-sent.false)
    ]

pub returns-clause-told : goal.returns-clause-told
returns-clause-told c =
    heard_all c.loop-k.k c.args.self.now c.loop-k.self (message_in c.args.sent.now) c.loop-k.invariant (omega arith) c.requires.at.coherent

use Rattle.std.proofs.Common.{◌∙◌, ◌<◌, ◌≤◌, slice_get, ap, sym, subst, arith}
use Rattle.violations.specs.CoreSet.{is_in}
use Rattle.violations.specs.View.{Shape}
use Rattle.bus_states.specs.Bus.{CoreState}
use Rattle.bus_states.specs.Messages.{message_of}
use Rattle.bus_states.specs.declared.notice.Notice.TheVariants.{Publish}
use Rattle.bus_states.proofs.Heard.{absent-unviolated}
use Rattle.spec_bus.specs.Parts.{bus_in}
use Rattle.bus_states.specs.Straight.{settled_core}
use Rattle.spec_bus.proofs.CoreCopies.{core_set}
use Rattle.spec_bus.proofs.PublishLoop.{publishing_init, publishing_more, publishing_less, publishing_bus, publishing_hurt, first_there, lines_settled}
use Rattle.spec_bus.proofs.parts.Parts.publish.Goals as goal

pub loop-addr-init : goal.loop-addr-init
loop-addr-init c = publishing_init (bus_in c.args.self.now) c.args.core (is_in c.none-hurt.result) c.requires.coherent c.none-hurt.ensures

pub publish_line-requires-clause-listed : goal.publish_line-requires-clause-listed
publish_line-requires-clause-listed c =
    first_there ((bus_in c.loop-addr.self).core c.args.core).buffer.lines c.in-Some.addr
    (ap (λ (s : CoreState). slice_get s.buffer.lines 0) (sym c.core.ensures.state) ∙ sym c.in-Some.ensures)

pub union-hurt-requires : goal.union-hurt-requires
union-hurt-requires c k past =
    c.publish_line.ensures.hurt k
    ∙ absent-unviolated (bus_in c.loop-addr.self) (message_of (bus_in c.loop-addr.self) Publish c.args.core c.in-Some.addr) k
    (c.loop-addr.invariant.coherent.absent k (subst (λ (s : Shape). s.cores ≤ k) (sym c.loop-addr.invariant.shape) (omega (arith, past, c.args.self.now.few))))

pub loop-addr-smaller : goal.loop-addr-smaller
loop-addr-smaller c =
    publishing_less (bus_in c.loop-addr.self) (bus_in c.publish_line.new.self) c.args.core c.in-Some.addr c.loop-addr.invariant.coherent
    (subst (λ (s : Shape). c.args.core < s.cores) (sym c.loop-addr.invariant.shape) c.requires.there)
    (ap (λ (s : CoreState). slice_get s.buffer.lines 0) (sym c.core.ensures.state) ∙ sym c.in-Some.ensures) c.publish_line.ensures.bus

pub loop-addr-preserved : goal.loop-addr-preserved
loop-addr-preserved c =
    publishing_more (bus_in c.args.self.now) (bus_in c.loop-addr.self) (bus_in c.publish_line.new.self) c.args.core c.in-Some.addr
    (is_in c.loop-addr.hurt) (is_in c.publish_line.result) (is_in c.union-hurt.result)
    (subst (λ (s : Shape). c.args.core < s.cores) (sym c.loop-addr.invariant.shape) c.requires.there)
    (ap (λ (s : CoreState). slice_get s.buffer.lines 0) (sym c.core.ensures.state) ∙ sym c.in-Some.ensures)
    c.loop-addr.invariant c.publish_line.ensures.hurt c.union-hurt.ensures c.publish_line.ensures.bus

pub returns-clause-bus : goal.returns-clause-bus
returns-clause-bus c =
    let there = subst (λ (s : Shape). c.args.core < s.cores) (sym c.loop-addr.invariant.shape) c.requires.there in
    let set = core_set c.loop-addr.self.cores.items c.args.core c.index_mut.result.now c.settle.new.self settled_core there c.index_mut.ensures.value c.settle.ensures in
    lines_settled c.args.self.now c.loop-addr.self _ c.args.core
    (publishing_bus (bus_in c.args.self.now) (bus_in c.loop-addr.self) c.args.core (is_in c.loop-addr.hurt) c.loop-addr.invariant
    (ap (λ (s : CoreState). slice_get s.buffer.lines 0) (sym c.core.ensures.state) ∙ sym c.at.ensures ∙ c.in_default.is))
    set.count set.core

pub returns-clause-hurt : goal.returns-clause-hurt
returns-clause-hurt c =
    publishing_hurt (bus_in c.args.self.now) (bus_in c.loop-addr.self) c.args.core (is_in c.loop-addr.hurt) c.loop-addr.invariant
    (ap (λ (s : CoreState). slice_get s.buffer.lines 0) (sym c.core.ensures.state) ∙ sym c.at.ensures ∙ c.in_default.is)

use Rattle.std.proofs.Common.{◌≡◌, ◌<◌, ◌+◌, ◌∙◌, true, false, is_some, min, slice_index, sym, ap, subst, arith}
use Rattle.spec_history.specs.View.{state_in}
use Rattle.spec_history.specs.Conflict.{read_bytes}
use Rattle.conflicts.specs.Later.{was_read}
use Rattle.conflicts.proofs.Signs.{IsSoonest, listed_by, none_sooner, soonest, sooner, unread_next}
use Rattle.conflicts.proofs.later.first_sign.Goals as goal
use Rattle.conflicts.proofs.later.first_sign.Goals.{then-is_some, else-is_some}

pub loop-addr-init : goal.loop-addr-init
loop-addr-init c = record {
  most = omega arith;
  soonest = λ entries core ahead past. none_sooner _ _ _ _ _ _ _;
}

pub loop-addr-preserved : goal.loop-addr-preserved
loop-addr-preserved c =
    let size = c.args.flat.now.image.size in
    let read = was_read (state_in c.args.flat.now) c.args.victim in
    let addresses = c.read_addresses-addr-items.result.now in
    let index = c.loop-addr.addr-index in
    let end = c.args.stores.now.end in
    let was = c.loop-addr.invariant in
    let within : slice_index addresses index < size = c.read_addresses-addr-items.ensures.within index c.loop-addr-test.true in
    elim c.if-is_some.branch [
      | then-is_some w ↦
          let same : c.if-is_some.first ≡ min c.loop-addr.first w.next.result = cc in
          let is : read (slice_index addresses index) ≡ true = ap is_some (sym c.outside.ensures.byte) ∙ (sym c.is_some.ensures ∙ w.if-is_some.true) in record {
            most = omega (arith, same, was.most);
            soonest = λ entries core ahead past. subst (IsSoonest size entries core read addresses c.args.after end (index + 1)) (sym same)
                (sooner size entries core read addresses c.args.after end index c.loop-addr.first w.next.result is within (w.next.ensures.next size entries core ahead past within)
                (was.soonest entries core ahead past));
          }
      | else-is_some w ↦
          let fails : read (slice_index addresses index) ≡ false = ap is_some (sym c.outside.ensures.byte) ∙ (sym c.is_some.ensures ∙ w.if-is_some.false) in record {
            most = omega (arith, w.first-is, was.most);
            soonest = λ entries core ahead past. subst (IsSoonest size entries core read addresses c.args.after end (index + 1)) (sym w.first-is)
                (unread_next size entries core read addresses c.args.after end index c.loop-addr.first fails (was.soonest entries core ahead past));
          }
    ]

pub returns-clause-next : goal.returns-clause-next
returns-clause-next c entries core ahead past =
    let s = state_in c.args.flat.now in
    let addresses = c.read_addresses-addr-items.result.now in
    soonest c.args.flat.now.image.size entries core (was_read s c.args.victim) addresses c.args.after c.args.stores.now.end c.loop-addr.addr-index c.loop-addr.first c.loop-addr-test.false
    (listed_by (read_bytes (s.cores c.args.victim)) addresses c.read_addresses-addr-items.ensures.each) (c.loop-addr.invariant.soonest entries core ahead past)

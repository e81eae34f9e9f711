use Rattle.std.proofs.Common.{◌<◌, refl, arith}
use Rattle.conflicts.proofs.Storing.{ends_after, none_stored, stored_more, stored_sorted}
use Rattle.conflicts.proofs.ahead.stores_after.Goals as goal

pub loop-place-init : goal.loop-place-init
loop-place-init c = none_stored _ _ _ _ _ c.new-bytes.ensures.items

pub loop-place-preserved : goal.loop-place-preserved
loop-place-preserved c = stored_more _ _ _ _ c.loop-place.place _ _ (omega arith) c.in_ok-push_stored.ensures c.loop-place.invariant

pub returns : goal.returns
returns c =
    let end = c.next_begin-end.ensures in
    let room : c.args.after < c.next_begin-end.result = ends_after _ _ _ _ c.requires end in (
      refl,
      record {
        end = end;
        stored = stored_sorted _ _ _ _ c.loop-place.place _ _ _ (omega (arith, room, c.loop-place-test.false)) c.sort_unstable.ensures.permutation c.loop-place.invariant;
        ordered = c.sort_unstable.ensures.sorted;
      },
    )

use Rattle.std.proofs.Common.{◌∙◌, Bool, ap, arith}
use Rattle.std.specs.BTreeMap.{get}
use Rattle.std.specs.Ordering.{nat_cmp}
use Rattle.conflicts.specs.Behind.{kept_last}
use Rattle.conflicts.proofs.Storing.{apart_by}
use Rattle.conflicts.proofs.Walking.{ended, none_stored, store_more}
use Rattle.conflicts.proofs.behind.note_stores.Goals as goal

pub loop-addr-init : goal.loop-addr-init
loop-addr-init c = record {
  noted = λ a. none_stored c.args.first c.args.first c.args.place (get nat_cmp c.args.stores.now) a (omega arith);
  empty = λ less. omega arith;
}

pub loop-addr-preserved : goal.loop-addr-preserved
loop-addr-preserved c = record {
  noted = store_more c.args.first c.loop-addr.addr c.args.place (get nat_cmp c.args.stores.now) (get nat_cmp c.loop-addr.stores) (get nat_cmp c.insert.new.self) (omega arith) c.loop-addr.invariant.noted
      c.in_ok-insert.ensures.updates.1 (λ a apart. c.in_ok-insert.ensures.updates.2 a (apart_by c.loop-addr.addr a apart));
  empty = λ less. absurd (omega (arith, less, c.loop-addr-test.true, c.loop-addr.auto.addr));
}

pub returns : goal.returns
returns c a =
    c.loop-addr.invariant.noted a
    ∙ ap (λ (b : Bool). kept_last b (get nat_cmp c.args.stores.now a) c.args.place)
    (ended c.args.first c.args.end c.loop-addr.addr a c.loop-addr.auto.addr-end c.loop-addr-test.false c.loop-addr.invariant.empty)

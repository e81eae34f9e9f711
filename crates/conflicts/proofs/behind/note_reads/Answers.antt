use Rattle.std.proofs.Common.{◌&&◌, ◌∙◌, Bool, is_none, sym, ap, arith}
use Rattle.std.proofs.lemmas.Bool.{and_parts}
use Rattle.std.specs.BTreeMap.{get}
use Rattle.std.specs.Ordering.{nat_cmp}
use Rattle.conflicts.specs.Behind.{kept_first}
use Rattle.conflicts.proofs.Storing.{apart_by}
use Rattle.conflicts.proofs.Walking.{ended, none_read, read_else, read_more}
use Rattle.conflicts.proofs.behind.note_reads.Goals as goal
use Rattle.conflicts.proofs.behind.note_reads.Goals.{then-is_new+in_ok-insert, else-is_new}

pub loop-addr-init : goal.loop-addr-init
loop-addr-init c = record {
  noted = λ a. none_read c.args.first c.args.first c.args.place (get nat_cmp c.args.stores.now) (get nat_cmp c.args.reads.now) a (omega arith);
  empty = λ less. omega arith;
}

pub loop-addr-preserved : goal.loop-addr-preserved
loop-addr-preserved c =
    let stored = get nat_cmp c.args.stores.now in
    let old = get nat_cmp c.args.reads.now in
    let before = get nat_cmp c.loop-addr.reads in
    let addr = c.loop-addr.addr in record {
      noted = elim c.if-is_new.branch [
        | then-is_new+in_ok-insert w ↦
            let both = and_parts (is_none (stored addr)) (is_none (before addr)) (sym c.is_new.ensures ∙ w.if-is_new.true) in
            rw w.reads-is
            (read_more c.args.first addr c.args.place stored old before (get nat_cmp w.insert.new.self) (omega arith) c.loop-addr.invariant.noted both.0 both.1
            w.in_ok-insert.ensures.updates.1 (λ a apart. w.in_ok-insert.ensures.updates.2 a (apart_by addr a apart)))
        | else-is_new w ↦ rw w.reads-is
            (read_else c.args.first addr c.args.place stored old before (omega arith) c.loop-addr.invariant.noted (sym c.is_new.ensures ∙ w.if-is_new.false))
      ];
      empty = λ less. absurd (omega (arith, less, c.loop-addr-test.true, c.loop-addr.auto.addr));
    }

pub returns : goal.returns
returns c a =
    c.loop-addr.invariant.noted a
    ∙ ap (λ (b : Bool). kept_first (b && is_none (get nat_cmp c.args.stores.now a)) (get nat_cmp c.args.reads.now a) c.args.place)
    (ended c.args.first c.args.end c.loop-addr.addr a c.loop-addr.auto.addr-end c.loop-addr-test.false c.loop-addr.invariant.empty)

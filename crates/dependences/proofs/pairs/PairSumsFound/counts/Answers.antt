use Rattle.std.proofs.Common.{refl, sym, ap, length-set, ◌∙◌}
use Rattle.dependences.specs.KeptPairs.{kept_sum}
use Rattle.dependences.proofs.Joining.{as_near, sums_more}
use Rattle.dependences.proofs.Readying.{counted, ready_is, set_same, stands}
use Rattle.dependences.proofs.pairs.PairSumsFound.counts.Goals as goal

pub returns-clause-kept : goal.returns-clause-kept
returns-clause-kept c told list kept one such =
    let ready = c.args.self.now.ready.items in
    let there = c.index_mut-ready.result.now in
    record {
      long = length-set ready c.slot_of.result _ ∙ kept.long;
      each = λ store load. sums_more store load list _ one _ _ _ refl
          (counted ready c.args.self.now.sums one there c.slot_of.result c.counts.new.self kept.long (c.slot_of.ensures.slot ∙ rw (such.stored, such.loaded) refl)
          (stands ready c.slot_of.result there kept.long c.slot_of.ensures.few c.index_mut-ready.ensures.value)
          (rw (such.stored, such.loaded) c.if-ready-store_pc.false) (c.counts.ensures.counted told one such.far such.by) store load)
          (kept.each store load) (kept.each one.store_pc one.load_pc);
    }

pub returns-clause-near : goal.returns-clause-near
returns-clause-near c told list kept =
    let ready = c.args.self.now.ready.items in
    let there = c.index_mut-ready.result.now in
    as_near c.args.store_pc c.args.load_pc list there.sum c.args.distance
    (sym (kept.each c.args.store_pc c.args.load_pc)
    ∙ ready_is ready c.args.self.now.sums c.slot_of.result c.args.store_pc c.args.load_pc there c.slot_of.ensures.slot
    (stands ready c.slot_of.result there kept.long c.slot_of.ensures.few c.index_mut-ready.ensures.value) c.if-ready-store_pc.false)
    (c.counts.ensures.near told)

pub returns-clause-same : goal.returns-clause-same
returns-clause-same c told list kept =
    let ready = c.args.self.now.ready.items in
    let there = c.index_mut-ready.result.now in
    let same = set_same ready c.slot_of.result there (stands ready c.slot_of.result there kept.long c.slot_of.ensures.few c.index_mut-ready.ensures.value) in
    record {
      long = length-set ready c.slot_of.result _ ∙ kept.long;
      each = λ store load. rw (c.counts.ensures.same told) (ap (λ l. kept_sum l c.args.self.now.sums store load) same ∙ kept.each store load);
    }

use Rattle.dependences.proofs.Readying.{counted, not_ready, stands}
use Rattle.dependences.proofs.pairs.PairSums.count_ready.Goals as goal

pub returns-then-ready-one-clause-none : goal.returns-then-ready-one-clause-none
returns-then-ready-one-clause-none c none =
    let x = c.args.one in
    let ready = c.args.self.now.ready.items in
    let one = c.index_mut-ready.result.now in
    not_ready ready c.slot_of.result x.store_pc x.load_pc one c.slot_of.ensures.slot
    (stands ready c.slot_of.result one c.requires.long c.slot_of.ensures.few c.index_mut-ready.ensures.value) c.if-ready-one.true

pub returns-clause-added : goal.returns-clause-added
returns-clause-added c is_so store load =
    let x = c.args.one in
    let ready = c.args.self.now.ready.items in
    let one = c.index_mut-ready.result.now in
    counted ready c.args.self.now.sums x one c.slot_of.result c.count.new.self c.requires.long c.slot_of.ensures.slot
    (stands ready c.slot_of.result one c.requires.long c.slot_of.ensures.few c.index_mut-ready.ensures.value) c.if-ready-one.false c.in_ok-count.ensures store load

use Rattle.std.proofs.Common.{rules, ◌<◌, ◌==◌, nat_lt, length, Some, refl, arith, eqb-true, ltb-true, slice_index}
use Rattle.std.proofs.lemmas.Bool.{and_parts}
use Rattle.spec_history.specs.declared.entry.What.TheVariants.{Start}
use Rattle.spec_history.specs.FlatState.{begun}
use Rattle.spec_history.specs.Machine.{state_of, count_of_cores}
use Rattle.spec_history.proofs.OneEntry.Legal.{legal_entry}
use Rattle.spec_history.proofs.CodedCores.CoreStates.{core_there, idle_state}
use Rattle.spec_history.proofs.CodedCores.Performed.{becomes}
use Rattle.spec_history.proofs.Replay.Replays.{effect-idle}
use Rattle.spec_history.proofs.machine.Machine.start.Goals as goal

pub index_mut-core-requires : goal.index_mut-core-requires
index_mut-core-requires c =
    let m = c.args.self.now in
    let legal = legal_entry m.image (count_of_cores m) (state_of m) _ c.requires.legal in
    let there = and_parts (nat_lt c.args.by (count_of_cores m)) _ legal.there in
    let below = ltb-true _ _ there.0 in search rules

pub overflow_add-self : goal.overflow_add-self
overflow_add-self c =
    let m = c.args.self.now in
    let legal = legal_entry m.image (count_of_cores m) (state_of m) _ c.requires.legal in
    let next = and_parts (c.args.epoch == m.next_epoch) _ legal.next in
    let same = eqb-true _ _ next.0 in
    let within = ltb-true _ _ next.1 in omega (arith, same, within, c.requires.fit.image.epochs_most)

pub returns : goal.returns
returns c =
    let m = c.args.self.now in
    let legal = legal_entry m.image (count_of_cores m) (state_of m) _ c.requires.legal in
    let there = and_parts (nat_lt c.args.by (count_of_cores m)) _ legal.there in
    let below : c.args.by < length m.cores.items = ltb-true _ _ there.0 in
    let idle = idle_state ((state_of m).cores c.args.by) there.1 in
    let at = core_there m.cores.items m.cores.items c.args.by c.index_mut-core.result.now refl below c.index_mut-core.ensures.value in
    becomes m _ c.args.by (Start c.args.epoch) c.begin.new.self (Some (begun m.image c.args.epoch)) (λ a. slice_index m.committed.items a) c.requires.fit below refl refl
    refl (c.begin.ensures.fit (c.requires.fit.cores.each c.args.by c.index_mut-core.result.now at)) c.begin.ensures.core (λ a. refl)
    (effect-idle m.image (state_of m) c.args.by (Start c.args.epoch) idle)

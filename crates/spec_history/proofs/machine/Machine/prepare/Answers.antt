use Rattle.std.proofs.Common.{rules, ◌<◌, length, refl, subst, Result, Ok, Err, OnOk}
use Rattle.spec_history.specs.Machine.{IsInMemory}
use Rattle.spec_history.proofs.CodedCores.Performed.{as_before, room_at}
use Rattle.spec_history.proofs.machine.Machine.prepare.Goals as goal

on_ok : {T E A B : Type 0} (r : Result T E) → OnOk r A → (A → B) → OnOk r B
on_ok (Ok x) a f = f a
on_ok (Err e) a f = tt

pub returns-in-Load-clause-same : goal.returns-in-Load-clause-same
returns-in-Load-clause-same c =
    let m = c.args.self.now in
    let below : c.args.by < length m.cores.items = search rules in
    as_before m _ c.args.by c.index_mut-core.result.now c.reserve_load.new.self c.requires.fit below c.index_mut-core.ensures.value refl refl refl refl refl refl refl
    c.reserve_load.ensures.core (c.reserve_load.ensures.fit m.image (subst (IsInMemory m.image.size) c.in-Load.is c.requires.within).1)

pub returns-in-Load-clause-room : goal.returns-in-Load-clause-room
returns-in-Load-clause-room c =
    let m = c.args.self.now in
    let below : c.args.by < length m.cores.items = search rules in
    rw c.in-Load.is (on_ok c.reserve_load.result c.reserve_load.ensures.room (λ room. room_at m _ c.args.by _ c.reserve_load.new.self below refl room))

pub returns-in-Store-clause-same : goal.returns-in-Store-clause-same
returns-in-Store-clause-same c =
    let m = c.args.self.now in
    let below : c.args.by < length m.cores.items = search rules in
    as_before m _ c.args.by c.index_mut-core.result.now c.reserve_store.new.self c.requires.fit below c.index_mut-core.ensures.value refl refl refl refl refl refl refl
    c.reserve_store.ensures.core (c.reserve_store.ensures.fit m.image (subst (IsInMemory m.image.size) c.in-Store.is c.requires.within).1)

pub returns-in-Store-clause-room : goal.returns-in-Store-clause-room
returns-in-Store-clause-room c =
    let m = c.args.self.now in
    let below : c.args.by < length m.cores.items = search rules in
    rw c.in-Store.is (on_ok c.reserve_store.result c.reserve_store.ensures.room (λ room. room_at m _ c.args.by _ c.reserve_store.new.self below refl room))

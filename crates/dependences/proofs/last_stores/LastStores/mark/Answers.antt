use Rattle.std.proofs.Common.{◌+◌, length, ap, arith}
use Rattle.dependences.specs.declared.byte_stores.StoredBy.{StoredBy}
use Rattle.dependences.specs.KeptStores.{Stores}
use Rattle.dependences.proofs.WholeWords.{long_of, whole_seen}
use Rattle.dependences.proofs.last_stores.LastStores.mark.Goals as goal

pub put-requires : goal.put-requires
put-requires c =
    let long = long_of (λ (by : StoredBy). by.writer) c.self.inside.words c.self.inside.bytes.writers in
    let seen = ap (λ (s : Stores). length s.writers) c.self.view_is in
    record { within = omega (arith, long, seen, c.self.invariant.writers, c.requires.within, c.if-width-eq4.true); kept = (c.new-by.ensures.some, c.new-by.ensures.small) }

pub returns-then-width-eq4 : goal.returns-then-width-eq4
returns-then-width-eq4 c = rw c.if-width-eq4.true
    (whole_seen c.self.inside.words c.put.new.self c.self.inside.bytes c.args.self.now c.args.addr (record { writer = c.args.epoch + 1; step = c.args.step; pc = c.args.pc })
    c.self.invariant c.self.view_is (rw (← c.if-width-eq4.true) c.requires.aligned) (rw (← c.if-width-eq4.true) c.requires.within) (rw (← c.new-by.ensures.is) c.put.ensures.put))

use Rattle.std.proofs.Common.{length, ap, arith}
use Rattle.dependences.specs.declared.byte_stores.StoredBy.{StoredBy}
use Rattle.dependences.specs.KeptStores.{Stores}
use Rattle.dependences.proofs.WholeWords.{byte_seen, long_of}
use Rattle.dependences.proofs.last_stores.LastStores.mark_byte.Goals as goal

pub spread-requires-clause-small : goal.spread-requires-clause-small
spread-requires-clause-small c =
    let long = long_of (λ (by : StoredBy). by.writer) c.self.inside.words c.self.inside.bytes.writers in
    let seen = ap (λ (s : Stores). length s.writers) c.self.view_is in
    omega (arith, long, seen, c.requires.small)

pub spread-requires-clause-within : goal.spread-requires-clause-within
spread-requires-clause-within c =
    let long = long_of (λ (by : StoredBy). by.writer) c.self.inside.words c.self.inside.bytes.writers in
    let seen = ap (λ (s : Stores). length s.writers) c.self.view_is in
    omega (arith, long, seen, c.self.invariant.writers, c.requires.within)

pub returns : goal.returns
returns c = byte_seen c.self.inside.words c.spread.new.words c.self.inside.bytes c.spread.new.bytes c.put.new.self c.args.self.now c.args.byte _ _ _
    c.self.invariant c.spread.ensures.kept c.self.view_is c.requires.within c.spread.ensures.spread c.put.ensures

use Rattle.std.proofs.Common.{length, sym}
use Rattle.std.proofs.lemmas.Bool.{ltb-false}
use Rattle.std.proofs.lemmas.List.{get_or_past}
use Rattle.dependences.specs.KeptBytes.{no_store}
use Rattle.dependences.proofs.WholeWords.{last_beside}
use Rattle.dependences.proofs.byte_stores.ByteStores.at.Goals as goal

pub returns-in-None : goal.returns-in-None
returns-in-None c = rw (← c.self.view_is)
    (last_beside c.self.inside.stores.items c.self.inside.size c.args.byte no_store
    (sym (get_or_past c.self.inside.stores.items c.args.byte no_store (rw (← c.deref.ensures.value) (ltb-false c.args.byte (length c.deref.result.now) (sym c.in-None.ensures.lookup.0))))))

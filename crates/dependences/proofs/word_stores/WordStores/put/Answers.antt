use Rattle.dependences.proofs.WholeWords.{kept_put}
use Rattle.dependences.proofs.word_stores.WordStores.put.Goals as goal

pub returns-clause-put : goal.returns-clause-put
returns-clause-put c = rw (← c.self.view_is)
    (kept_put c.self.inside.words.items c.reach.new.stores.items c.self.inside.count c.args.word c.kept.result c.args.by c.kept.ensures c.reach.ensures.same c.reach.ensures.there)

use Rattle.dependences.proofs.WholeWords.{word_last}
use Rattle.dependences.proofs.last_stores.LastStores.kept_at.Goals as goal

pub returns : goal.returns
returns c = word_last c.self.inside.words c.self.inside.bytes c.args.self.now c.args.addr c.args._width _ c.self.invariant c.self.view_is c.requires.wide c.requires.aligned c.requires.within c.kept_at.ensures

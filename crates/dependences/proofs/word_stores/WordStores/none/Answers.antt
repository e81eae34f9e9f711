use Rattle.std.proofs.Common.{ap, ◌∙◌}
use Rattle.dependences.specs.KeptBytes.{store_at}
use Rattle.dependences.specs.KeptWords.{word_of}
use Rattle.dependences.proofs.WholeWords.{word_there}
use Rattle.dependences.proofs.word_stores.WordStores.none.Goals as goal

pub returns-clause-none : goal.returns-clause-none
returns-clause-none c k = word_there c.in_ok-words.words.items c.args.count k ∙ ap (λ l. word_of (store_at l k)) c.in_ok-words.ensures.items

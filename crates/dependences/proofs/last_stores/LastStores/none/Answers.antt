use Rattle.std.proofs.Common.{◌∙◌}
use Rattle.dependences.specs.declared.byte_stores.StoredBy.{StoredBy}
use Rattle.dependences.proofs.WholeWords.{long_of, none_untouched}
use Rattle.dependences.proofs.last_stores.LastStores.none.Goals as goal

pub returns-clause-long : goal.returns-clause-long
returns-clause-long c =
    let words = c.in_ok-words.words in
    let bytes = c.in_ok-bytes.bytes in
    record {
      writers = long_of (λ (by : StoredBy). by.writer) words bytes.writers ∙ c.in_ok-bytes.ensures.long.writers;
      steps = long_of (λ (by : StoredBy). by.step) words bytes.steps ∙ c.in_ok-bytes.ensures.long.steps;
      pcs = long_of (λ (by : StoredBy). by.pc) words bytes.pcs ∙ c.in_ok-bytes.ensures.long.pcs;
    }

pub returns-clause-none : goal.returns-clause-none
returns-clause-none c = none_untouched (λ (by : StoredBy). by.writer) c.in_ok-words.words c.in_ok-bytes.bytes.writers c.in_ok-words.ensures.none

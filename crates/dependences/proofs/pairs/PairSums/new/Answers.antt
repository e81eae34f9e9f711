use Rattle.std.proofs.Common.{refl, ap, set, length, length-set, ◌∙◌}
use Rattle.std.proofs.lemmas.List.{length-replicate}
use Rattle.dependences.proofs.Readying.{none_ready}
use Rattle.dependences.proofs.pairs.PairSums.new.Goals as goal

pub returns : goal.returns
returns c =
    let other = c.elsewhere.result in
    let first = c.elsewhere-2.result in
    let items = c.in_ok-ready.ensures.items_if_clones_equal (λ y same. same) in
    let ready = set c.in_ok-ready.ready.items 0 first in record {
      long = length-set c.in_ok-ready.ready.items 0 first ∙ (ap length items ∙ length-replicate 256 other);
      each = λ store load. rw (none_ready ready first other store load (ap (λ l. set l 0 first) items) (c.elsewhere-2.ensures.store, c.elsewhere-2.ensures.load) (c.elsewhere.ensures.store, c.elsewhere.ensures.load), c.new.ensures.empty) refl;
    }

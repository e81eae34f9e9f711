use Rattle.std.proofs.Common.{[], slice_index, refl, sym, subst, arith}
use Rattle.dependences.specs.Kept.{IsLastWriter}
use Rattle.dependences.specs.KeptStores.{IsStoredLast}
use Rattle.dependences.proofs.Flowing.{none_before}
use Rattle.dependences.proofs.flow.Flow.none.Goals as goal

pub returns : goal.returns
returns g c =
    let image = c.args.image.now in
    let stores = c.in_ok-stores.stores in
    let none = c.in_ok-stores.ensures.none in
    record {
      found = [];
      list = c.requires;
      stores = record {
        long = rw (← c.size.ensures.size) c.in_ok-stores.ensures.long;
        last = λ a. subst (λ w. IsStoredLast image 0 a w (slice_index stores.steps a) (slice_index stores.pcs a)) (sym (none a)) (λ d step low there. absurd (omega (arith, low)));
        list = none_before image;
      };
      writers = record {
        long = rw (← c.size.ensures.size) c.in_ok-stores.ensures.long.writers;
        writer = λ a. subst (λ w. IsLastWriter image 0 a w) (sym (none a)) (λ d low stores. absurd (omega (arith, low)));
        least = λ k x. let before = x.before in absurd (omega (arith, before));
      };
      later = record { later = tt; least = λ place one at. cc };
      room = refl;
    }

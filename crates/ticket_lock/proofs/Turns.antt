-- For a caller's loop: what a pass has of its own after its turn, and what may be given back.
use Rattle.std.proofs.Common.{◌≡◌, ℕ, ◌<◌, List, [], ◌++◌, ap, ◌∙◌, arith}
use Rattle.std.proofs.lemmas.List.Elements.{filter-append}
use Rattle.ticket_lock.specs.Past.{GrowsBy, is_of, entries_of}
use Rattle.ticket_lock.specs.Known.{Known, mine}
use Rattle.ticket_lock.proofs.Pasts.{own_entries}

module _ {F W : Type 0} where
  -- after its turn a pass has, of its own, what it had, and then all that the turn added
  pub mine-grown : (p : Known F W) (new : List (ℕ × W)) → p.lo < p.hi → (g : GrowsBy p.lo p.seen new) → mine (record p { seen = new }) ≡ mine p ++ g.added
  mine-grown p new some g =
      ap (λ l. entries_of p.lo p.hi l) g.is ∙ (filter-append (is_of p.lo p.hi) p.seen g.added ∙ ap (λ l. mine p ++ l) (own_entries p.lo p.lo p.hi (omega arith) some g.added g.by))

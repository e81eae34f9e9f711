use Rattle.std.proofs.Common.{◌≡◌, ◌==◌, ◌∙◌, is_ok, ap, subst}
use Rattle.std.specs.List.{list_any}
use Rattle.std.specs.List.Sorted.{IsBinarySearchResult}
use Rattle.std.specs.Ordering.{nat_cmp}
use Rattle.even_speed.specs.Holds.{HoldsView}
use Rattle.even_speed.proofs.Finding.{found_any}
use Rattle.even_speed.proofs.holds.Holds.place.Goals as goal

pub returns : goal.returns
returns c =
    let found = subst (λ xs. IsBinarySearchResult (λ y. nat_cmp y c.args.pc) xs c.binary_search.result) c.deref.ensures.value c.binary_search.ensures.position in
    c.is_ok.ensures.value ∙ subst (λ xs. is_ok c.binary_search.result ≡ list_any (λ a. a == c.args.pc) xs) (ap (λ (v : HoldsView). v.places) c.self.view_is) (found_any _ _ _ c.self.invariant.places found)

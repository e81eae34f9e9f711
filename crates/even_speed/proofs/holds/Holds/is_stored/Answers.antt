use Rattle.std.proofs.Common.{◌≡◌, ◌∙◌, false, true, slice_get, subst}
use Rattle.std.specs.List.Sorted.{IsPartitionPoint}
use Rattle.even_speed.specs.Grain.{piece_by}
use Rattle.even_speed.specs.Held.{is_stored}
use Rattle.even_speed.specs.Holds.{HoldsView, holding_of, is_before, is_of}
use Rattle.even_speed.proofs.Finding.{found_stored}
use Rattle.even_speed.proofs.holds.Holds.is_stored.Goals as goal

pub returns : goal.returns
returns c =
    let index = c.count_before-index.result in
    let xs = c.self.inside.stores.items in
    let split = subst (λ l. IsPartitionPoint (λ x. is_before c.args.piece c.args.homefree x ≡ true) (λ x. is_before c.args.piece c.args.homefree x ≡ false) l index) c.as_slice-stores.ensures.value c.count_before-index.ensures in
    let found = found_stored c.self.inside.places.items xs (piece_by c.self.inside.grain) c.args.piece c.args.homefree c.args.epoch index c.self.invariant.stores split in
    subst (λ l. c.is_of.result ≡ is_of c.args.piece c.args.epoch (slice_get l index)) c.as_slice-stores.ensures.value c.is_of.ensures
    ∙ subst (λ (v : HoldsView). is_of c.args.piece c.args.epoch (slice_get xs index) ≡ is_stored (holding_of v) c.args.homefree c.args.epoch c.args.piece) c.self.view_is found

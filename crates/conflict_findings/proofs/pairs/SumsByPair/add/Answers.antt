use Rattle.std.proofs.Common.{◌∙◌, List, ap, slice_get, sym}
use Rattle.conflict_findings.specs.declared.pair_sums.PairSum.{PairSum}
use Rattle.conflict_findings.specs.Pairs.{pairs_in}
use Rattle.conflict_findings.specs.PairSums.{pair_sum}
use Rattle.conflict_findings.proofs.BothRoles.{no_room}
use Rattle.conflict_findings.proofs.Pairing.{each_begun, each_raised, each_without, own_has, placed_begun, placed_raised, placed_without}
use Rattle.conflict_findings.proofs.Placing.{read_placed}
use Rattle.conflict_findings.proofs.pairs.SumsByPair.add.Goals as goal

pub raise-requires : goal.raise-requires
raise-requires c =
    let rs = c.requires.0 in
    let was = c.requires.1 in
    let pair = c.in-Some.pair in
    let place = c.in-Some-place_of.place in
    (rs, pair, ap (λ (xs : List PairSum). slice_get xs place) was.each ∙ read_placed (pair_sum rs) pair (pairs_in rs) place (sym (c.in-Some-place_of.ensures ∙ was.placed pair)), c.requires.2)

pub begin-requires-clause-room : goal.begin-requires-clause-room
begin-requires-clause-room c = no_room c.requires.0 c.args.rollback.now.lost c.requires.2

pub returns-in_default : goal.returns-in_default
returns-in_default c rs was = record {
  each = each_without rs c.args.rollback.now _ c.in_default.is was.each;
  placed = λ q. placed_without rs c.args.rollback.now q _ c.in_default.is (was.placed q);
}

pub returns-in-Some-place_of : goal.returns-in-Some-place_of
returns-in-Some-place_of c rs was =
    let r = c.args.rollback.now in
    let pair = c.in-Some.pair in
    let place = c.in-Some-place_of.place in
    let is = c.in-Some.is in
    let there = sym (c.in-Some-place_of.ensures ∙ was.placed pair) in
    let read = ap (λ (xs : List PairSum). slice_get xs place) was.each ∙ read_placed (pair_sum rs) pair (pairs_in rs) place there in record {
      each = each_raised rs r pair place c.args.self.now.sums.items _ is there was.each (c.raise.ensures rs pair read (own_has r.pair pair is));
      placed = λ q. placed_raised rs r pair q place _ is there (was.placed q);
    }

pub returns-in_ok-begin-in-None : goal.returns-in_ok-begin-in-None
returns-in_ok-begin-in-None c rs was =
    let r = c.args.rollback.now in
    let pair = c.in-Some.pair in
    let is = c.in-Some.is in
    let there = sym (c.in-None.ensures ∙ was.placed pair) in record {
      each = each_begun rs r pair c.args.self.now.sums.items _ is there was.each c.in_ok-begin-in-None.ensures.sums;
      placed = λ q. placed_begun rs r pair q c.args.self.now.sums.items _ _ is there was.each (was.placed q) (c.in_ok-begin-in-None.ensures.places q);
    }

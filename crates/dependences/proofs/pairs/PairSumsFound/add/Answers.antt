use Rattle.std.proofs.Common.{refl}
use Rattle.dependences.proofs.Joining.{sums_more}
use Rattle.dependences.proofs.pairs.PairSumsFound.add.Goals as goal

pub returns : goal.returns
returns c list kept = record {
  long = c.in_ok-keep.ensures.long;
  each = λ store load. sums_more store load list _ c.args.one _ _ _ refl (c.in_ok-keep.ensures.added store load) (kept.each store load) (kept.each c.args.one.store_pc c.args.one.load_pc);
}

use Rattle.std.proofs.Common.{refl, ◌∙◌}
use Rattle.dependences.proofs.Readying.{all_put_back, more_put_back, none_put_back}
use Rattle.dependences.proofs.pairs.PairSums.all.Goals as goal

pub loop-slot-init : goal.loop-slot-init
loop-slot-init c = record { same = refl; put = none_put_back c.args.self.ready.items c.args.self.sums }

pub loop-slot-preserved : goal.loop-slot-preserved
loop-slot-preserved c = record {
  same = c.in_ok-put_back.ensures.ready ∙ c.loop-slot.invariant.same;
  put = more_put_back c.args.self.ready.items c.args.self.sums c.loop-slot.all.sums c.put_back.new.self.sums c.loop-slot.slot c.loop-slot.invariant.put
      (λ s l. rw (← c.loop-slot.invariant.same) (c.in_ok-put_back.ensures.here s l)) c.in_ok-put_back.ensures.others;
}

pub returns : goal.returns
returns c store load = all_put_back c.args.self.ready.items c.args.self.sums c.loop-slot.all.sums c.loop-slot.slot store load c.loop-slot-test.false c.loop-slot.invariant.put

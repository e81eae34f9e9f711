use Rattle.std.proofs.Common.{sym, ◌∙◌, refl, arith}
use Rattle.trace_text.proofs.FirstWords.{ends_here, ends_last, one_more}
use Rattle.trace_text.proofs.front.word_at.Goals as goal

pub loop-at-init : goal.loop-at-init
loop-at-init c = record { within = record { first = refl; after = refl } }

pub loop-at-preserved : goal.loop-at-preserved
loop-at-preserved c = record { within = one_more c.args.text.now c.loop-at.at (omega arith) (sym c.ends_word.ensures ∙ c.if-ends_word.false) c.loop-at.invariant.within }

pub returns-then-ends_word : goal.returns-then-ends_word
returns-then-ends_word c = ends_here c.args.text.now c.loop-at.at (omega arith) (sym c.ends_word.ensures ∙ c.if-ends_word.true) c.loop-at.invariant.within

pub returns : goal.returns
returns c = ends_last c.args.text.now c.loop-at.at (omega arith) c.loop-at.invariant.within

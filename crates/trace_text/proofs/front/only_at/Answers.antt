use Rattle.std.proofs.Common.{◌∙◌, ap}
use Rattle.trace_text.specs.Front.{only}
use Rattle.trace_text.proofs.FirstWords.{after_line, words}
use Rattle.trace_text.proofs.Keywords.{only_more, only_none}
use Rattle.trace_text.proofs.front.only_at.Goals as goal

pub returns-in-Some : goal.returns-in-Some
returns-in-Some c = ap (only c.args.what) (c.in-Some.ensures.words ∙ words c.in-Some.field-0.now) ∙ only_more c.args.what _ _

pub returns-in-None : goal.returns-in-None
returns-in-None c = record {
  is = ap (only c.args.what) c.in-None.ensures ∙ only_none c.args.what;
  under = after_line c.args.left.now _ _ c.cut.ensures;
}

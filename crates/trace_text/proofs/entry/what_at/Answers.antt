use Rattle.trace_text.proofs.FirstWords.{same_says}
use Rattle.trace_text.proofs.entry.what_at.Goals as goal

pub returns-in-Some : goal.returns-in-Some
returns-in-Some c = same_says _ _ _ _ c.access_at.result c.in-Some.ensures.said c.in-Some.ensures.under c.access_at.ensures

use Rattle.trace_text.proofs.Above.{reads_back}
use Rattle.trace_text.proofs.laws.a_printed_trace_reads_back.Goals as goal

pub returns : goal.returns
returns c = reads_back

use Rattle.rv32_image.proofs.Printed.{number_in-decimal}
use Rattle.rv32_image.proofs.laws.a_printed_number_reads_back.Goals as goal

pub returns : goal.returns
returns c = number_in-decimal

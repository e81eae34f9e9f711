use Rattle.rv32_image.proofs.Printed.{word_in-hex}
use Rattle.rv32_image.proofs.laws.a_printed_word_reads_back.Goals as goal

pub returns : goal.returns
returns c = word_in-hex

use Rattle.rv32_decode.proofs.Rows.{fits_one_row}
use Rattle.rv32_decode.proofs.laws.rows_exclude_one_another.Goals as goal

pub returns : goal.returns
returns c = fits_one_row

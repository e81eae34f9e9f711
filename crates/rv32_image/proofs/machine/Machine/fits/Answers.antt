use Rattle.rv32_image.proofs.machine.Machine.fits.Goals as goal

pub returns-then-has_lines : goal.returns-then-has_lines
returns-then-has_lines c = (
  (λ allows. let lines = c.has_lines.ensures.0 c.if-has_lines.true in record { is = lines.0; whole_lines = lines.1; apart = c.allows_apart.ensures.0 allows }),
  (λ fits. c.allows_apart.ensures.1 fits.apart),
)

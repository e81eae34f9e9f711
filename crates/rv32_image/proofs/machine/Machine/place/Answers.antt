use Rattle.rv32_image.proofs.machine.Machine.place.Goals as goal

pub place-requires-clause-fits : goal.place-requires-clause-fits
place-requires-clause-fits c = c.requires.fits.apart c.in-Some.apart c.in-Some.is

use Rattle.std.proofs.Common.{◌≡◌, ◌==◌, ◌-◌, ◌+◌, sym, ◌∙◌, length, take, drop, arith, take_all, length-drop}
use Rattle.rv32_image.proofs.Cuts.{slice_split-none, slice_split-some}
use Rattle.rv32_image.proofs.words.cut.Goals as goal

pub returns-in-Some : goal.returns-in-Some
returns-in-Some c =
    let rest = drop (c.in-Some.at + 1) c.args.text.now in
    let whole : take (length c.args.text.now - (c.in-Some.at + 1)) rest ≡ rest = take_all _ rest (omega (arith, length-drop (c.in-Some.at + 1) c.args.text.now)) in
    rw whole (slice_split-some (λ b. b == c.args.separator) c.args.text.now c.in-Some.at (sym c.position_of.ensures.position ∙ c.in-Some.is))

pub returns-in-None : goal.returns-in-None
returns-in-None c = slice_split-none (λ b. b == c.args.separator) c.args.text.now (sym c.position_of.ensures.position ∙ c.in-None.is)

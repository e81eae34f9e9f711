use Rattle.std.proofs.Common.{◌≡◌, ◌∷◌, ap, sym, subst}
use Rattle.rv32_image.specs.ImageText.{pieces}
use Rattle.rv32_image.specs.Cutting.{pieces_after}
use Rattle.rv32_image.specs.WordsOf.{AreMany}
use Rattle.rv32_image.proofs.Pieces.{are_many}
use Rattle.rv32_image.proofs.words.words_of.Goals as goal

pub returns-in-Some-rest-2 : goal.returns-in-Some-rest-2
returns-in-Some-rest-2 c =
    let first = c.cut.result.0.now in
    let second = c.cut-2.result.0.now in
    let third = c.cut-3.result.0.now in
    let fourth = c.in-Some-rest-2.field-0.now in
    let line : pieces 32 c.args.line.now ≡ first ∷ second ∷ third ∷ pieces 32 fourth =
    cc (c.cut.ensures, c.cut-2.ensures, c.cut-3.ensures, ap (pieces_after 32) c.in-Some.is, ap (pieces_after 32) c.in-Some-rest.is, ap (pieces_after 32) c.in-Some-rest-2.is) in
    subst AreMany (sym line) (are_many first second third fourth)

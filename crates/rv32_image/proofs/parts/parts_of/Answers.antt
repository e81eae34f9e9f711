use Rattle.std.proofs.Common.{◌≡◌, ◌==◌, [], ◌∷◌, length, take, drop, true, false, ap, sym, ◌∙◌, arith}
use Rattle.rv32_image.specs.ImageText.{pieces}
use Rattle.rv32_image.specs.Cutting.{pieces_after}
use Rattle.rv32_image.specs.Parts.{begins_with, bytes_of, lines_above, lines_below}
use Rattle.rv32_image.proofs.Lines.{few_lines}
use Rattle.rv32_image.proofs.LinesAbove.{bytes_above, bytes_of-split, image_above-all, image_above-is, lines_above-head, lines_above-more, lines_above-none}
use Rattle.rv32_image.proofs.parts.parts_of.Goals as goal

pub loop-below-init : goal.loop-below-init
loop-below-init c =
    let prefix = c.args.prefix.now in
    let text = c.args.text.now in
    let all : pieces_after 10 c.of-lines.result.rest ≡ pieces 10 text = ap (pieces_after 10) c.of-lines.ensures.rest in
    record {
      above = omega (arith, c.of-lines.ensures.number, ap (lines_above prefix) all);
      below = ap (lines_below prefix) all;
      image = omega (arith, ap (bytes_above prefix) all);
      bytes = omega (arith, ap bytes_of all, bytes_of-split (λ b. b == 10) text);
      few = omega (arith, c.of-lines.ensures.number, ap length all, few_lines text);
    }

pub loop-below-preserved : goal.loop-below-preserved
loop-below-preserved c =
    let prefix = c.args.prefix.now in
    let line = c.cut.result.0.now in
    let left = pieces_after 10 c.pass.new.self.rest in
    let cut : pieces_after 10 c.loop-below.lines.rest ≡ line ∷ left = ap (pieces_after 10) c.in-Some.ensures.text ∙ (c.cut.ensures ∙ ap (λ r. line ∷ pieces_after 10 r) (sym c.pass.ensures.rest)) in
    let other : begins_with prefix line ≡ false = sym c.starts_with.ensures.value ∙ c.if-starts_with.false in
    let more = lines_above-more prefix line left other in
    let image : bytes_above prefix (line ∷ left) ≡ bytes_of (line ∷ take (lines_above prefix left) left) = ap (λ n. bytes_of (take n (line ∷ left))) more in
    record {
      above = omega (arith, ap (lines_above prefix) cut, more, c.loop-below.invariant.above, c.pass.ensures.number);
      below = sym (ap (lines_below prefix) cut ∙ ap (λ n. drop n (line ∷ left)) more) ∙ c.loop-below.invariant.below;
      image = omega (arith, ap (bytes_above prefix) cut, image, c.loop-below.invariant.image);
      bytes = omega (arith, ap bytes_of cut, c.loop-below.invariant.bytes);
      few = omega (arith, ap length cut, c.loop-below.invariant.few, c.pass.ensures.number);
    }

pub returns-then-starts_with-clause-image : goal.returns-then-starts_with-clause-image
returns-then-starts_with-clause-image c =
    let prefix = c.args.prefix.now in
    let line = c.cut.result.0.now in
    let left = pieces_after 10 c.cut.result.1 in
    let cut : pieces_after 10 c.loop-below.lines.rest ≡ line ∷ left = ap (pieces_after 10) c.in-Some.ensures.text ∙ c.cut.ensures in
    let begins : begins_with prefix line ≡ true = sym c.starts_with.ensures.value ∙ c.if-starts_with.true in
    let none : bytes_above prefix (line ∷ left) ≡ 0 = ap (λ n. bytes_of (take n (line ∷ left))) (lines_above-head prefix line left begins) in
    sym (image_above-is prefix c.args.text.now c.loop-below.start (omega (arith, ap (bytes_above prefix) cut, none, c.loop-below.invariant.image)))

pub returns-then-starts_with-clause-number : goal.returns-then-starts_with-clause-number
returns-then-starts_with-clause-number c =
    let prefix = c.args.prefix.now in
    let line = c.cut.result.0.now in
    let left = pieces_after 10 c.cut.result.1 in
    let cut : pieces_after 10 c.loop-below.lines.rest ≡ line ∷ left = ap (pieces_after 10) c.in-Some.ensures.text ∙ c.cut.ensures in
    let begins : begins_with prefix line ≡ true = sym c.starts_with.ensures.value ∙ c.if-starts_with.true in
    omega (arith, ap (lines_above prefix) cut, lines_above-head prefix line left begins, c.loop-below.invariant.above)

pub returns-then-starts_with-clause-below : goal.returns-then-starts_with-clause-below
returns-then-starts_with-clause-below c =
    let prefix = c.args.prefix.now in
    let line = c.cut.result.0.now in
    let left = pieces_after 10 c.cut.result.1 in
    let cut : pieces_after 10 c.loop-below.lines.rest ≡ line ∷ left = ap (pieces_after 10) c.in-Some.ensures.text ∙ c.cut.ensures in
    let begins : begins_with prefix line ≡ true = sym c.starts_with.ensures.value ∙ c.if-starts_with.true in
    let all : lines_below prefix (line ∷ left) ≡ line ∷ left = ap (λ n. drop n (line ∷ left)) (lines_above-head prefix line left begins) in
    cut ∙ (sym all ∙ (sym (ap (lines_below prefix) cut) ∙ c.loop-below.invariant.below))

pub returns-clause-image : goal.returns-clause-image
returns-clause-image c =
    let prefix = c.args.prefix.now in
    let cut = ap (pieces_after 10) c.in_default.ensures.none in
    let none : bytes_above prefix [] ≡ 0 = ap (λ n. bytes_of (take n [])) (lines_above-none prefix) in
    sym (image_above-all prefix c.args.text.now (omega (arith, ap (bytes_above prefix) cut, none, ap bytes_of cut, c.loop-below.invariant.image, c.loop-below.invariant.bytes)))

pub returns-clause-number : goal.returns-clause-number
returns-clause-number c =
    omega (arith, ap (λ r. lines_above c.args.prefix.now (pieces_after 10 r)) c.in_default.ensures.none, lines_above-none c.args.prefix.now, c.loop-below.invariant.above)

pub returns-clause-below : goal.returns-clause-below
returns-clause-below c =
    let prefix = c.args.prefix.now in
    let cut = ap (pieces_after 10) c.in_default.ensures.none in
    let none : lines_below prefix [] ≡ [] = ap (λ n. drop n []) (lines_above-none prefix) in
    cut ∙ (sym none ∙ (sym (ap (lines_below prefix) cut) ∙ c.loop-below.invariant.below))

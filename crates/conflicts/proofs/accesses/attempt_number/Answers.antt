use Rattle.std.proofs.Common.{◌≡◌, ◌-◌, ◌+◌, ◌<◌, ℕ, Bool, sym, ◌∙◌, arith}
use Rattle.conflicts.specs.Attempts.{core_does, is_begin, is_start}
use Rattle.conflicts.proofs.Numbering.{none_begun, none_numbered, numbered, one_begun, unnumbered}
use Rattle.conflicts.proofs.accesses.attempt_number.Goals as goal
use Rattle.conflicts.proofs.accesses.attempt_number.Goals.{then-begins, else-begins}

pub loop-i-init : goal.loop-i-init
loop-i-init c = record { few = omega arith; rest = none_numbered _ _ _ }

pub returns-then-starts : goal.returns-then-starts
returns-then-starts c =
    let starts : ℕ → Bool = λ k. core_does c.args.entries.now c.args.core k is_start in
    let begins : ℕ → Bool = λ k. core_does c.args.entries.now c.args.core k is_begin in
    let place = c.args.before - 1 - c.loop-i.i in
    let within : c.loop-i.i < c.args.before = omega (arith, c.loop-i-test.true) in
    numbered starts begins c.args.before c.loop-i.i c.loop-i.again place c.loop-i.invariant.rest within (omega (arith, within)) (sym c.starts.ensures ∙ c.if-starts.true)

pub loop-i-preserved : goal.loop-i-preserved
loop-i-preserved c =
    let starts : ℕ → Bool = λ k. core_does c.args.entries.now c.args.core k is_start in
    let begins : ℕ → Bool = λ k. core_does c.args.entries.now c.args.core k is_begin in
    let place = c.args.before - 1 - c.loop-i.i in
    let was = c.loop-i.invariant in
    let within : c.loop-i.i < c.args.before = omega (arith, c.loop-i-test.true) in
    let here : place + 1 + c.loop-i.i ≡ c.args.before = omega (arith, within) in
    let fails = sym c.starts.ensures ∙ c.if-starts.false in
    elim c.if-begins.branch [
      | then-begins w ↦ record {
        few = omega (arith, w.again-is, was.few);
        rest = rw w.again-is (one_begun starts begins c.args.before c.loop-i.i c.loop-i.again place was.rest within here fails (sym c.begins.ensures ∙ w.if-begins.true));
      }
      | else-begins w ↦ record {
        few = omega (arith, w.again-is, was.few);
        rest = rw w.again-is (none_begun starts begins c.args.before c.loop-i.i c.loop-i.again place was.rest within here fails (sym c.begins.ensures ∙ w.if-begins.false));
      }
    ]

pub returns : goal.returns
returns c =
    let starts : ℕ → Bool = λ k. core_does c.args.entries.now c.args.core k is_start in
    let begins : ℕ → Bool = λ k. core_does c.args.entries.now c.args.core k is_begin in
    unnumbered starts begins c.args.before c.loop-i.i c.loop-i.again c.loop-i.invariant.rest (omega (arith, c.loop-i-test.false))

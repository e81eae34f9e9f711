use Rattle.std.proofs.Common.{◌≡◌, ℕ, List, true, false, codes, sym, subst, ◌∙◌}
use Rattle.std.specs.Str.{bytes_eq}
use Rattle.gain.proofs.Words.{as_before, asks, without}
use Rattle.gain.proofs.work.cut_limits.Goals as goal

pub returns-then-eq-clause-limits : goal.returns-then-eq-clause-limits
returns-then-eq-clause-limits g c =
    let so : bytes_eq (g.S.AsStr.text c.in-Some.last.now) (codes "--limits") ≡ true = subst (λ (word : List ℕ). bytes_eq word (codes "--limits") ≡ true) c.as_str.ensures (sym c.eq.ensures ∙ c.if-eq.true) in
    sym (asks (codes "--limits") g.S.AsStr.text c.args.words.now c.in-Some.before.now c.in-Some.last.now c.in-Some.ensures.cases.0 ∙ so)

pub returns-then-eq-clause-words : goal.returns-then-eq-clause-words
returns-then-eq-clause-words g c =
    let so : bytes_eq (g.S.AsStr.text c.in-Some.last.now) (codes "--limits") ≡ true = subst (λ (word : List ℕ). bytes_eq word (codes "--limits") ≡ true) c.as_str.ensures (sym c.eq.ensures ∙ c.if-eq.true) in
    without (codes "--limits") g.S.AsStr.text c.args.words.now c.in-Some.before.now c.in-Some.last.now c.in-Some.ensures.cases.0 so

pub returns-else-eq-clause-limits : goal.returns-else-eq-clause-limits
returns-else-eq-clause-limits g c =
    let none : bytes_eq (g.S.AsStr.text c.in-Some.last.now) (codes "--limits") ≡ false = subst (λ (word : List ℕ). bytes_eq word (codes "--limits") ≡ false) c.as_str.ensures (sym c.eq.ensures ∙ c.if-eq.false) in
    sym (asks (codes "--limits") g.S.AsStr.text c.args.words.now c.in-Some.before.now c.in-Some.last.now c.in-Some.ensures.cases.0 ∙ none)

pub returns-else-eq-clause-words : goal.returns-else-eq-clause-words
returns-else-eq-clause-words g c =
    let none : bytes_eq (g.S.AsStr.text c.in-Some.last.now) (codes "--limits") ≡ false = subst (λ (word : List ℕ). bytes_eq word (codes "--limits") ≡ false) c.as_str.ensures (sym c.eq.ensures ∙ c.if-eq.false) in
    as_before (codes "--limits") g.S.AsStr.text c.args.words.now c.in-Some.before.now c.in-Some.last.now c.in-Some.ensures.cases.0 none

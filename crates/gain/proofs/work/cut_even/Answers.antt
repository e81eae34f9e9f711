use Rattle.std.proofs.Common.{◌≡◌, ℕ, List, true, false, codes, sym, subst, ◌∙◌}
use Rattle.std.specs.Str.{bytes_eq}
use Rattle.gain.proofs.Words.{as_before, asks, without}
use Rattle.gain.proofs.work.cut_even.Goals as goal

pub returns-then-eq-clause-even : goal.returns-then-eq-clause-even
returns-then-eq-clause-even g c =
    let so : bytes_eq (g.S.AsStr.text c.in-Some.last.now) (codes "--even-at") ≡ true = subst (λ (word : List ℕ). bytes_eq word (codes "--even-at") ≡ true) c.as_str.ensures (sym c.eq.ensures ∙ c.if-eq.true) in
    sym (asks (codes "--even-at") g.S.AsStr.text c.args.words.now c.in-Some.before.now c.in-Some.last.now c.in-Some.ensures.cases.0 ∙ so)

pub returns-then-eq-clause-words : goal.returns-then-eq-clause-words
returns-then-eq-clause-words g c =
    let so : bytes_eq (g.S.AsStr.text c.in-Some.last.now) (codes "--even-at") ≡ true = subst (λ (word : List ℕ). bytes_eq word (codes "--even-at") ≡ true) c.as_str.ensures (sym c.eq.ensures ∙ c.if-eq.true) in
    without (codes "--even-at") g.S.AsStr.text c.args.words.now c.in-Some.before.now c.in-Some.last.now c.in-Some.ensures.cases.0 so

pub returns-else-eq-clause-even : goal.returns-else-eq-clause-even
returns-else-eq-clause-even g c =
    let none : bytes_eq (g.S.AsStr.text c.in-Some.last.now) (codes "--even-at") ≡ false = subst (λ (word : List ℕ). bytes_eq word (codes "--even-at") ≡ false) c.as_str.ensures (sym c.eq.ensures ∙ c.if-eq.false) in
    sym (asks (codes "--even-at") g.S.AsStr.text c.args.words.now c.in-Some.before.now c.in-Some.last.now c.in-Some.ensures.cases.0 ∙ none)

pub returns-else-eq-clause-words : goal.returns-else-eq-clause-words
returns-else-eq-clause-words g c =
    let none : bytes_eq (g.S.AsStr.text c.in-Some.last.now) (codes "--even-at") ≡ false = subst (λ (word : List ℕ). bytes_eq word (codes "--even-at") ≡ false) c.as_str.ensures (sym c.eq.ensures ∙ c.if-eq.false) in
    as_before (codes "--even-at") g.S.AsStr.text c.args.words.now c.in-Some.before.now c.in-Some.last.now c.in-Some.ensures.cases.0 none

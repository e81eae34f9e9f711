use Rattle.std.proofs.Common.{◌≡◌, ℕ, List, true, false, codes, sym, subst, ◌∙◌}
use Rattle.std.specs.Str.{bytes_eq}
use Rattle.gain.proofs.Words.{as_before, asks, without}
use Rattle.gain.proofs.work.cut_held.Goals as goal

pub returns-then-eq-clause-held : goal.returns-then-eq-clause-held
returns-then-eq-clause-held g c =
    let so : bytes_eq (g.S.AsStr.text c.in-Some.last.now) (codes "--held") ≡ true = subst (λ (word : List ℕ). bytes_eq word (codes "--held") ≡ true) c.as_str.ensures (sym c.eq.ensures ∙ c.if-eq.true) in
    sym (asks (codes "--held") g.S.AsStr.text c.args.words.now c.in-Some.before.now c.in-Some.last.now c.in-Some.ensures.cases.0 ∙ so)

pub returns-then-eq-clause-words : goal.returns-then-eq-clause-words
returns-then-eq-clause-words g c =
    let so : bytes_eq (g.S.AsStr.text c.in-Some.last.now) (codes "--held") ≡ true = subst (λ (word : List ℕ). bytes_eq word (codes "--held") ≡ true) c.as_str.ensures (sym c.eq.ensures ∙ c.if-eq.true) in
    without (codes "--held") g.S.AsStr.text c.args.words.now c.in-Some.before.now c.in-Some.last.now c.in-Some.ensures.cases.0 so

pub returns-else-eq-clause-held : goal.returns-else-eq-clause-held
returns-else-eq-clause-held g c =
    let none : bytes_eq (g.S.AsStr.text c.in-Some.last.now) (codes "--held") ≡ false = subst (λ (word : List ℕ). bytes_eq word (codes "--held") ≡ false) c.as_str.ensures (sym c.eq.ensures ∙ c.if-eq.false) in
    sym (asks (codes "--held") g.S.AsStr.text c.args.words.now c.in-Some.before.now c.in-Some.last.now c.in-Some.ensures.cases.0 ∙ none)

pub returns-else-eq-clause-words : goal.returns-else-eq-clause-words
returns-else-eq-clause-words g c =
    let none : bytes_eq (g.S.AsStr.text c.in-Some.last.now) (codes "--held") ≡ false = subst (λ (word : List ℕ). bytes_eq word (codes "--held") ≡ false) c.as_str.ensures (sym c.eq.ensures ∙ c.if-eq.false) in
    as_before (codes "--held") g.S.AsStr.text c.args.words.now c.in-Some.before.now c.in-Some.last.now c.in-Some.ensures.cases.0 none

-- The text of a turn from that of its parts.
use Rattle.std.proofs.Common.{◌≡◌, ℕ, ◌+◌, ◌-◌, ◌≤◌, List, ◌++◌, length, take, drop, ap, sym, ◌∙◌, arith, append_assoc, length-append}
use Rattle.std.proofs.lemmas.List.{drop_at, take_all}
use Rattle.spec_history.specs.declared.entry.Entry.{Entry}

six : (t a b c d e f : List ℕ) → (((((t ++ a) ++ b) ++ c) ++ d) ++ e) ++ f ≡ t ++ (a ++ b ++ c ++ d ++ e ++ f)
six t a b c d e f = simp append_assoc

pub in_turn : (t t1 t2 t3 t4 t5 a b c d e f : List ℕ) → t1 ≡ t ++ a → t2 ≡ t1 ++ b → t3 ≡ t2 ++ c → t4 ≡ t3 ++ d → t5 ≡ t4 ++ e ++ f
    → t5 ≡ t ++ (a ++ b ++ c ++ d ++ e ++ f)
in_turn t t1 t2 t3 t4 t5 a b c d e f one two three four five =
    five ∙ (ap (λ x. x ++ e ++ f) (four ∙ ap (λ x. x ++ d) (three ∙ ap (λ x. x ++ c) (two ∙ ap (λ x. x ++ b) one))) ∙ six t a b c d e f)

-- the entries behind those that there were
pub rest_of : (history old added : List Entry) (n : ℕ) → history ≡ old ++ added → n ≡ length old → take (length history - n) (drop n history) ≡ added
rest_of history old added n is at =
    let long : length history ≡ length old + length added = ap length is ∙ length-append old added in
    let short : length added ≤ length history - n = omega (arith, long, at) in
    ap (take (length history - n)) (ap (drop n) is ∙ drop_at old added n (sym at)) ∙ take_all (length history - n) added short

use Rattle.std.proofs.Common.{◌≡◌, ◌++◌, ◌∙◌, ℕ, List, ap, append_assoc}
use Rattle.std.proofs.lemmas.Result.{on_ok_weaker}
use Rattle.gain.proofs.text.push_hundredths.Goals as goal

three : (old a b c : List ℕ) {t u v : List ℕ} → t ≡ old ++ a → u ≡ t ++ b → v ≡ u ++ c → v ≡ old ++ ((a ++ b) ++ c)
three old a b c p q r = r ∙ (ap (λ t. t ++ c) (q ∙ (ap (λ t. t ++ b) p ∙ append_assoc old a b)) ∙ append_assoc old (a ++ b) c)

pub returns : goal.returns
returns c =
    on_ok_weaker c.push_number-3.result (three c.args.text.now.items _ _ _ c.in_ok-push_number.ensures c.in_ok-push_number-2.ensures) c.push_number-3.ensures

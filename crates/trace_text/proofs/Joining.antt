-- A text that grows part by part.
use Rattle.std.proofs.Common.{◌≡◌, ◌++◌, ◌∙◌, ℕ, List, append_assoc}

-- two parts that are written after one another are one part
pub joined : (old mid new a b : List ℕ) → mid ≡ old ++ a → new ≡ mid ++ b → new ≡ old ++ (a ++ b)
joined old mid new a b one two = two ∙ rw one (append_assoc old a b)

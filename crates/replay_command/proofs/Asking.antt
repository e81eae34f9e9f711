-- How many cores are asked for beside stores.
use Rattle.std.proofs.Common.{◌≡◌, ℕ, Bool, true, false, nat_le, ◌&&◌, List, [], ◌∷◌, Option, Some, None, Result, Ok, Err, if◌then◌else◌, ap, refl, subst, arith}
use Rattle.std.proofs.lemmas.Bool.Decides.{nat_tests}
use Rattle.std.specs.List.{list_all}
use Rattle.rv32_image.specs.declared.fault.ImageFaultKind.{ImageFaultKind}
use Rattle.rv32_image.specs.ImageText.{number_in}
use Rattle.trace_text.specs.TraceText.{◌>>=◌}
use Rattle.trace_commands.specs.Program.{IsUpTo16, up_to_16}
use Rattle.trace_commands.specs.Stores.{StoresAsked, names_store, or_both, stores_asked_in}

tested : (low high : Bool) (m n : ℕ) → nat_le 1 m ≡ low → nat_le m 16 ≡ high → (if low && high then Some m else None) ≡ Some n → IsUpTo16 n
tested true true m n low high is = let same : m ≡ n = cc in subst IsUpTo16 same (grind (arith, nat_tests), grind (arith, nat_tests))
tested true false m n low high is = absurd cc
tested false high m n low high' is = absurd cc

up_to : (number : Result ℕ ImageFaultKind) (n : ℕ) → up_to_16 number ≡ Some n → IsUpTo16 n
up_to (Ok m) n is = tested (nat_le 1 m) (nat_le m 16) m n refl refl is
up_to (Err fault) n is = absurd cc

number_of : (number : Option ℕ) (named : Bool) (stores : List (List ℕ)) (asked : StoresAsked)
    → (number >>= λ cores. if named then Some (record { cores = cores; stores = stores }) else None) ≡ Some asked → number ≡ Some asked.cores
number_of (Some n) true stores asked is =
    let same : (let r : StoresAsked = record { cores = n; stores = stores } in r) ≡ asked = cc in ap (λ (r : StoresAsked). Some r.cores) same
number_of (Some n) false stores asked is = absurd cc
number_of None named stores asked is = absurd cc

-- they are 1 to 16
pub few_asked : (words : List (List ℕ)) (asked : StoresAsked) → stores_asked_in words ≡ Some asked → IsUpTo16 asked.cores
unfolding stores_asked_in
few_asked [] asked is = absurd cc
few_asked (program ∷ []) asked is = absurd cc
few_asked (program ∷ word ∷ stores) asked is = up_to (number_in word) asked.cores (number_of (up_to_16 (number_in word)) (list_all names_store stores) (or_both stores) asked is)

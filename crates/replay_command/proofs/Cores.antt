-- Each turn that a text says is of a core that is there.
use Rattle.std.proofs.Common.{◌≡◌, ℕ, ◌+◌, ◌<◌, nat_lt, Bool, true, false, cond, List, [], ◌∷◌, All, drop, Option, Some, None, Result, Ok, Err, refl, subst, arith}
use Rattle.std.proofs.lemmas.Bool.Decides.{nat_tests}
use Rattle.std.proofs.lemmas.List.Elements.{All-append, All-nil}
use Rattle.rv32_image.specs.ImageText.{is_remark, number_in, pieces}
use Rattle.rv32_image.specs.Parts.{begins_with, lines_above, lines_below}
use Rattle.trace_text.specs.declared.fault.TraceFault.{TraceFault}
use Rattle.trace_text.specs.declared.fault.TraceFaultKind.TheVariants.{Line}
use Rattle.trace_text.specs.TraceText.{◌>>=◌, or_fault, where_ok}
use Rattle.replay_command.specs.Turns.{alone, core_in, joined, line_read, lines_read, schedule_text, turns_prefix, word_read, words_read}

abbrev AreCores : ℕ → Result (List ℕ) TraceFault → Type 0
AreCores cores (Ok turns) = All (λ k. k < cores) turns
AreCores cores (Err fault) = Unit {0}

abbrev IsCore : ℕ → Option ℕ → Type 0
IsCore cores (Some k) = k < cores
IsCore cores None = Unit {0}

either : (cores : ℕ) (b : Bool) (one other : Result (List ℕ) TraceFault) → AreCores cores one → AreCores cores other → AreCores cores (cond b one other)
either cores true one other p q = p
either cores false one other p q = q

of_test : (cores k : ℕ) (b : Bool) → nat_lt k cores ≡ b → IsCore cores (cond b (Some k) None)
of_test cores k true is = grind (arith, nat_tests)
of_test cores k false is = tt

of_number : (cores : ℕ) (number : Option ℕ) → IsCore cores (number >>= (λ k. cond (nat_lt k cores) (Some k) None))
of_number cores (Some k) = of_test cores k (nat_lt k cores) refl
of_number cores None = tt

of_core : (cores : ℕ) (word : List ℕ) → IsCore cores (core_in cores word)
unfolding core_in
of_core cores word = of_number cores (where_ok (number_in word))

of_alone : (cores n : ℕ) (core : Option ℕ) → IsCore cores core → AreCores cores (alone (or_fault core n Line))
of_alone cores n (Some k) is = λ i d below. let first : i ≡ 0 = omega (arith, below) in rw first is
of_alone cores n None is = tt

of_joined : (cores : ℕ) (one other : Result (List ℕ) TraceFault) → AreCores cores one → AreCores cores other → AreCores cores (joined one other)
of_joined cores (Ok xs) (Ok ys) p q = All-append (λ k. k < cores) xs ys p q
of_joined cores (Ok xs) (Err fault) p q = q
of_joined cores (Err fault) other p q = p

of_words : (cores n : ℕ) (words : List (List ℕ)) → AreCores cores (words_read cores n words)
unfolding words_read
of_words cores n [] = All-nil (λ k. k < cores)
of_words cores n (word ∷ words) =
    of_joined cores (word_read cores n word) (words_read cores n words) (of_alone cores n (core_in cores word) (of_core cores word)) (of_words cores n words)

of_line : (cores n : ℕ) (line : List ℕ) → AreCores cores (line_read cores n line)
unfolding line_read
of_line cores n line =
    let refused : Result (List ℕ) TraceFault = Err (record { line = n; kind = Line }) in
    let words = words_read cores n (pieces 32 (drop 6 line)) in
    either cores (is_remark line) (Ok []) (cond (begins_with turns_prefix line) words refused) (All-nil (λ k. k < cores))
    (either cores (begins_with turns_prefix line) words refused (of_words cores n (pieces 32 (drop 6 line))) tt)

of_lines : (cores n : ℕ) (lines : List (List ℕ)) → AreCores cores (lines_read cores n lines)
unfolding lines_read
of_lines cores n [] = All-nil (λ k. k < cores)
of_lines cores n (line ∷ lines) =
    of_joined cores (line_read cores n line) (lines_read cores (n + 1) lines) (of_line cores n line) (of_lines cores (n + 1) lines)

of_text : (cores : ℕ) (text : List ℕ) → AreCores cores (schedule_text cores text)
unfolding schedule_text
of_text cores text = of_lines cores (lines_above turns_prefix (pieces 10 text) + 1) (lines_below turns_prefix (pieces 10 text))

-- a core that is there takes each turn
pub are_cores : (cores : ℕ) (text turns : List ℕ) → schedule_text cores text ≡ Ok turns → All (λ k. k < cores) turns
are_cores cores text turns is = subst (AreCores cores) is (of_text cores text)

-- The schedule of a trace, and where two histories part.
use Rattle.std.proofs.Common.{◌≡◌, ℕ, ◌+◌, ◌<◌, ◌≤◌, nat_lt, Bool, true, false, cond, ◌&&◌, List, [], ◌∷◌, ◌++◌, ◌⊎◌, length, take, get_or, All, slice_get, inl, inr, Option, Some, None, Result, Ok, Err, refl, sym, ap, subst, ◌∙◌, arith, add-one}
use Rattle.std.proofs.lemmas.Bool.Decides.{nat_tests}
use Rattle.std.proofs.lemmas.List.Elements.{All-append, All-nil}
use Rattle.std.proofs.lemmas.Option.{get_or_from_slice_get, slice_get_within}
use Rattle.std.proofs.Math.Seq.{take-length, take-suc}
use Rattle.rv32_image.specs.Image.{LoadedImage}
use Rattle.rv32_image.specs.ImageText.{pieces}
use Rattle.rv32_image.specs.Parts.{lines_above, lines_below}
use Rattle.rv32_image.specs.declared.version.Version.{Version}
use Rattle.rv32_image.specs.declared.version.Version.TheVariants.{One, Two}
use Rattle.rv32_image.specs.Version.{limits_of}
use Rattle.spec_history.specs.declared.entry.Entry.{Entry}
use Rattle.violations.specs.Rule.{IsCoreCount}
use Rattle.trace_text.specs.declared.fault.TraceFault.{TraceFault}
use Rattle.trace_text.specs.declared.fault.TraceFaultKind.TheVariants.{Head, TooLong}
use Rattle.trace_text.specs.TraceText.{◌>>=◌, Trace, cores_in, is_core_count, lines_read, longest_trace_text, number, of_cores, or_fault, trace_at, trace_prefix, trace_text}
use Rattle.trace_commands.specs.Audit.{IsTracedBy}
use Rattle.homefree.specs.Retraced.{is_of_own, turn_of, turns_of}

-- ---- the cores of a trace are as many as the version allows

abbrev IsAllowed : Version → Option ℕ → Type 0
IsAllowed version (Some n) = is_core_count version n ≡ true
IsAllowed version None = Unit {0}

abbrev IsAllowedIn : Version → Result Trace TraceFault → Type 0
IsAllowedIn version (Ok t) = is_core_count version t.cores ≡ true
IsAllowedIn version (Err fault) = Unit {0}

either : (version : Version) (b : Bool) (one other : Result Trace TraceFault) → IsAllowedIn version one → IsAllowedIn version other → IsAllowedIn version (cond b one other)
either version true one other p q = p
either version false one other p q = q

of_test : (version : Version) (n : ℕ) (b : Bool) → is_core_count version n ≡ b → IsAllowed version (cond b (Some n) None)
of_test version n true is = is
of_test version n false is = tt

of_number : (version : Version) (o : Option ℕ) → IsAllowed version (o >>= (λ n. cond (is_core_count version n) (Some n) None))
of_number version (Some n) = of_test version n (is_core_count version n) refl
of_number version None = tt

of_words : (version : Version) (words : List (List ℕ)) → IsAllowed version (cores_in version words)
unfolding cores_in
of_words version [] = tt
of_words version (keyword ∷ []) = tt
of_words version (keyword ∷ word ∷ []) = of_number version (number word)
of_words version (keyword ∷ word ∷ more ∷ words) = tt

of_head : (version : Version) (n : ℕ) (o : Option ℕ) (entries : Result (List Entry) TraceFault) → IsAllowed version o
    → IsAllowedIn version (of_cores (or_fault o n Head) entries)
of_head version n (Some k) (Ok entries) is = is
of_head version n (Some k) (Err fault) is = tt
of_head version n None entries is = tt

of_trace : (version : Version) (n : ℕ) (lines : List (List ℕ)) → IsAllowedIn version (trace_at version n lines)
unfolding trace_at
of_trace version n [] = tt
of_trace version n (head ∷ lines) = of_head version n (cores_in version (pieces 32 head)) (lines_read (n + 1) lines) (of_words version (pieces 32 head))

of_text : (version : Version) (text : List ℕ) → IsAllowedIn version (trace_text version text)
unfolding trace_text
of_text version text =
    let n = lines_above trace_prefix (pieces 10 text) + 1 in
    let lines = lines_below trace_prefix (pieces 10 text) in
    either version (nat_lt longest_trace_text (length text)) (Err (record { line = 0; kind = TooLong })) (trace_at version n lines) tt (of_trace version n lines)

counted : (version : Version) (cores : ℕ) → is_core_count version cores ≡ true → (1 ≤ cores) × (cores ≤ (limits_of version).most_cores)
counted One cores is = grind (arith, nat_tests)
counted Two cores is = grind (arith, nat_tests)

pub traced_cores : (text : List ℕ) (image : LoadedImage) (cores : ℕ) (entries : List Entry) → IsTracedBy text image cores entries → IsCoreCount image cores
traced_cores text image cores entries by =
    let so = counted image.version cores (subst (IsAllowedIn image.version) by.trace_said (of_text image.version text)) in record { least = so.0; most = so.1 }

-- ---- each turn is of a core that is there

of_turn : (cores : ℕ) (entry : Entry) (b : Bool) → nat_lt entry.by cores && is_of_own entry.what ≡ b → All (λ k. k < cores) (cond b (entry.by ∷ []) [])
of_turn cores entry true is =
    let below : entry.by < cores = grind (arith, nat_tests) in
    λ i d within. let first : i ≡ 0 = omega (arith, within) in rw first below
of_turn cores entry false is = All-nil (λ k. k < cores)

pub are_turns : (cores : ℕ) (entries : List Entry) → All (λ k. k < cores) (turns_of cores entries)
are_turns cores [] = All-nil (λ k. k < cores)
are_turns cores (entry ∷ entries) =
    All-append (λ k. k < cores) (turn_of cores entry) (turns_of cores entries) (of_turn cores entry (nat_lt entry.by cores && is_of_own entry.what) refl) (are_turns cores entries)

-- ---- where two histories part

one_more : (xs : List Entry) (n : ℕ) (x : Entry) → slice_get xs n ≡ Some x → take (n + 1) xs ≡ take n xs ++ x ∷ []
one_more xs n x is =
    ap (λ k. take k xs) (add-one n) ∙ (take-suc xs n x (slice_get_within xs n x is) ∙ ap (λ y. take n xs ++ y ∷ []) (get_or_from_slice_get xs n x x is))

-- they are the same up to the end of both
pub same_all : (made given : List Entry) → take (length made) made ≡ take (length made) given → length made ≡ length given → made ≡ given
same_all made given same long = sym (take-length made) ∙ (same ∙ (ap (λ n. take n given) long ∙ take-length given))

abbrev HasCases : List Entry → ℕ → Type 0
HasCases xs n = ((x : Entry) × (n < length xs) × (slice_get xs n ≡ Some x) × (get_or xs n x ≡ x)) ⊎ ((length xs ≤ n) × (slice_get xs n ≡ None))

past : (xs : List Entry) (n : ℕ) → slice_get xs n ≡ None → HasCases xs n → length xs ≤ n
past xs n is (inl so) = let no : Some so.0 ≡ None = sym so.2 ∙ is in absurd cc
past xs n is (inr so) = so.0

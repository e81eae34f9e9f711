-- An access begins with its keyword and a space.
use Rattle.std.proofs.Common.{◌≡◌, ℕ, ◌==◌, Bool, true, false, cond, List, [], ◌∷◌, ◌++◌, codes, drop, length, refl, ap, sym, subst, ◌∙◌, arith}
use Rattle.std.proofs.lemmas.Bool.{false_from_ne_true}
use Rattle.std.proofs.lemmas.Bool.Decides.{Decides-eqb, nat_tests}
use Rattle.std.proofs.lemmas.Slice.Eq.{bytes_eq-Decides, starts_is}
use Rattle.std.specs.List.{starts_with}
use Rattle.std.specs.Str.{bytes_eq}
use Rattle.trace_text.specs.declared.entry.Access.{Access}
use Rattle.trace_text.specs.declared.entry.Access.TheVariants.{Load, Store}
use Rattle.trace_text.specs.TraceText.{what_in}
use Rattle.trace_text.specs.Accesses.{BeginsAccess, BeginsNoAccess, keyword_of, said}
use Rattle.trace_text.specs.Front.{HasNext, IsFront, after_word, below, first_word, words_after, words_in}
use Rattle.trace_text.specs.Keywords.{is_access}
use Rattle.trace_text.proofs.EightDigits.{parts}
use Rattle.trace_text.proofs.FirstWords.{words}

pub is_of : (access : Access) → is_access (keyword_of access) ≡ true
is_of Load = refl
is_of Store = refl

pub said_is : (text keyword left : List ℕ) → IsFront text keyword left → said text ≡ what_in keyword (words_after left)
said_is text keyword left is = ap (λ w. what_in w (words_after (after_word text))) (sym is.first) ∙ ap (λ l. what_in keyword (words_after l)) (sym is.after)

-- ---- a text that begins with a keyword and a space

load_of : (rest : List ℕ) → BeginsAccess (codes "load " ++ rest) Load rest
unfolding first_word after_word words_after below
load_of rest = record { said = refl; under = refl }

store_of : (rest : List ℕ) → BeginsAccess (codes "store " ++ rest) Store rest
unfolding first_word after_word words_after below
store_of rest = record { said = refl; under = refl }

begun : (text word : List ℕ) → starts_with (λ a b. a == b) text word ≡ true → text ≡ word ++ drop (length word) text
begun text word is = (starts_is Decides-eqb text word (starts_with (λ a b. a == b) text word) refl).0 is

pub begins_load : (text left : List ℕ) → starts_with (λ a b. a == b) text (codes "load ") ≡ true → left ≡ drop 5 text → BeginsAccess text Load left
begins_load text left is rest =
    subst (λ (l : List ℕ). BeginsAccess text Load l) (sym rest) (subst (λ (t : List ℕ). BeginsAccess t Load (drop 5 text)) (sym (begun text (codes "load ") is)) (load_of (drop 5 text)))

pub begins_store : (text left : List ℕ) → starts_with (λ a b. a == b) text (codes "store ") ≡ true → left ≡ drop 6 text → BeginsAccess text Store left
begins_store text left is rest =
    subst (λ (l : List ℕ). BeginsAccess text Store l) (sym rest) (subst (λ (t : List ℕ). BeginsAccess t Store (drop 6 text)) (sym (begun text (codes "store ") is)) (store_of (drop 6 text)))

-- ---- no such text has words after such a keyword

no_words : (text : List ℕ) → words_in text ≡ [] → ⊥
no_words text is = let some = words text in absurd cc

of_space : (space : Bool) (b : ℕ) (rest first : List ℕ) → (b == 32) ≡ space → cond space (words_in rest) [] ≡ words_in first → b ∷ rest ≡ 32 ∷ rest
of_space true b rest first is has = let same : b ≡ 32 = grind (arith, nat_tests, is) in ap (λ x. x ∷ rest) same
of_space false b rest first is has = absurd (no_words first (sym has))

after_space : (left first : List ℕ) → words_after left ≡ words_in first → (rest : List ℕ) × (left ≡ 32 ∷ rest)
unfolding words_after
after_space [] first has = absurd (no_words first (sym has))
after_space (b ∷ rest) first has = (rest, of_space (b == 32) b rest first refl has)

-- a text whose first word this is begins with it and a space
spaced : (text keyword left first word : List ℕ) → IsFront text keyword left → HasNext left first → bytes_eq keyword word ≡ true
    → (rest : List ℕ) × (text ≡ word ++ 32 ∷ rest)
spaced text keyword left first word front has is =
    let same : keyword ≡ word = (bytes_eq-Decides keyword word).0 is in
    let after = after_space left first has.words in
    (after.0, sym (parts text) ∙ (ap (λ w. w ++ after_word text) (sym front.first ∙ same) ∙ ap (λ l. word ++ l) (sym front.after ∙ after.1)))

no_load : (text keyword left first : List ℕ) → IsFront text keyword left → HasNext left first → BeginsNoAccess text → bytes_eq keyword (codes "load") ≡ false
no_load text keyword left first front has never =
    false_from_ne_true (bytes_eq keyword (codes "load"))
    (λ is.
    let it = spaced text keyword left first (codes "load") front has is in
    let yes = (starts_is Decides-eqb text (codes "load ") (starts_with (λ a b. a == b) text (codes "load ")) refl).1 it.0 it.1 in
    let none = never.load in absurd cc)

no_store : (text keyword left first : List ℕ) → IsFront text keyword left → HasNext left first → BeginsNoAccess text → bytes_eq keyword (codes "store") ≡ false
no_store text keyword left first front has never =
    false_from_ne_true (bytes_eq keyword (codes "store"))
    (λ is.
    let it = spaced text keyword left first (codes "store") front has is in
    let yes = (starts_is Decides-eqb text (codes "store ") (starts_with (λ a b. a == b) text (codes "store ")) refl).1 it.0 it.1 in
    let none = never.store in absurd cc)

pub no_access : (text keyword left first : List ℕ) → IsFront text keyword left → HasNext left first → BeginsNoAccess text → is_access keyword ≡ false
no_access text keyword left first front has never = rw (no_load text keyword left first front has never, no_store text keyword left first front has never) refl

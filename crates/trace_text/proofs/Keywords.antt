-- What the words after a keyword say, one after the other.
use Rattle.std.proofs.Common.{◌≡◌, ℕ, ◌||◌, Bool, true, false, cond, List, [], ◌∷◌, codes, Option, Some, None, refl, ap, ◌∙◌}
use Rattle.std.proofs.lemmas.Bool.{or_parts}
use Rattle.std.proofs.lemmas.Slice.Eq.{bytes_eq-Decides}
use Rattle.std.specs.Str.{bytes_eq}
use Rattle.spec_history.specs.declared.entry.What.{What}
use Rattle.spec_history.specs.declared.entry.What.TheVariants.{Fault}
use Rattle.trace_text.specs.TraceText.{◌>>=◌, access, digits, entry_in, four_words, number, of_epoch, one_word, three_words, two_words, what_in}
use Rattle.trace_text.specs.Front.{only}
use Rattle.trace_text.specs.Keywords.{IsOther, is_access}

-- ---- an entry

pub entry_in-no_core : (core : List ℕ) (words : List (List ℕ)) → number core ≡ None → entry_in (core ∷ words) ≡ None
unfolding entry_in
entry_in-no_core core [] is = refl
entry_in-no_core core (keyword ∷ words) is = rw is refl

pub entry_in-one : (core : List ℕ) → entry_in (core ∷ []) ≡ None
unfolding entry_in
entry_in-one core = refl

pub entry_in-no_what : (core keyword : List ℕ) (words : List (List ℕ)) (by : ℕ) → number core ≡ Some by → what_in keyword words ≡ None
    → entry_in (core ∷ keyword ∷ words) ≡ None
unfolding entry_in
entry_in-no_what core keyword words by is none = rw (is, none) refl

pub entry_in-some : (core keyword : List ℕ) (words : List (List ℕ)) (by : ℕ) (what : What) → number core ≡ Some by → what_in keyword words ≡ Some what
    → entry_in (core ∷ keyword ∷ words) ≡ Some (record { by = by; what = what })
unfolding entry_in
entry_in-some core keyword words by what is some = rw (is, some) refl

-- ---- steps that lead to nothing

no_load : (keyword : List ℕ) → is_access keyword ≡ false → bytes_eq keyword (codes "load") ≡ false
no_load keyword is = (or_parts (bytes_eq keyword (codes "load")) (bytes_eq keyword (codes "store")) is).0

no_store : (keyword : List ℕ) → is_access keyword ≡ false → bytes_eq keyword (codes "store") ≡ false
no_store keyword is = (or_parts (bytes_eq keyword (codes "load")) (bytes_eq keyword (codes "store")) is).1

no_epoch_when : (word : Option ℕ) (f : ℕ → Option What) → ((n : ℕ) → f n ≡ None) → (word >>= f) ≡ None
no_epoch_when (Some n) f none = none n
no_epoch_when None f none = refl

no_fault_when : (a b : Option ℕ) (keyword : List ℕ) → bytes_eq keyword (codes "fault") ≡ false
    → (a >>= λ cause. b >>= λ pc. cond (bytes_eq keyword (codes "fault")) (Some (Fault cause pc)) None) ≡ None
no_fault_when (Some cause) (Some pc) keyword other = rw other refl
no_fault_when (Some cause) None keyword other = refl
no_fault_when None b keyword other = refl

no_access_when : (a b c : Option ℕ) (keyword : List ℕ) → bytes_eq keyword (codes "load") ≡ false → bytes_eq keyword (codes "store") ≡ false
    → (a >>= λ address. b >>= λ width. c >>= λ value. access keyword address width value) ≡ None
no_access_when (Some address) (Some width) (Some value) keyword load store = rw (load, store) refl
no_access_when (Some address) (Some width) None keyword load store = refl
no_access_when (Some address) None c keyword load store = refl
no_access_when None b c keyword load store = refl

no_width_when : (a : Option ℕ) (c : Option ℕ) (keyword : List ℕ) → (a >>= λ address. None >>= λ width. c >>= λ value. access keyword address width value) ≡ None
no_width_when (Some address) c keyword = refl
no_width_when None c keyword = refl

no_value_when : (a b : Option ℕ) (keyword : List ℕ) → (a >>= λ address. b >>= λ width. None >>= λ value. access keyword address width value) ≡ None
no_value_when (Some address) (Some width) keyword = refl
no_value_when (Some address) None keyword = refl
no_value_when None b keyword = refl

no_fault_words : (keyword a b : List ℕ) → bytes_eq keyword (codes "fault") ≡ false → three_words keyword a b ≡ None
unfolding three_words
no_fault_words keyword a b other = no_fault_when (number a) (digits b) keyword other

no_access_words : (keyword a b c : List ℕ) → bytes_eq keyword (codes "load") ≡ false → bytes_eq keyword (codes "store") ≡ false → four_words keyword a b c ≡ None
unfolding four_words
no_access_words keyword a b c load store = no_access_when (digits a) (number b) (digits c) keyword load store

-- ---- the keyword alone

pub alone : (keyword : List ℕ) → what_in keyword [] ≡ one_word keyword
unfolding what_in
alone keyword = refl

pub only_none : (what : What) → only what [] ≡ Some what
unfolding only
only_none what = refl

pub only_more : (what : What) (word : List ℕ) (words : List (List ℕ)) → only what (word ∷ words) ≡ None
unfolding only
only_more what word words = refl

-- ---- a fault

no_epoch_fault : (a : List ℕ) → two_words (codes "fault") a ≡ None
unfolding two_words
no_epoch_fault a = no_epoch_when (number a) (of_epoch (codes "fault")) (λ n. refl)

no_pc_words : (keyword a b : List ℕ) → digits b ≡ None → three_words keyword a b ≡ None
unfolding three_words
no_pc_words keyword a b is = rw is (no_epoch_when (number a) (λ n. None) (λ n. refl))

no_cause_words : (keyword a b : List ℕ) → number a ≡ None → three_words keyword a b ≡ None
unfolding three_words
no_cause_words keyword a b is = rw is refl

pub fault-no_cause : (a : List ℕ) (words : List (List ℕ)) → number a ≡ None → what_in (codes "fault") (a ∷ words) ≡ None
unfolding what_in
fault-no_cause a [] is = no_epoch_fault a
fault-no_cause a (b ∷ []) is = no_cause_words (codes "fault") a b is
fault-no_cause a (b ∷ c ∷ []) is = no_access_words (codes "fault") a b c refl refl
fault-no_cause a (b ∷ c ∷ d ∷ words) is = refl

pub fault-one : (a : List ℕ) → what_in (codes "fault") (a ∷ []) ≡ None
unfolding what_in
fault-one a = no_epoch_fault a

pub fault-no_pc : (a b : List ℕ) (words : List (List ℕ)) → digits b ≡ None → what_in (codes "fault") (a ∷ b ∷ words) ≡ None
unfolding what_in
fault-no_pc a b [] is = no_pc_words (codes "fault") a b is
fault-no_pc a b (c ∷ []) is = no_access_words (codes "fault") a b c refl refl
fault-no_pc a b (c ∷ d ∷ words) is = refl

pub fault-some : (a b : List ℕ) (words : List (List ℕ)) (cause pc : ℕ) → number a ≡ Some cause → digits b ≡ Some pc
    → what_in (codes "fault") (a ∷ b ∷ words) ≡ only (Fault cause pc) words
unfolding what_in three_words only
fault-some a b [] cause pc first second = rw (first, second) refl
fault-some a b (c ∷ []) cause pc first second = no_access_words (codes "fault") a b c refl refl
fault-some a b (c ∷ d ∷ words) cause pc first second = refl

-- ---- what is said of an epoch

no_number_words : (keyword a : List ℕ) → number a ≡ None → two_words keyword a ≡ None
unfolding two_words
no_number_words keyword a is = rw is refl

epoch_words : (keyword a : List ℕ) (n : ℕ) → number a ≡ Some n → two_words keyword a ≡ of_epoch keyword n
unfolding two_words
epoch_words keyword a n is = rw is refl

pub epoch-no_number : (keyword a : List ℕ) (words : List (List ℕ)) → IsOther keyword → number a ≡ None → what_in keyword (a ∷ words) ≡ None
unfolding what_in
epoch-no_number keyword a [] other is = no_number_words keyword a is
epoch-no_number keyword a (b ∷ []) other is = no_cause_words keyword a b is
epoch-no_number keyword a (b ∷ c ∷ []) other is = no_access_words keyword a b c (no_load keyword other.no_access) (no_store keyword other.no_access)
epoch-no_number keyword a (b ∷ c ∷ d ∷ words) other is = refl

pub epoch-no_what : (keyword a : List ℕ) (words : List (List ℕ)) (n : ℕ) → IsOther keyword → number a ≡ Some n → of_epoch keyword n ≡ None
    → what_in keyword (a ∷ words) ≡ None
unfolding what_in
epoch-no_what keyword a [] n other is none = epoch_words keyword a n is ∙ none
epoch-no_what keyword a (b ∷ []) n other is none = no_fault_words keyword a b other.no_fault
epoch-no_what keyword a (b ∷ c ∷ []) n other is none = no_access_words keyword a b c (no_load keyword other.no_access) (no_store keyword other.no_access)
epoch-no_what keyword a (b ∷ c ∷ d ∷ words) n other is none = refl

pub epoch-some : (keyword a : List ℕ) (words : List (List ℕ)) (n : ℕ) (what : What) → IsOther keyword → number a ≡ Some n → of_epoch keyword n ≡ Some what
    → what_in keyword (a ∷ words) ≡ only what words
unfolding what_in only
epoch-some keyword a [] n what other is some = epoch_words keyword a n is ∙ some
epoch-some keyword a (b ∷ []) n what other is some = no_fault_words keyword a b other.no_fault
epoch-some keyword a (b ∷ c ∷ []) n what other is some = no_access_words keyword a b c (no_load keyword other.no_access) (no_store keyword other.no_access)
epoch-some keyword a (b ∷ c ∷ d ∷ words) n what other is some = refl

-- ---- an access

no_epoch_access : (load store : Bool) (keyword : List ℕ) → bytes_eq keyword (codes "load") ≡ load → bytes_eq keyword (codes "store") ≡ store → (load || store) ≡ true
    → (n : ℕ) → of_epoch keyword n ≡ None
no_epoch_access true store keyword is other some n = ap (λ k. of_epoch k n) ((bytes_eq-Decides keyword (codes "load")).0 is)
no_epoch_access false true keyword other is some n = ap (λ k. of_epoch k n) ((bytes_eq-Decides keyword (codes "store")).0 is)
no_epoch_access false false keyword load store some n = absurd cc

no_fault_access : (load store : Bool) (keyword : List ℕ) → bytes_eq keyword (codes "load") ≡ load → bytes_eq keyword (codes "store") ≡ store → (load || store) ≡ true
    → bytes_eq keyword (codes "fault") ≡ false
no_fault_access true store keyword is other some = ap (λ k. bytes_eq k (codes "fault")) ((bytes_eq-Decides keyword (codes "load")).0 is)
no_fault_access false true keyword other is some = ap (λ k. bytes_eq k (codes "fault")) ((bytes_eq-Decides keyword (codes "store")).0 is)
no_fault_access false false keyword load store some = absurd cc

access_one : (keyword a : List ℕ) → is_access keyword ≡ true → two_words keyword a ≡ None
unfolding two_words
access_one keyword a is = no_epoch_when (number a) (of_epoch keyword) (no_epoch_access (bytes_eq keyword (codes "load")) (bytes_eq keyword (codes "store")) keyword refl refl is)

access_two : (keyword a b : List ℕ) → is_access keyword ≡ true → three_words keyword a b ≡ None
access_two keyword a b is =
    no_fault_words keyword a b (no_fault_access (bytes_eq keyword (codes "load")) (bytes_eq keyword (codes "store")) keyword refl refl is)

no_address_words : (keyword a b c : List ℕ) → digits a ≡ None → four_words keyword a b c ≡ None
unfolding four_words
no_address_words keyword a b c is = rw is refl

no_width_words : (keyword a b c : List ℕ) → number b ≡ None → four_words keyword a b c ≡ None
unfolding four_words
no_width_words keyword a b c is = rw is (no_width_when (digits a) (digits c) keyword)

no_value_words : (keyword a b c : List ℕ) → digits c ≡ None → four_words keyword a b c ≡ None
unfolding four_words
no_value_words keyword a b c is = rw is (no_value_when (digits a) (number b) keyword)

access_words : (keyword a b c : List ℕ) (address width value : ℕ) → digits a ≡ Some address → number b ≡ Some width → digits c ≡ Some value
    → four_words keyword a b c ≡ access keyword address width value
unfolding four_words
access_words keyword a b c address width value first second third = rw (first, second, third) refl

pub access-no_address : (keyword a : List ℕ) (words : List (List ℕ)) → is_access keyword ≡ true → digits a ≡ None → what_in keyword (a ∷ words) ≡ None
unfolding what_in
access-no_address keyword a [] is none = access_one keyword a is
access-no_address keyword a (b ∷ []) is none = access_two keyword a b is
access-no_address keyword a (b ∷ c ∷ []) is none = no_address_words keyword a b c none
access-no_address keyword a (b ∷ c ∷ d ∷ words) is none = refl

pub access-one : (keyword a : List ℕ) → is_access keyword ≡ true → what_in keyword (a ∷ []) ≡ None
unfolding what_in
access-one keyword a is = access_one keyword a is

pub access-two : (keyword a b : List ℕ) → is_access keyword ≡ true → what_in keyword (a ∷ b ∷ []) ≡ None
unfolding what_in
access-two keyword a b is = access_two keyword a b is

pub access-no_width : (keyword a b : List ℕ) (words : List (List ℕ)) → is_access keyword ≡ true → number b ≡ None → what_in keyword (a ∷ b ∷ words) ≡ None
unfolding what_in
access-no_width keyword a b [] is none = access_two keyword a b is
access-no_width keyword a b (c ∷ []) is none = no_width_words keyword a b c none
access-no_width keyword a b (c ∷ d ∷ words) is none = refl

pub access-no_value : (keyword a b c : List ℕ) (words : List (List ℕ)) → digits c ≡ None → what_in keyword (a ∷ b ∷ c ∷ words) ≡ None
unfolding what_in
access-no_value keyword a b c [] none = no_value_words keyword a b c none
access-no_value keyword a b c (d ∷ words) none = refl

pub access-some : (keyword a b c : List ℕ) (words : List (List ℕ)) (address width value : ℕ) (what : What) → digits a ≡ Some address → number b ≡ Some width
    → digits c ≡ Some value → access keyword address width value ≡ Some what → what_in keyword (a ∷ b ∷ c ∷ words) ≡ only what words
unfolding what_in only
access-some keyword a b c [] address width value what first second third some = access_words keyword a b c address width value first second third ∙ some
access-some keyword a b c (d ∷ words) address width value what first second third some = refl

-- What is asked for where some of the words are addresses of loads that wait.
use Rattle.std.proofs.Common.{◌≡◌, ℕ, suc, ◌==◌, ◌||◌, Bool, true, false, if◌then◌else◌, List, [], ◌∷◌, length, take, drop, map, Option, Some, None, IfNone, sym, ap, subst, refl, ◌∙◌}
use Rattle.std.proofs.Math.Dec.{eqb-suc-zero}
use Rattle.std.specs.List.{drop-map, take-map}
use Rattle.trace_text.specs.TraceText.{◌>>=◌}
use Rattle.replay_command.specs.declared.words.Request.{Request}
use Rattle.replay_command.specs.Addresses.{addresses_of, wait_place, waits_in}
use Rattle.replay_command.specs.Asked.{Asked, asked_before_costs, asked_with, is_even, request_in}

abbrev asks : Option (List ℕ) → Option Request → Option Asked
asks waits request = waits >>= λ addresses. request >>= asked_with addresses

none_by : (waits : Option (List ℕ)) → asks waits None ≡ None
none_by (Some addresses) = refl
none_by None = refl

asked_by : (words : List (List ℕ)) → asked_before_costs words ≡ asks (waits_in (drop (wait_place words) words)) (request_in (take (wait_place words) words))
unfolding asked_before_costs
asked_by words = refl

parts : {A : Type 0} (text : A → List ℕ) (words before behind : List A) (place : ℕ) → place ≡ wait_place (map text words) → before ≡ take place words → behind ≡ drop place words
    → asked_before_costs (map text words) ≡ asks (waits_in (map text behind)) (request_in (map text before))
parts text words before behind place at front back =
    let behind_is : map text behind ≡ drop (wait_place (map text words)) (map text words) = ap (map text) back ∙ (sym (drop-map text place words) ∙ ap (λ n. drop n (map text words)) at) in
    let before_is : map text before ≡ take (wait_place (map text words)) (map text words) = ap (map text) front ∙ (sym (take-map text place words) ∙ ap (λ n. take n (map text words)) at) in
    asked_by (map text words) ∙ (ap (λ ws. asks (waits_in ws) (request_in (take (wait_place (map text words)) (map text words)))) (sym behind_is)
    ∙ ap (λ ws. asks (waits_in (map text behind)) (request_in ws)) (sym before_is))

-- a request, with these addresses
is_asked : {A : Type 0} (text : A → List ℕ) (words before behind : List A) (place : ℕ) → place ≡ wait_place (map text words) → before ≡ take place words → behind ≡ drop place words
    → (addresses : List ℕ) (request : Request) → waits_in (map text behind) ≡ Some addresses → request_in (map text before) ≡ Some request
    → asked_before_costs (map text words) ≡ asked_with addresses request
is_asked text words before behind place at front back addresses request waits found =
    parts text words before behind place at front back ∙ (ap (λ w. asks w (request_in (map text before))) waits ∙ ap (asks (Some addresses)) found)

pub no_waits : {A : Type 0} (text : A → List ℕ) (words before behind : List A) (place : ℕ) → place ≡ wait_place (map text words) → before ≡ take place words → behind ≡ drop place words
    → waits_in (map text behind) ≡ None → asked_before_costs (map text words) ≡ None
no_waits text words before behind place at front back none = parts text words before behind place at front back ∙ ap (λ w. asks w (request_in (map text before))) none

pub no_request : {A : Type 0} (text : A → List ℕ) (words before behind : List A) (place : ℕ) → place ≡ wait_place (map text words) → before ≡ take place words → behind ≡ drop place words
    → request_in (map text before) ≡ None → asked_before_costs (map text words) ≡ None
no_request text words before behind place at front back none =
    parts text words before behind place at front back ∙ (ap (asks (waits_in (map text behind))) none ∙ none_by (waits_in (map text behind)))

-- only the run at even speed has loads that wait
some_may : (may : Bool) (asked : Asked) → may ≡ true → (if may then Some asked else None) ≡ Some asked
some_may may asked is = subst (λ (m : Bool). (if m then Some asked else None) ≡ Some asked) (sym is) refl

none_may : (may : Bool) (asked : Asked) → may ≡ false → (if may then Some asked else None) ≡ None
none_may may asked is = subst (λ (m : Bool). (if m then Some asked else None) ≡ None) (sym is) refl

of_some : (n : ℕ) (even may : Bool) → ((suc n == 0) || even) ≡ may → even ≡ may
of_some n even may is = ap (λ (b : Bool). b || even) (sym (eqb-suc-zero n)) ∙ is

allowed : {A : Type 0} (text : A → List ℕ) (waits : List A) (request : Request) → ((length waits == 0) || is_even request.turns) ≡ true
    → asked_with (addresses_of (map text waits)) request ≡ Some (record { request = request; addresses = addresses_of (map text waits) })
allowed text [] request may = refl
allowed text (word ∷ waits) request may =
    some_may (is_even request.turns) (record { request = request; addresses = addresses_of (map text (word ∷ waits)) }) (of_some (length waits) (is_even request.turns) true may)

refused : {A : Type 0} (text : A → List ℕ) (waits : List A) (request : Request) → ((length waits == 0) || is_even request.turns) ≡ false → asked_with (addresses_of (map text waits)) request ≡ None
refused text [] request may = absurd cc
refused text (word ∷ waits) request may =
    none_may (is_even request.turns) (record { request = request; addresses = addresses_of (map text (word ∷ waits)) }) (of_some (length waits) (is_even request.turns) false may)

pub may_wait : {A : Type 0} (text : A → List ℕ) (words before behind waits : List A) (place : ℕ) → place ≡ wait_place (map text words) → before ≡ take place words → behind ≡ drop place words
    → (request : Request) → waits_in (map text behind) ≡ Some (addresses_of (map text waits)) → request_in (map text before) ≡ Some request → ((length waits == 0) || is_even request.turns) ≡ true
    → asked_before_costs (map text words) ≡ Some (record { request = request; addresses = addresses_of (map text waits) })
may_wait text words before behind waits place at front back request found is may =
    is_asked text words before behind place at front back (addresses_of (map text waits)) request found is ∙ allowed text waits request may

pub may_not : {A : Type 0} (text : A → List ℕ) (words before behind waits : List A) (place : ℕ) → place ≡ wait_place (map text words) → before ≡ take place words → behind ≡ drop place words
    → (request : Request) → waits_in (map text behind) ≡ Some (addresses_of (map text waits)) → request_in (map text before) ≡ Some request → ((length waits == 0) || is_even request.turns) ≡ false
    → asked_before_costs (map text words) ≡ None
may_not text words before behind waits place at front back request found is may =
    is_asked text words before behind place at front back (addresses_of (map text waits)) request found is ∙ refused text waits request may

pub none_too : {A : Type 0} {P : Type 0} (found : Option A) → P → IfNone found P
none_too None is = is
none_too (Some a) is = tt

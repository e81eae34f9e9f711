-- What is asked for where some of the words are addresses of loads that wait.
use Rattle.std.proofs.Common.{◌≡◌, ℕ, Bool, List, take, drop, map, Option, Some, None, false, sym, ap, refl, ◌∙◌}
use Rattle.std.specs.List.{drop-map, take-map}
use Rattle.trace_commands.specs.Stores.{stores_asked_in}
use Rattle.replay_command.specs.Addresses.{wait_place, waits_in}
use Rattle.gain.specs.Asked.{asked_before_limits, asked_of, asked_where, asks_held, without_held}

asked_by : (limits : Bool) (words : List (List ℕ)) → asked_before_limits limits words ≡ asked_of limits (take (wait_place words) words) (drop (wait_place words) words)
unfolding asked_before_limits
asked_by limits words = refl

none_by : (limits held : Bool) (waits : Option (List ℕ)) → asked_where limits held waits None ≡ None
none_by limits held (Some addresses) = refl
none_by limits held None = refl

parts : {A : Type 0} (text : A → List ℕ) (words before behind : List A) (place : ℕ) → place ≡ wait_place (map text words) → before ≡ take place words → behind ≡ drop place words
    → (limits : Bool) → asked_before_limits limits (map text words) ≡ asked_of limits (map text before) (map text behind)
parts text words before behind place at front back limits =
    let behind_is : map text behind ≡ drop (wait_place (map text words)) (map text words) = ap (map text) back ∙ (sym (drop-map text place words) ∙ ap (λ n. drop n (map text words)) at) in
    let before_is : map text before ≡ take (wait_place (map text words)) (map text words) = ap (map text) front ∙ (sym (take-map text place words) ∙ ap (λ n. take n (map text words)) at) in
    asked_by limits (map text words) ∙ (ap (asked_of limits (take (wait_place (map text words)) (map text words))) (sym behind_is)
    ∙ ap (λ ws. asked_of limits ws (map text behind)) (sym before_is))

pub are_asked : {A : Type 0} (text : A → List ℕ) (words before rest behind : List A) (place : ℕ) → place ≡ wait_place (map text words) → before ≡ take place words → behind ≡ drop place words
    → (held : Bool) → held ≡ asks_held (map text before) → map text rest ≡ without_held (map text before)
    → (limits : Bool) (addresses : List ℕ) (cores : ℕ) (stores : List (List ℕ)) → waits_in (map text behind) ≡ Some addresses → stores_asked_in (map text rest) ≡ Some (record { cores = cores; stores = stores })
    → asked_before_limits limits (map text words) ≡ Some (record { cores = cores; stores = stores; held = held; addresses = addresses; limits = limits; costs = None; even = false })
are_asked text words before rest behind place at front back held is without limits addresses cores stores waits found =
    parts text words before behind place at front back limits
    ∙ (ap (λ h. asked_where limits h (waits_in (map text behind)) (stores_asked_in (without_held (map text before)))) (sym is)
    ∙ (ap (λ w. asked_where limits held w (stores_asked_in (without_held (map text before)))) waits
    ∙ ap (asked_where limits held (Some addresses)) (ap stores_asked_in (sym without) ∙ found)))

pub no_waits : {A : Type 0} (text : A → List ℕ) (words before behind : List A) (place : ℕ) → place ≡ wait_place (map text words) → before ≡ take place words → behind ≡ drop place words
    → (limits : Bool) → waits_in (map text behind) ≡ None → asked_before_limits limits (map text words) ≡ None
no_waits text words before behind place at front back limits none =
    parts text words before behind place at front back limits
    ∙ ap (λ w. asked_where limits (asks_held (map text before)) w (stores_asked_in (without_held (map text before)))) none

pub no_stores : {A : Type 0} (text : A → List ℕ) (words before rest behind : List A) (place : ℕ) → place ≡ wait_place (map text words) → before ≡ take place words → behind ≡ drop place words
    → map text rest ≡ without_held (map text before) → (limits : Bool) → stores_asked_in (map text rest) ≡ None → asked_before_limits limits (map text words) ≡ None
no_stores text words before rest behind place at front back without limits none =
    parts text words before behind place at front back limits
    ∙ (ap (asked_where limits (asks_held (map text before)) (waits_in (map text behind))) (ap stores_asked_in (sym without) ∙ none)
    ∙ none_by limits (asks_held (map text before)) (waits_in (map text behind)))

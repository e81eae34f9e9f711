-- The attempts that were violated are those that explanations tell of, and what these lost is what they had executed.
use Rattle.std.proofs.Common.{◌≡◌, ◌≢◌, ℕ, zero, suc, ◌+◌, Bool, true, false, cond, List, [], ◌∷◌, ◌++◌, length, take, map, filter, All, slice_get, Option, Some, None, option_and_then, option_map, option_to_list, sum_by, refl, sym, ap, ◌∙◌, inl, inr, arith, eq-eqb, ne_eqb}
use Rattle.std.specs.List.{flat_map}
use Rattle.std.proofs.lemmas.Bool.{cases_eq}
use Rattle.std.proofs.lemmas.Grind.{flat_map-append}
use Rattle.std.proofs.lemmas.List.{append-nil, map-append}
use Rattle.std.proofs.lemmas.List.Concat.{flat_map-cons}
use Rattle.std.proofs.lemmas.List.Elements.{filter-append}
use Rattle.std.proofs.lemmas.List.Sums.{sum_by-cons}
use Rattle.rv32_image.specs.Image.{LoadedImage, IsImage}
use Rattle.rv32_image.proofs.SmallFacts.{one_value}
use Rattle.spec_history.specs.declared.entry.Entry.{Entry}
use Rattle.spec_history.specs.declared.entry.What.{What}
use Rattle.spec_history.specs.declared.entry.What.TheVariants.{Start, Load, Store, Hurt, Cancel, Restart, Publish, Commit, Fault}
use Rattle.spec_history.specs.declared.illegal.Illegal.{Illegal}
use Rattle.spec_history.specs.FlatState.{CoreState, FlatState}
use Rattle.spec_history.specs.Laws.{IsKept}
use Rattle.spec_history.specs.Refusal.{has, is_at, refusal_of}
use Rattle.spec_history.specs.Replay.{replay, replay_from, where_legal}
use Rattle.spec_history.proofs.Replay.Joining.{splits}
use Rattle.spec_history.proofs.OneEntry.Legal.{legal_entry}
use Rattle.spec_history.proofs.Replay.Replays.{replayed}
use Rattle.conflicts.specs.declared.explanation.Explanation.{Explanation}
use Rattle.conflicts.specs.declared.explanation.Runner.{Runner}
use Rattle.spec_history.specs.Conflict.{entry_is, passes, is_hurt}
use Rattle.conflicts.specs.Attempts.{core_at, state_before}
use Rattle.conflicts.specs.Explained.{IsExplained, places_of, violations_before}
use Rattle.spec_history.proofs.Searches.Tests.{first_at}
use Rattle.conflict_findings.specs.declared.ended.Ended.{Ended}
use Rattle.conflict_findings.specs.declared.ended.Ending.{Ending}
use Rattle.conflict_findings.specs.declared.ended.Ending.TheVariants.{Committed, Violated, Cancelled}
use Rattle.conflict_findings.specs.Ends.{ended_as, ended_at, ended_before, ended_by, ended_with, runner_in}
use Rattle.conflict_findings.specs.Tallies as tallies
use Rattle.conflict_findings.specs.Tallies.{is_ended}
use Rattle.conflict_findings.proofs.Growing.{ended_is, none_ended, one_ended}

-- ---- an entry of a history that replays is legal

rest_at : (entries : List Entry) (place : ℕ) (entry : Entry) → slice_get entries place ≡ Some entry → (later : List Entry) × (take place entries ++ entry ∷ later ≡ entries)
rest_at [] place entry is = absurd cc
rest_at (first ∷ rest) zero entry is = let same : first ≡ entry = cc in (rest, ap (λ e. e ∷ rest) (sym same))
rest_at (first ∷ rest) (suc place) entry is = let more = rest_at rest place entry is in (more.0, ap (λ es. first ∷ es) more.1)

no_refusal : (refusal : Option Illegal) (next : Option FlatState) (last : FlatState) → where_legal refusal next ≡ Some last → refusal ≡ None
no_refusal None next last is = refl
no_refusal (Some r) next last is = absurd cc

pub first_legal : (image : LoadedImage) (count : ℕ) (s last : FlatState) (entry : Entry) (later : List Entry) → replay_from image count s (entry ∷ later) ≡ Some last → refusal_of image count s entry ≡ None
unfolding replay_from
first_legal image count s last entry later is = no_refusal (refusal_of image count s entry) _ last is

legal_at : (image : LoadedImage) (count : ℕ) (entries : List Entry) (last s : FlatState) (place : ℕ) (entry : Entry) → replay image count entries ≡ Some last
    → replay image count (take place entries) ≡ Some s → slice_get entries place ≡ Some entry → refusal_of image count s entry ≡ None
legal_at image count entries last s place entry replays before there =
    let rest = rest_at entries place entry there in
    let parts = splits image count (take place entries) (entry ∷ rest.0) last (ap (replay image count) rest.1 ∙ replays) in
    ap (λ t. refusal_of image count t entry) (one_value _ s parts.between before parts.first_replays) ∙ first_legal image count parts.between last entry rest.0 parts.later_replays

-- ---- the core of an epoch

not_at : (core : Option CoreState) (epoch : ℕ) → ((c : CoreState) → core ≡ Some c → c.epoch ≡ epoch → ⊥) → is_at epoch core ≡ false
not_at None epoch other = refl
not_at (Some c) epoch other = elim (cases_eq c.epoch epoch) [
  | inl e ↦ absurd (other c refl e)
  | inr differ ↦ ne_eqb c.epoch epoch differ
]

pub found_core : (image : LoadedImage) (count : ℕ) (s : FlatState) (core epoch : ℕ) (c : CoreState) → IsKept image count s → s.cores core ≡ Some c → epoch ≡ c.epoch → core_at count s epoch ≡ Some core
found_core image count s core epoch c kept runs is =
    first_at count (λ k. is_at epoch (s.cores k)) core (kept.core core c runs).there (ap (is_at epoch) runs ∙ eq-eqb c.epoch epoch (sym is))
    (λ j before. not_at (s.cores j) epoch (λ d at same. let clash : j ≡ core = kept.apart j core d c at runs (same ∙ is) in omega (arith, before, clash)))

-- ---- what a list of attempts says of those that were violated

abbrev lost_of : List Ended → List ℕ
lost_of ended = map (λ (e : Ended). e.done) (filter (is_ended Violated) ended)

lost_more : (xs ys : List Ended) → lost_of (xs ++ ys) ≡ lost_of xs ++ lost_of ys
lost_more xs ys = ap (map (λ (e : Ended). e.done)) (filter-append (is_ended Violated) xs ys) ∙ map-append (λ (e : Ended). e.done) (filter (is_ended Violated) xs) (filter (is_ended Violated) ys)

-- at a place
abbrev lost_at : LoadedImage → ℕ → List Entry → ℕ → List ℕ
lost_at image count entries place = lost_of (option_to_list (ended_at image count entries place))

-- ---- a violation

ended_victim : (image : LoadedImage) (entries : List Entry) (s : FlatState) (place by core : ℕ) (a c : CoreState) → s.cores by ≡ Some a → s.cores core ≡ Some c
    → ended_as image entries s place Violated by core ≡ Some (ended_with image entries place Violated (record { core = by; epoch = a.epoch }) core c)
ended_victim image entries s place by core a c causer victim =
    ap (λ (o : Option CoreState). option_and_then (λ (r : Runner). option_map (ended_with image entries place Violated r core) (s.cores core)) (option_map (λ (x : CoreState). record { core = by; epoch = x.epoch }) o)) causer
    ∙ ap (option_map (ended_with image entries place Violated (record { core = by; epoch = a.epoch }) core)) victim

lost_there : (image : LoadedImage) (count : ℕ) (entries : List Entry) (last : FlatState) (e : Explanation) → IsImage image → replay image count entries ≡ Some last → IsExplained image count entries e
    → lost_at image count entries e.place ≡ e.lost ∷ []
lost_there image count entries last e is replays so =
    let s = so.before in
    let x = so.explained in
    let legal = legal_at image count entries last s e.place _ replays so.replays x.entry in
    let kept = ((replayed image count (take e.place entries) s is so.replays).going (legal_entry image count s _ legal).going).kept in
    let found = found_core image count s e.victim.core e.victim.epoch x.violated kept x.victim_runs x.victim_epoch in
    ap (λ (o : Option Ended). lost_of (option_to_list o))
    (ended_is image count entries e.place s _ so.replays x.entry
    ∙ (ap (option_and_then (ended_as image entries s e.place Violated e.causer.core)) found
    ∙ ended_victim image entries s e.place e.causer.core e.victim.core x.causing x.violated x.causer_runs x.victim_runs))
    ∙ ap (λ n. n ∷ []) (sym x.lost)

all_there : (image : LoadedImage) (count : ℕ) (entries : List Entry) (last : FlatState) (found : List Explanation) → IsImage image → replay image count entries ≡ Some last
    → All (IsExplained image count entries) found → flat_map (lost_at image count entries) (places_of found) ≡ map (λ (e : Explanation). e.lost) found
all_there image count entries last [] is replays all = refl
all_there image count entries last (e ∷ es) is replays all =
    flat_map-cons (lost_at image count entries) e.place (places_of es)
    ∙ (ap (λ ns. ns ++ flat_map (lost_at image count entries) (places_of es)) (lost_there image count entries last e is replays (all 0 e (omega arith)))
    ∙ ap (λ ns. e.lost ∷ ns) (all_there image count entries last es is replays (λ k d below. all (suc k) d (omega (arith, below)))))

-- ---- another entry violates nothing

other_end : (image : LoadedImage) (entries : List Entry) (place core : ℕ) (ending : Ending) (r : Option Runner) (o : Option CoreState) → ending ≢ Violated
    → lost_of (option_to_list (option_and_then (λ (x : Runner). option_map (ended_with image entries place ending x core) o) r)) ≡ []
other_end image entries place core ending None o other = refl
other_end image entries place core ending (Some x) None other = refl
other_end image entries place core Committed (Some x) (Some c) other = refl
other_end image entries place core Violated (Some x) (Some c) other = absurd (other refl)
other_end image entries place core Cancelled (Some x) (Some c) other = refl

pick_none : (image : LoadedImage) (entries : List Entry) (s : FlatState) (place by core : ℕ) (b : Bool) → lost_of (option_to_list (cond b None (ended_as image entries s place Cancelled by core))) ≡ []
pick_none image entries s place by core true = refl
pick_none image entries s place by core false = other_end image entries place core Cancelled (runner_in s by) (s.cores core) (λ e. cc)

cancels_none : (image : LoadedImage) (entries : List Entry) (s : FlatState) (place by : ℕ) (o : Option ℕ)
    → lost_of (option_to_list (option_and_then (λ k. cond (has (s.cores k) (λ c. c.hurt)) None (ended_as image entries s place Cancelled by k)) o)) ≡ []
cancels_none image entries s place by None = refl
cancels_none image entries s place by (Some core) = pick_none image entries s place by core (has (s.cores core) (λ c. c.hurt))

quiet : (image : LoadedImage) (count : ℕ) (entries : List Entry) (s : FlatState) (place by : ℕ) (what : What) → is_hurt what ≡ false → lost_of (option_to_list (ended_by image count entries s place by what)) ≡ []
quiet image count entries s place by (Start epoch) calm = refl
quiet image count entries s place by (Load address width value) calm = refl
quiet image count entries s place by (Store address width value) calm = refl
quiet image count entries s place by (Hurt epoch) calm = absurd cc
quiet image count entries s place by (Cancel epoch) calm = cancels_none image entries s place by (core_at count s epoch)
quiet image count entries s place by Restart calm = refl
quiet image count entries s place by Publish calm = refl
quiet image count entries s place by Commit calm = other_end image entries place by Committed (runner_in s by) (s.cores by) (λ e. cc)
quiet image count entries s place by (Fault cause pc) calm = other_end image entries place by Committed (runner_in s by) (s.cores by) (λ e. cc)

quiet_by : (image : LoadedImage) (count : ℕ) (entries : List Entry) (place : ℕ) (o : Option FlatState) (entry : Option Entry) → passes entry (λ e. is_hurt e.what) ≡ false
    → lost_of (option_to_list (option_and_then (λ (s : FlatState). option_and_then (λ (e : Entry). ended_by image count entries s place e.by e.what) entry) o)) ≡ []
quiet_by image count entries place None entry calm = refl
quiet_by image count entries place (Some s) None calm = refl
quiet_by image count entries place (Some s) (Some entry) calm = quiet image count entries s place entry.by entry.what calm

-- ---- all places

none_violated : (entries : List Entry) → violations_before entries 0 ≡ []
unfolding violations_before
none_violated entries = refl

violated_more : (entries : List Entry) (place : ℕ) (b : Bool) → entry_is entries place (λ e. is_hurt e.what) ≡ b
    → violations_before entries (suc place) ≡ cond b (violations_before entries place ++ place ∷ []) (violations_before entries place)
unfolding violations_before
violated_more entries place b is = rw is refl

one_place : (image : LoadedImage) (count : ℕ) (entries : List Entry) (place : ℕ) (b : Bool) → entry_is entries place (λ e. is_hurt e.what) ≡ b
    → flat_map (lost_at image count entries) (violations_before entries place) ++ lost_at image count entries place
    ≡ flat_map (lost_at image count entries) (cond b (violations_before entries place ++ place ∷ []) (violations_before entries place))
one_place image count entries place true is =
    let f = lost_at image count entries in
    sym (flat_map-append f (violations_before entries place) (place ∷ [])
    ∙ ap (λ ns. flat_map f (violations_before entries place) ++ ns) (flat_map-cons f place [] ∙ append-nil (f place)))
one_place image count entries place false is =
    let f = lost_at image count entries in
    ap (λ ns. flat_map f (violations_before entries place) ++ ns) (quiet_by image count entries place (state_before image count entries place) (slice_get entries place) is)
    ∙ append-nil (flat_map f (violations_before entries place))

by_places : (image : LoadedImage) (count : ℕ) (entries : List Entry) (place : ℕ) → lost_of (ended_before image count entries place) ≡ flat_map (lost_at image count entries) (violations_before entries place)
by_places image count entries zero =
    ap lost_of (sym (none_ended image count entries)) ∙ sym (ap (flat_map (lost_at image count entries)) (none_violated entries))
by_places image count entries (suc place) =
    let b = entry_is entries place (λ e. is_hurt e.what) in
    ap lost_of (one_ended image count entries place)
    ∙ (lost_more (ended_before image count entries place) (option_to_list (ended_at image count entries place))
    ∙ (ap (λ ns. ns ++ lost_at image count entries place) (by_places image count entries place)
    ∙ (one_place image count entries place b refl ∙ sym (ap (flat_map (lost_at image count entries)) (violated_more entries place b refl)))))

-- ---- the law

pub each_lost : (image : LoadedImage) (count : ℕ) (entries : List Entry) (last : FlatState) (found : List Explanation) → IsImage image → replay image count entries ≡ Some last
    → All (IsExplained image count entries) found → places_of found ≡ violations_before entries (length entries)
    → map (λ (e : Ended). e.done) (filter (is_ended Violated) (ended_before image count entries (length entries))) ≡ map (λ (e : Explanation). e.lost) found
each_lost image count entries last found is replays all places =
    by_places image count entries (length entries)
    ∙ (ap (flat_map (lost_at image count entries)) (sym places) ∙ all_there image count entries last found is replays all)

summed_by : (p : Ended → Bool) (e : Ended) (es : List Ended) (b : Bool) → p e ≡ b → sum_by (λ n. n) (map (λ (x : Ended). x.done) (filter p (e ∷ es))) ≡ cond b e.done 0 + sum_by (λ n. n) (map (λ (x : Ended). x.done) (filter p es))
summed_by p e es true is = rw is (sum_by-cons (λ n. n) e.done (map (λ (x : Ended). x.done) (filter p es)))
summed_by p e es false is = rw is (omega arith)

summed : (p : Ended → Bool) (es : List Ended) → sum_by (λ n. n) (map (λ (e : Ended). e.done) (filter p es)) ≡ sum_by (λ (e : Ended). cond (p e) e.done 0) es
summed p [] = refl
summed p (e ∷ es) = omega (arith, summed_by p e es (p e) refl, sum_by-cons (λ (x : Ended). cond (p x) x.done 0) e es, summed p es)

summed_map : (es : List Explanation) → sum_by (λ n. n) (map (λ (e : Explanation). e.lost) es) ≡ sum_by (λ (e : Explanation). e.lost) es
summed_map [] = refl
summed_map (e ∷ es) =
    omega (arith, sum_by-cons (λ n. n) e.lost (map (λ (x : Explanation). x.lost) es), sum_by-cons (λ (x : Explanation). x.lost) e es, summed_map es)

pub all_lost : (image : LoadedImage) (count : ℕ) (entries : List Entry) (last : FlatState) (found : List Explanation) → IsImage image → replay image count entries ≡ Some last
    → All (IsExplained image count entries) found → places_of found ≡ violations_before entries (length entries)
    → tallies.done_in Violated (ended_before image count entries (length entries)) ≡ sum_by (λ (e : Explanation). e.lost) found
all_lost image count entries last found is replays all places =
    sym (summed (is_ended Violated) (ended_before image count entries (length entries)))
    ∙ (ap (sum_by (λ n. n)) (each_lost image count entries last found is replays all places) ∙ summed_map found)

-- Explanations that grow by one entry of the history.
use Rattle.std.proofs.Common.{◌≡◌, ◌≢◌, ℕ, suc, ◌+◌, ◌==◌, ◌&&◌, not, Bool, true, false, is_some, nat_lt, slice_get, option_map, List, [], ◌∷◌, ◌++◌, take, All, IfSome, Option, Some, None, option_to_list, refl, sym, ap, ◌∙◌, add-one, eqb-true}
use Rattle.std.proofs.lemmas.Bool.{and_parts}
use Rattle.std.proofs.lemmas.List.{append-nil, map-append}
use Rattle.std.proofs.lemmas.List.Elements.{All-push}
use Rattle.rv32_image.specs.Image.{LoadedImage}
use Rattle.spec_history.specs.declared.entry.Entry.{Entry}
use Rattle.spec_history.specs.declared.entry.What.{What}
use Rattle.spec_history.specs.declared.entry.What.TheVariants.{Hurt}
use Rattle.rv32_exec.specs.Arrival.{Arrival}
use Rattle.spec_history.specs.FlatState.{CoreState, FlatState, arrival_of}
use Rattle.spec_history.specs.Refusal.{any_below, can_be_hurt, is_at, runs_and, refusal_of}
use Rattle.spec_history.specs.Replay.{replay}
use Rattle.spec_history.proofs.OneEntry.Legal.{legal_entry, some_below}
use Rattle.spec_history.proofs.Searches.Tests.{one_passes}
use Rattle.conflicts.specs.declared.explanation.Blame.{Blame}
use Rattle.conflicts.specs.declared.explanation.Explanation.{Explanation}
use Rattle.spec_history.specs.declared.kind.Kind.{Kind}
use Rattle.spec_history.specs.declared.kind.Kind.TheVariants.{Unexplained}
use Rattle.spec_history.specs.Conflict.{AreKnown, entry_is, passes, cause_of, is_hurt, kind_of, what_at}
use Rattle.conflicts.specs.Later.{later_by}
use Rattle.conflicts.specs.Explained.{IsExplained, IsExplainedIn, blame_by, places_of, violations_before}

-- ---- one violation for each place

pub no_places : (entries : List Entry) → places_of [] ≡ violations_before entries 0
unfolding violations_before
no_places entries = refl

one_more : (entries : List Entry) (place : ℕ) → entry_is entries place (λ e. is_hurt e.what) ≡ true
    → violations_before entries (suc place) ≡ violations_before entries place ++ place ∷ []
unfolding violations_before
one_more entries place is = rw is refl

no_more : (entries : List Entry) (place : ℕ) → entry_is entries place (λ e. is_hurt e.what) ≡ false
    → violations_before entries (suc place) ≡ violations_before entries place
unfolding violations_before
no_more entries place is = rw is refl

-- what is found at a place: an explanation of it where there is a violation, and only there
pub each_more : (image : LoadedImage) (s : FlatState) (entries : List Entry) (place : ℕ) (xs : List Explanation) (found : Option Explanation)
    → is_some found ≡ entry_is entries place (λ e. is_hurt e.what)
    → IfSome found (λ e. (e.place ≡ place) × IsExplainedIn image s entries e)
    → places_of xs ≡ violations_before entries place
    → places_of (xs ++ option_to_list found) ≡ violations_before entries (place + 1)
each_more image s entries place xs None there is each =
    ap places_of (append-nil xs) ∙ (each ∙ sym (ap (violations_before entries) (add-one place) ∙ no_more entries place (sym there)))
each_more image s entries place xs (Some e) there is each =
    map-append (λ (x : Explanation). x.place) xs (e ∷ [])
    ∙ (ap (λ ys. ys ++ e.place ∷ []) each ∙ (ap (λ n. violations_before entries place ++ n ∷ []) is.0
    ∙ sym (ap (violations_before entries) (add-one place) ∙ one_more entries place (sym there))))

pub explained_more : (image : LoadedImage) (count : ℕ) (s : FlatState) (entries : List Entry) (place : ℕ) (xs : List Explanation) (found : Option Explanation)
    → replay image count (take place entries) ≡ Some s
    → IfSome found (λ e. (e.place ≡ place) × IsExplainedIn image s entries e)
    → All (IsExplained image count entries) xs → All (IsExplained image count entries) (xs ++ option_to_list found)
explained_more image count s entries place xs None replays is all = rw (append-nil xs) all
explained_more image count s entries place xs (Some e) replays is all =
    All-push (IsExplained image count entries) xs e all
    (record { before = s; replays = ap (λ n. replay image count (take n entries)) is.0 ∙ replays; explained = is.1 })

-- ---- who is there at a violation that is legal

at_epoch : (epoch : ℕ) (core : Option CoreState) → can_be_hurt epoch core ≡ true → is_at epoch core ≡ true
at_epoch epoch None is = absurd cc
at_epoch epoch (Some c) is =
    let rest = and_parts (not c.hurt) ((c.epoch == epoch) && not c.straight) is in (and_parts (c.epoch == epoch) (not c.straight) rest.1).0

pub victim_there : (image : LoadedImage) (count : ℕ) (s : FlatState) (by epoch : ℕ) → refusal_of image count s (record { by = by; what = Hurt epoch }) ≡ None
    → any_below count (λ k. is_at epoch (s.cores k)) ≡ true
victim_there image count s by epoch legal =
    let there = (legal_entry image count s (record { by = by; what = Hurt epoch }) legal).there in
    let both = and_parts (runs_and (s.cores by) (λ c. nat_lt c.epoch epoch)) (any_below count (λ k. can_be_hurt epoch (s.cores k))) there in
    let found = some_below count (λ k. can_be_hurt epoch (s.cores k)) both.1 in
    one_passes count (λ k. is_at epoch (s.cores k)) found.0 found.1 (at_epoch epoch (s.cores found.0) found.2)

there_by : (core : Option CoreState) (test : CoreState → Bool) → runs_and core test ≡ true → is_some core ≡ true
there_by None test is = absurd cc
there_by (Some c) test is = refl

pub causer_there : (image : LoadedImage) (count : ℕ) (s : FlatState) (by epoch : ℕ) → refusal_of image count s (record { by = by; what = Hurt epoch }) ≡ None
    → is_some (s.cores by) ≡ true
causer_there image count s by epoch legal =
    let there = (legal_entry image count s (record { by = by; what = Hurt epoch }) legal).there in
    let both = and_parts (runs_and (s.cores by) (λ c. nat_lt c.epoch epoch)) (any_below count (λ k. can_be_hurt epoch (s.cores k))) there in
    there_by (s.cores by) (λ c. nat_lt c.epoch epoch) both.0

-- ---- an explanation that was made is right

as_hurt : (image : LoadedImage) (count : ℕ) (s : FlatState) (entry : Entry) (epoch : ℕ) → entry.what ≡ Hurt epoch → refusal_of image count s entry ≡ None
    → refusal_of image count s (record { by = entry.by; what = Hurt epoch }) ≡ None
as_hurt image count s entry epoch is legal = ap (λ (w : What). refusal_of image count s (record { by = entry.by; what = w })) (sym is) ∙ legal

-- a legal violation has a victim and a causer
pub no_victim : (image : LoadedImage) (count : ℕ) (s : FlatState) (entry : Entry) (epoch : ℕ) → entry.what ≡ Hurt epoch → refusal_of image count s entry ≡ None
    → any_below count (λ k. is_at epoch (s.cores k)) ≡ false → false ≡ true
no_victim image count s entry epoch is legal none = sym none ∙ victim_there image count s entry.by epoch (as_hurt image count s entry epoch is legal)

no_one : (core : Option CoreState) → option_map (λ (c : CoreState). c.epoch) core ≡ None → is_some core ≡ false
no_one None none = refl
no_one (Some c) none = absurd cc

pub no_causer : (image : LoadedImage) (count : ℕ) (s : FlatState) (entry : Entry) (epoch : ℕ) → entry.what ≡ Hurt epoch → refusal_of image count s entry ≡ None
    → option_map (λ (c : CoreState). c.epoch) (s.cores entry.by) ≡ None → false ≡ true
no_causer image count s entry epoch is legal none =
    sym (no_one (s.cores entry.by) none) ∙ causer_there image count s entry.by epoch (as_hurt image count s entry epoch is legal)

epoch_of : (core : Option CoreState) (epoch : ℕ) → option_map (λ (c : CoreState). c.epoch) core ≡ Some epoch → (c : CoreState) × (core ≡ Some c) × (epoch ≡ c.epoch)
epoch_of None epoch is = absurd cc
epoch_of (Some c) epoch is = (c, refl, cc)

next_of : (image : LoadedImage) (core : Option CoreState) (next : Arrival) → option_map (λ (c : CoreState). arrival_of image c.hart) core ≡ Some next
    → (c : CoreState) × (core ≡ Some c) × (next ≡ arrival_of image c.hart)
next_of image None next is = absurd cc
next_of image (Some c) next is = (c, refl, cc)

runs_it : (core : Option CoreState) (c : CoreState) (epoch : ℕ) → core ≡ Some c → is_at epoch core ≡ true → epoch ≡ c.epoch
runs_it core c epoch at is = sym (eqb-true c.epoch epoch (sym (ap (is_at epoch) at) ∙ is))

pub explained_by : (image : LoadedImage) (s : FlatState) (entries : List Entry) (place : ℕ) (entry : Entry) (epoch causing victim : ℕ) (next : Arrival) (cause : Option ℕ) (kind : Kind) (blame : Option Blame) (later : Option ℕ) (lost entered : ℕ)
    → slice_get entries place ≡ Some entry → entry.what ≡ Hurt epoch
    → option_map (λ (c : CoreState). c.epoch) (s.cores entry.by) ≡ Some causing
    → is_at epoch (s.cores victim) ≡ true
    → option_map (λ (c : CoreState). arrival_of image c.hart) (s.cores victim) ≡ Some next
    → cause ≡ cause_of entries place entry.by
    → kind ≡ kind_of image s entry.by victim (what_at entries cause)
    → blame ≡ blame_by image s entries place entry.by victim kind cause (what_at entries cause)
    → later ≡ later_by image s entries entry.by victim kind cause
    → lost ≡ next.now.done → entered ≡ next.base.done
    → IsExplainedIn image s entries (record {
      place = place;
      causer = record { core = entry.by; epoch = causing };
      victim = record { core = victim; epoch = epoch };
      cause = cause;
      kind = kind;
      blame = blame;
      later = later;
      lost = lost;
      entered = entered;
    })
explained_by image s entries place entry epoch causing victim next cause kind blame later lost entered at is by_epoch here by_next by_cause by_kind by_blame by_later by_lost by_entered =
    let a = epoch_of (s.cores entry.by) causing by_epoch in
    let v = next_of image (s.cores victim) next by_next in
    record {
      causing = a.0;
      causer_runs = a.1;
      causer_epoch = a.2;
      violated = v.0;
      victim_runs = v.1;
      victim_epoch = runs_it (s.cores victim) v.0 epoch v.1 here;
      entry = at ∙ ap (λ (w : What). Some (record { by = entry.by; what = w })) is;
      cause = by_cause;
      kind = by_kind;
      blame = by_blame;
      later = by_later;
      lost = by_lost ∙ ap (λ (n : Arrival). n.now.done) v.2;
      entered = by_entered ∙ ap (λ (n : Arrival). n.base.done) v.2;
    }

pub legal_in : (image : LoadedImage) (count n : ℕ) (s : FlatState) (entry : Entry) → n ≡ count → refusal_of image n s entry ≡ None → refusal_of image count s entry ≡ None
legal_in image count n s entry counts legal = ap (λ m. refusal_of image m s entry) (sym counts) ∙ legal

pub hurt_there : (entries : List Entry) (place : ℕ) (entry : Entry) (epoch : ℕ) → slice_get entries place ≡ Some entry → entry.what ≡ Hurt epoch
    → true ≡ entry_is entries place (λ e. is_hurt e.what)
hurt_there entries place entry epoch at is = sym (ap (λ o. passes o (λ (e : Entry). is_hurt e.what)) at ∙ ap is_hurt is)

-- ---- what is known of each violation is known of its explanation

pub is_of_a_kind : (image : LoadedImage) (count : ℕ) (entries : List Entry) (e : Explanation) → AreKnown image count entries → IsExplained image count entries e → e.kind ≢ Unexplained
is_of_a_kind image count entries e known explained same =
    let x = explained.explained in
    known e.place e.causer.core e.victim.core explained.before x.violated
    (x.entry ∙ ap (λ (n : ℕ). Some (record { by = e.causer.core; what = Hurt n })) x.victim_epoch) explained.replays x.victim_runs
    (ap (λ o. kind_of image explained.before e.causer.core e.victim.core (what_at entries o)) (sym x.cause) ∙ (sym x.kind ∙ same))

-- Histories that grow, and cores at the start.
use Rattle.std.proofs.Common.{◌≡◌, ℕ, zero, suc, ◌+◌, ◌<◌, ◌≤◌, List, [], ◌∷◌, ◌++◌, length, slice_get, Option, Some, None, refl, sym, ap, subst, ◌∙◌, arith, take, get_or, add-one, option_and_then, option_map}
use Rattle.std.proofs.lemmas.Option.{slice_get-get_or}
use Rattle.rv32_image.specs.Image.{LoadedImage, IsImage}
use Rattle.spec_history.specs.declared.entry.Entry.{Entry}
use Rattle.spec_history.specs.declared.illegal.Illegal.{Illegal}
use Rattle.spec_history.specs.declared.cores.Core.{Core}
use Rattle.spec_history.specs.FlatState.{FlatState, first_state}
use Rattle.spec_history.specs.Effect.{effect}
use Rattle.spec_history.specs.Refusal.{refusal_of}
use Rattle.spec_history.specs.Replay.{where_legal, replay_from, replay}
use Rattle.spec_history.specs.Cores.{core_of, core_with, IsCoreOf, AreIdle}
use Rattle.spec_history.specs.Machine.{cores_of}
use Rattle.spec_history.specs.View.{FlatView, state_in, cores_in, IsReached, IsApplied, IsRefused, IsRefusedAt}
use Rattle.spec_history.proofs.OneEntry.Legal.{legal_entry}
use Rattle.spec_history.proofs.Replay.Replays.{replayed}

-- after a history that replays, so does one more legal entry
more_by : (image : LoadedImage) (count : ℕ) (s last after : FlatState) (entry : Entry) (entries next : List Entry) (refusal : Option Illegal)
    → where_legal refusal (replay_from image count (effect image s entry) entries) ≡ Some last
    → (replay_from image count (effect image s entry) entries ≡ Some last → replay_from image count (effect image s entry) next ≡ Some after)
    → where_legal refusal (replay_from image count (effect image s entry) next) ≡ Some after
more_by image count s last after entry entries next None replays later = later replays
more_by image count s last after entry entries next (Some refusal) replays later = absurd cc

one_more_from : (image : LoadedImage) (count : ℕ) (entries : List Entry) (s last : FlatState) (entry : Entry) → replay_from image count s entries ≡ Some last
    → refusal_of image count last entry ≡ None → replay_from image count s (entries ++ entry ∷ []) ≡ Some (effect image last entry)
unfolding replay_from
one_more_from image count [] s last entry replays legal = let same : s ≡ last = cc in rw (same, legal) refl
one_more_from image count (first ∷ rest) s last entry replays legal =
    more_by image count s last (effect image last entry) first rest (rest ++ entry ∷ []) (refusal_of image count s first) replays
    (λ later. one_more_from image count rest (effect image s first) last entry later legal)

pub one_more_entry : (image : LoadedImage) (count : ℕ) (entries : List Entry) (s : FlatState) (entry : Entry) → replay image count entries ≡ Some s
    → refusal_of image count s entry ≡ None → replay image count (entries ++ entry ∷ []) ≡ Some (effect image s entry)
unfolding replay
one_more_entry image count entries s entry replays legal = one_more_from image count entries (first_state image) s entry replays legal

pub no_entries : (image : LoadedImage) (count : ℕ) → replay image count [] ≡ Some (first_state image)
unfolding replay replay_from
no_entries image count = refl

pub reached_more : (image : LoadedImage) (count : ℕ) (s : FlatState) (entry : Entry) → IsReached image count s → refusal_of image count s entry ≡ None → IsReached image count (effect image s entry)
reached_more image count s entry reached legal =
    record { entries = reached.entries ++ entry ∷ []; replays = one_more_entry image count reached.entries s entry reached.replays legal }

pub reached_first : (image : LoadedImage) (count : ℕ) → IsReached image count (first_state image)
reached_first image count = record { entries = []; replays = no_entries image count }

-- a machine that goes on has not committed all epochs
pub homefree_within : (image : LoadedImage) (count : ℕ) (s : FlatState) (entry : Entry) → IsImage image → IsReached image count s → refusal_of image count s entry ≡ None → s.homefree ≤ 65535
homefree_within image count s entry is reached legal =
    let going = (replayed image count reached.entries s is reached.replays).going (legal_entry image count s entry legal).going in
    omega (arith, going.kept.homefree_started, going.kept.started, is.epochs_most)

-- ---- idle cores

idle_at : (P : Core → Type 0) (cores : List Core) (core : Core) → P core → ((k : ℕ) (l : Core) → slice_get cores k ≡ Some l → P l)
    → (k : ℕ) (l : Core) → slice_get (cores ++ core ∷ []) k ≡ Some l → P l
idle_at P [] core here each zero l at = let same : core ≡ l = cc in subst P same here
idle_at P [] core here each (suc k) l at = absurd cc
idle_at P (first ∷ rest) core here each zero l at = each 0 l at
idle_at P (first ∷ rest) core here each (suc k) l at = idle_at P rest core here (λ j m is. each (suc j) m is) k l at

pub idle_more : (cores : List Core) (core : Core) → core.attempt ≡ None → ((image : LoadedImage) → IsCoreOf image core) → AreIdle cores → AreIdle (cores ++ core ∷ [])
idle_more cores core none fit idle =
    record { each = λ k l at. idle_at (λ x. (x.attempt ≡ None) × ((image : LoadedImage) → IsCoreOf image x)) cores core (none, fit) idle.each k l at }

idle_by : (cores : List Core) (o : Option Core) → ((core : Core) → o ≡ Some core → core.attempt ≡ None) → option_and_then core_of o ≡ None
idle_by cores None idle = refl
idle_by cores (Some core) idle = ap (option_map (core_with core.own.cells core.outside.cells)) (idle core refl)

pub idle_states : (cores : List Core) → AreIdle cores → (k : ℕ) → cores_of cores k ≡ None
idle_states cores idle k = idle_by cores (slice_get cores k) (λ core at. (idle.each k core at).0)

-- ---- an audit

take_suc : (entries : List Entry) (i : ℕ) (d : Entry) → i < length entries → take (suc i) entries ≡ take i entries ++ get_or entries i d ∷ []
take_suc [] i d below = absurd (omega arith)
take_suc (first ∷ rest) zero d below = refl
take_suc (first ∷ rest) (suc i) d below = ap (λ xs. first ∷ xs) (take_suc rest i d (omega arith))

pub audited_more : (image : LoadedImage) (cores : ℕ) (entries : List Entry) (place : ℕ) (d : Entry) (flat flat' : FlatView) → flat.image ≡ image → cores_in flat ≡ cores
    → replay image cores (take place entries) ≡ Some (state_in flat) → place < length entries → IsApplied flat flat' (get_or entries place d)
    → replay image cores (take (place + 1) entries) ≡ Some (state_in flat')
audited_more image cores entries place d flat flat' same count replays below applied =
    let legal = ap (λ i. refusal_of i cores (state_in flat) (get_or entries place d)) (sym same) ∙ (ap (λ n. refusal_of flat.image n (state_in flat) (get_or entries place d)) (sym count) ∙ applied.legal) in
    ap (λ n. replay image cores (take n entries)) (add-one place) ∙ (ap (replay image cores) (take_suc entries place d below)
    ∙ (one_more_entry image cores (take place entries) (state_in flat) (get_or entries place d) replays legal
    ∙ sym (ap Some (applied.effect_is ∙ ap (λ i. effect i (state_in flat) (get_or entries place d)) same))))

pub audited_fault : (image : LoadedImage) (cores : ℕ) (entries : List Entry) (place : ℕ) (illegal : Illegal) (d : Entry) (flat flat' : FlatView) → flat.image ≡ image → cores_in flat ≡ cores
    → replay image cores (take place entries) ≡ Some (state_in flat) → place < length entries → IsRefused flat flat' (get_or entries place d) illegal
    → IsRefusedAt image cores entries place illegal
audited_fault image cores entries place illegal d flat flat' same count replays below refused = record {
  before = state_in flat;
  replays = replays;
  entry = get_or entries place d;
  there = slice_get-get_or entries place d below;
  answer = rw (← same, ← count) refused.answer;
}

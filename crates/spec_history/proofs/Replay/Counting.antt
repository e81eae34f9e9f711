-- What the counts of a history are made of, and that its commits are the epochs before the homefree one.
use Rattle.std.proofs.Common.{◌≡◌, ℕ, ◌+◌, ◌++◌, List, [], ◌∷◌, Option, Some, None, refl, ap, ◌∙◌, arith}
use Rattle.rv32_image.specs.Image.{LoadedImage}
use Rattle.spec_history.specs.declared.entry.Entry.{Entry}
use Rattle.spec_history.specs.declared.entry.What.{What}
use Rattle.spec_history.specs.declared.entry.What.TheVariants.{Start, Load, Store, Hurt, Cancel, Restart, Publish, Commit, Fault}
use Rattle.spec_history.specs.FlatState.{CoreState, FlatState, first_state}
use Rattle.spec_history.specs.Effect.{effect, effect_on, effect_idle}
use Rattle.spec_history.specs.Refusal.{refusal_of}
use Rattle.spec_history.specs.Replay.{replay_from, replay, HistoryCounts, no_counts, count_of, plus, counts_of}
use Rattle.spec_history.proofs.OneEntry.Legal.{IsLegalEntry, legal_entry}
use Rattle.spec_history.proofs.Replay.Replays.{effect-on, effect-idle, not_running, legal_by}

-- ---- sums

abbrev counts : ℕ → ℕ → ℕ → ℕ → HistoryCounts
counts loads stores restarts commits = record { loads = loads; stores = stores; restarts = restarts; commits = commits }

counts_same : (a a' b b' c c' d d' : ℕ) → a ≡ a' → b ≡ b' → c ≡ c' → d ≡ d' → counts a b c d ≡ counts a' b' c' d'
counts_same a a' b b' c c' d d' loads stores restarts commits = cc (loads, stores, restarts, commits)

plus_none : (a : HistoryCounts) → a ≡ plus no_counts a
plus_none a = counts_same a.loads _ a.stores _ a.restarts _ a.commits _ (omega arith) (omega arith) (omega arith) (omega arith)

plus_turns : (a b c : HistoryCounts) → plus a (plus b c) ≡ plus (plus a b) c
plus_turns a b c = counts_same _ _ _ _ _ _ _ _ (omega arith) (omega arith) (omega arith) (omega arith)

pub counts_add : (first later : List Entry) → counts_of (first ++ later) ≡ plus (counts_of first) (counts_of later)
unfolding counts_of
counts_add [] later = plus_none (counts_of later)
counts_add (entry ∷ rest) later = ap (plus (count_of entry.what)) (counts_add rest later) ∙ plus_turns (count_of entry.what) (counts_of rest) (counts_of later)

-- ---- commits

homefree_on : (image : LoadedImage) (s : FlatState) (by : ℕ) (c : CoreState) (what : What) → (effect_on image s by c what).homefree ≡ s.homefree + (count_of what).commits
homefree_on image s by c (Start epoch) = omega arith
homefree_on image s by c (Load address width value) = omega arith
homefree_on image s by c (Store address width value) = omega arith
homefree_on image s by c (Hurt epoch) = omega arith
homefree_on image s by c (Cancel epoch) = omega arith
homefree_on image s by c Restart = omega arith
homefree_on image s by c Publish = omega arith
homefree_on image s by c Commit = omega arith
homefree_on image s by c (Fault cause pc) = omega arith

-- an idle core commits nothing
homefree_idle : (image : LoadedImage) (count : ℕ) (s : FlatState) (by : ℕ) (what : What) → s.cores by ≡ None → IsLegalEntry image count s (record { by = by; what = what })
    → (effect_idle image s by what).homefree ≡ s.homefree + (count_of what).commits
homefree_idle image count s by (Start epoch) at legal = omega arith
homefree_idle image count s by (Load address width value) at legal = omega arith
homefree_idle image count s by (Store address width value) at legal = omega arith
homefree_idle image count s by (Hurt epoch) at legal = omega arith
homefree_idle image count s by (Cancel epoch) at legal = omega arith
homefree_idle image count s by Restart at legal = omega arith
homefree_idle image count s by Publish at legal = omega arith
homefree_idle image count s by Commit at legal = absurd (not_running (s.cores by) _ at legal.there)
homefree_idle image count s by (Fault cause pc) at legal = omega arith

homefree_by : (image : LoadedImage) (count : ℕ) (s : FlatState) (by : ℕ) (what : What) (core : Option CoreState) → s.cores by ≡ core
    → IsLegalEntry image count s (record { by = by; what = what })
    → (effect image s (record { by = by; what = what })).homefree ≡ s.homefree + (count_of what).commits
homefree_by image count s by what None at legal = rw (effect-idle image s by what at) (homefree_idle image count s by what at legal)
homefree_by image count s by what (Some c) at legal = rw (effect-on image s by what c at) (homefree_on image s by c what)

commits_from : (image : LoadedImage) (count : ℕ) (entries : List Entry) (s last : FlatState) → replay_from image count s entries ≡ Some last
    → last.homefree ≡ s.homefree + (counts_of entries).commits
unfolding replay_from counts_of
commits_from image count [] s last replays = let same : s ≡ last = cc in rw (← same) (omega arith)
commits_from image count (entry ∷ rest) s last replays =
    legal_by image count s entry rest last (refusal_of image count s entry) refl replays
    (λ legal later.
    let one = homefree_by image count s entry.by entry.what (s.cores entry.by) refl (legal_entry image count s entry legal) in
    let more = commits_from image count rest (effect image s entry) last later in
    omega (arith, one, more))

pub commits_are : (image : LoadedImage) (count : ℕ) (entries : List Entry) (s : FlatState) → replay image count entries ≡ Some s
    → (counts_of entries).commits ≡ s.homefree
unfolding replay
commits_are image count entries s replays = let all = commits_from image count entries (first_state image) s replays in omega (arith, all)

-- Notes one after another, and what a method's notes make of a turn.
use Rattle.std.proofs.Common.{◌≡◌, ◌≤◌, ◌+◌, ℕ, ◌==◌, Bool, true, false, cond, List, [], ◌∷◌, ◌++◌, length, Option, Some, None, option_map, vec_len, vec_capacity, refl, sym, ap, subst, ◌∙◌, arith, append-nil}
use Rattle.std.proofs.Common.{append_assoc}
use Rattle.std.proofs.lemmas.List.{length-append}
use Rattle.std.proofs.lemmas.Option.{same_Some}
use Rattle.rv32_image.specs.Image.{LoadedImage}
use Rattle.run_ledger.specs.declared.counts.Counts.{Counts}
use Rattle.run_ledger.specs.Counts.{sum_of}
use Rattle.spec_history.specs.declared.entry.Entry.{Entry}
use Rattle.spec_history.specs.declared.illegal.Illegal.{Illegal}
use Rattle.spec_history.specs.FlatState.{CoreState, FlatState}
use Rattle.spec_history.specs.Effect.{with_core, effect}
use Rattle.spec_history.specs.Refusal.{refusal_of}
use Rattle.spec_history.specs.Replay.{where_legal, replay_from, HistoryCounts, plus, counts_of, count_of, no_counts}
use Rattle.spec_history.specs.View.{IsReached}
use Rattle.spec_history.proofs.Replay.Counting.{counts_add}
use Rattle.spec_history.proofs.Replay.Joining.{history_goes_on, no_entry}
use Rattle.spec_history.proofs.Replay.Replays.{Whole, replayed, one_legal}
use Rattle.homefree.specs.declared.register.Register.{Register}
use Rattle.homefree.specs.declared.register.Running.{Running}
use Rattle.homefree.specs.Counted.{as_counts, counted_in}
use Rattle.homefree.specs.Kept.{Shows, running_at, kept_of}
use Rattle.homefree.specs.Steps.{Steps}

-- ---- counts

abbrev pub four : ℕ → ℕ → ℕ → ℕ → Counts
four loads stores restarts commits = record { loads = loads; stores = stores; restarts = restarts; commits = commits }

pub four_same : (a a' b b' c c' d d' : ℕ) → a ≡ a' → b ≡ b' → c ≡ c' → d ≡ d' → four a b c d ≡ four a' b' c' d'
four_same a a' b b' c c' d d' loads stores restarts commits = cc (loads, stores, restarts, commits)

pub sum_turns : (a b c : Counts) → sum_of (sum_of a b) c ≡ sum_of a (sum_of b c)
sum_turns a b c = four_same _ _ _ _ _ _ _ _ (omega arith) (omega arith) (omega arith) (omega arith)

pub sum_none : (a : Counts) → sum_of a (as_counts no_counts) ≡ a
sum_none a = four_same _ a.loads _ a.stores _ a.restarts _ a.commits (omega arith) (omega arith) (omega arith) (omega arith)

as_sum : (a b : HistoryCounts) → as_counts (plus a b) ≡ sum_of (as_counts a) (as_counts b)
as_sum a b = refl

pub counted_then : (first later : List Entry) → counted_in (first ++ later) ≡ sum_of (counted_in first) (counted_in later)
counted_then first later = ap as_counts (counts_add first later) ∙ as_sum (counts_of first) (counts_of later)

pub sum_then : (a : Counts) (first later : List Entry) → sum_of (sum_of a (counted_in first)) (counted_in later) ≡ sum_of a (counted_in (first ++ later))
sum_then a first later = sum_turns a (counted_in first) (counted_in later) ∙ ap (sum_of a) (sym (counted_then first later))

pub counted_one : (x : Entry) → counted_in (x ∷ []) ≡ as_counts (count_of x.what)
unfolding counts_of
counted_one x = four_same _ _ _ _ _ _ _ _ (omega arith) (omega arith) (omega arith) (omega arith)

-- ---- a replay of two lists splits

record Between (image : LoadedImage) (count : ℕ) (s : FlatState) (first later : List Entry) (last : FlatState) : Type 0 where
  pub state : FlatState
  pub first_replays : replay_from image count s first ≡ Some state
  pub later_replays : replay_from image count state later ≡ Some last

between_by : (image : LoadedImage) (count : ℕ) (s u : FlatState) (x : Entry) (first later : List Entry) (refusal : Option Illegal)
    → where_legal refusal (replay_from image count (effect image s x) (first ++ later)) ≡ Some u
    → (replay_from image count (effect image s x) (first ++ later) ≡ Some u → Between image count (effect image s x) first later u)
    → (t : FlatState) × (where_legal refusal (replay_from image count (effect image s x) first) ≡ Some t) × (replay_from image count t later ≡ Some u)
between_by image count s u x first later None is more = let rest = more is in (rest.state, rest.first_replays, rest.later_replays)
between_by image count s u x first later (Some r) is more = absurd cc

between : (image : LoadedImage) (count : ℕ) (first later : List Entry) (s u : FlatState) → replay_from image count s (first ++ later) ≡ Some u
    → Between image count s first later u
unfolding replay_from
between image count [] later s u replays = record { state = s; first_replays = refl; later_replays = replays }
between image count (x ∷ rest) later s u replays =
    let parts = between_by image count s u x rest later (refusal_of image count s x) replays (λ more. between image count rest later (effect image s x) u more) in
    record { state = parts.0; first_replays = parts.1; later_replays = parts.2 }

reached_then : (image : LoadedImage) (count : ℕ) (s t : FlatState) (entries : List Entry) → IsReached image count s → replay_from image count s entries ≡ Some t → IsReached image count t
reached_then image count s t entries reached replays =
    record { entries = reached.entries ++ entries; replays = history_goes_on image count reached.entries entries s t reached.replays replays }

-- ---- notes one after another

pub steps_none : (r : Register) (shares : Counts) → Steps r r shares shares []
unfolding counts_of
steps_none r shares = record {
  image = refl;
  cores = refl;
  history = sym (append-nil r.history.items);
  totals = sym (sum_none r.totals);
  held = sym (sum_none shares);
  room = omega arith;
  used = omega arith;
  follows = λ s t is_image reached shows replays. let same : s ≡ t = same_Some s t (sym (no_entry r.image (length r.running.items) s) ∙ replays) in subst (Shows r) same shows;
}

used_then : (a b c : ℕ) (first later : List Entry) → b ≡ a + length first → c ≡ b + length later → c ≡ a + length (first ++ later)
used_then a b c first later one two = rw (length-append first later) (omega (arith, one, two))

pub steps_then : (old mid new : Register) (a b c : Counts) (first later : List Entry) → Steps old mid a b first → Steps mid new b c later → Steps old new a c (first ++ later)
steps_then old mid new a b c first later one two = record {
  image = two.image ∙ one.image;
  cores = two.cores ∙ one.cores;
  history = two.history ∙ (ap (λ h. h ++ later) one.history ∙ append_assoc old.history.items first later);
  totals = two.totals ∙ (ap (λ n. sum_of n (counted_in later)) one.totals ∙ sum_then old.totals first later);
  held = two.held ∙ (ap (λ n. sum_of n (counted_in later)) one.held ∙ sum_then a first later);
  room = let r1 = one.room in let r2 = two.room in omega (arith, r1, r2);
  used = used_then (vec_len old.history) (vec_len mid.history) (vec_len new.history) first later one.used two.used;
  follows = λ s t is_image reached shows replays.
      let parts = between old.image (length old.running.items) first later s t replays in
      let mid_reached = reached_then old.image (length old.running.items) s parts.state first reached parts.first_replays in
      two.follows parts.state t (rw one.image is_image) (rw (one.image, one.cores) mid_reached) (one.follows s parts.state is_image reached shows parts.first_replays)
      (rw (one.image, one.cores) parts.later_replays);
}

-- ---- one note

pub step : (old new : Register) (shares shares' : Counts) (x : Entry) → new.image ≡ old.image → length new.running.items ≡ length old.running.items
    → new.history.items ≡ old.history.items ++ x ∷ [] → vec_capacity old.history ≤ vec_capacity new.history → vec_len new.history ≡ vec_len old.history + 1
    → new.totals ≡ sum_of old.totals (as_counts (count_of x.what)) → shares' ≡ sum_of shares (as_counts (count_of x.what))
    → ((s : FlatState) → Whole old.image (length old.running.items) s → refusal_of old.image (length old.running.items) s x ≡ None → Shows old s → Shows new (effect old.image s x))
    → Steps old new shares shares' (x ∷ [])
step old new shares shares' x image cores history room used totals held shows = record {
  image = image;
  cores = cores;
  history = history;
  totals = totals ∙ ap (sum_of old.totals) (sym (counted_one x));
  held = held ∙ ap (sum_of shares) (sym (counted_one x));
  room = room;
  used = used;
  follows = λ s t is_image reached was replays.
      let one = one_legal old.image (length old.running.items) s t x replays in
      subst (Shows new) one.1 (shows s (replayed old.image (length old.running.items) reached.entries s is_image reached.replays) one.0 was);
}

-- ---- what a core runs

pub none_kept : (o : Option CoreState) → option_map kept_of o ≡ None → o ≡ None
none_kept None is = refl
none_kept (Some c) is = absurd cc

some_by : (o : Option CoreState) (r : Running) → option_map kept_of o ≡ Some r → (c : CoreState) × (o ≡ Some c) × (kept_of c ≡ r)
some_by None r is = absurd cc
some_by (Some c) r is = (c, refl, cc)

-- the core that stands behind what the book keeps
pub core_of : (r : Register) (s : FlatState) (k : ℕ) (now : Running) → Shows r s → running_at r.running.items k ≡ Some now
    → (c : CoreState) × (s.cores k ≡ Some c) × (kept_of c ≡ now)
core_of r s k now shows at = some_by (s.cores k) now (sym (shows.running k) ∙ at)

pub kept_with : (before after : ℕ → Option Running) (cores : ℕ → Option CoreState) (core : ℕ) (now : Option Running) (new : Option CoreState)
    → ((k : ℕ) → after k ≡ cond (k == core) now (before k)) → ((k : ℕ) → before k ≡ option_map kept_of (cores k)) → now ≡ option_map kept_of new
    → (k : ℕ) → after k ≡ option_map kept_of (with_core cores core new k)
kept_with before after cores core now new sets was is k = sets k ∙ by_test (k == core)
  where
    by_test : (b : Bool) → cond b now (before k) ≡ option_map kept_of (cond b new (cores k))
    by_test true = is
    by_test false = was k

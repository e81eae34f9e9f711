-- One list of entries after another, and who is spared by a change of committed memory.
use Rattle.std.proofs.Common.{◌≡◌, ◌≢◌, ℕ, ◌==◌, ◌&&◌, not, Bool, true, false, is_some, List, [], ◌∷◌, ◌++◌, Option, Some, None, refl, sym, ap, subst, ◌∙◌, true≢false, eq-eqb}
use Rattle.std.proofs.lemmas.Bool.{and_parts, not-true, and_right}
use Rattle.rv32_image.specs.Image.{LoadedImage}
use Rattle.rv32_image.proofs.SmallFacts.{one_value}
use Rattle.spec_history.specs.declared.entry.Entry.{Entry}
use Rattle.spec_history.specs.declared.illegal.Illegal.{Illegal}
use Rattle.spec_history.specs.FlatState.{CoreState, FlatState, first_state}
use Rattle.spec_history.specs.Effect.{effect}
use Rattle.spec_history.specs.Refusal.{refusal_of, has_read, other_has_read, changes_unseen}
use Rattle.spec_history.specs.Replay.{where_legal, replay_from, replay}
use Rattle.spec_history.specs.Laws.{Splits}
use Rattle.spec_history.proofs.OneEntry.Legal.{some_below}
use Rattle.spec_history.proofs.OneEntry.Going.{Spares}
use Rattle.spec_history.proofs.Searches.Tests.{all_fail}
use Rattle.spec_history.proofs.Searches.Missing.{is_unseen}
use Rattle.spec_history.proofs.Replay.Replays.{one_legal}

-- ---- a byte that another core has read

some_of : (c : CoreState) (a : ℕ) (o : Option ℕ) → c.outside a ≡ o → c.hurt ≡ false → is_some o ≡ true
    → (d : CoreState) × (byte : ℕ) × (Some c ≡ Some d) × (d.hurt ≡ false) × (d.outside a ≡ Some byte)
some_of c a None at unhurt is = absurd cc
some_of c a (Some byte) at unhurt is = (c, byte, refl, unhurt, at)

read_by : (core : Option CoreState) (a : ℕ) → has_read core a ≡ true → (c : CoreState) × (byte : ℕ) × (core ≡ Some c) × (c.hurt ≡ false) × (c.outside a ≡ Some byte)
read_by None a is = absurd cc
read_by (Some c) a is =
    let both = and_parts (not c.hurt) (is_some (c.outside a)) is in some_of c a (c.outside a) refl (not-true c.hurt both.0) both.1

pub not_same : (k by : ℕ) → not (k == by) ≡ true → k ≢ by
not_same k by is same = true≢false (sym is ∙ ap not (eq-eqb k by same))

stays : (count : ℕ) (s : FlatState) (by : ℕ) (committed : ℕ → ℕ) → Spares s by committed → (a : ℕ) → other_has_read count s by a ≡ true → committed a ≡ s.committed a
stays count s by committed spares a is =
    let found = some_below count (λ k. not (k == by) && has_read (s.cores k) a) is in
    let both = and_parts (not (found.0 == by)) (has_read (s.cores found.0) a) found.2 in
    let c = read_by (s.cores found.0) a both.1 in
    spares found.0 c.0 c.2 (not_same found.0 by both.0) c.3 a c.1 c.4

unseen_by : (count : ℕ) (s : FlatState) (by : ℕ) (committed : ℕ → ℕ) (a : ℕ) → Spares s by committed → (b : Bool) → other_has_read count s by a ≡ b
    → (not (committed a == s.committed a) && b) ≡ false
unseen_by count s by committed a spares true is = rw (eq-eqb (committed a) (s.committed a) (stays count s by committed spares a is)) refl
unseen_by count s by committed a spares false is = and_right (not (committed a == s.committed a)) false refl

-- where no byte changes that another core, which is not hurt, has read, no hurt is missing
pub spares_all : (size count : ℕ) (s : FlatState) (by : ℕ) (committed : ℕ → ℕ) → Spares s by committed → changes_unseen size count s by committed ≡ false
spares_all size count s by committed spares =
    all_fail size (is_unseen count s by committed) (λ a below. unseen_by count s by committed a spares (other_has_read count s by a) refl)

-- ---- replays

one_by : (refusal : Option Illegal) (next : Option FlatState) → refusal ≡ None → where_legal refusal next ≡ next
one_by None next is = refl
one_by (Some r) next is = absurd cc

pub one_entry : (image : LoadedImage) (count : ℕ) (s : FlatState) (entry : Entry) → refusal_of image count s entry ≡ None
    → replay_from image count s (entry ∷ []) ≡ Some (effect image s entry)
unfolding replay_from
one_entry image count s entry legal = one_by (refusal_of image count s entry) (Some (effect image s entry)) legal

pub no_entry : (image : LoadedImage) (count : ℕ) (s : FlatState) → replay_from image count s [] ≡ Some s
unfolding replay_from
no_entry image count s = refl

then_by : (image : LoadedImage) (count : ℕ) (s t u : FlatState) (entry : Entry) (first later : List Entry) (refusal : Option Illegal)
    → where_legal refusal (replay_from image count (effect image s entry) first) ≡ Some t
    → (replay_from image count (effect image s entry) first ≡ Some t → replay_from image count (effect image s entry) (first ++ later) ≡ Some u)
    → where_legal refusal (replay_from image count (effect image s entry) (first ++ later)) ≡ Some u
then_by image count s t u entry first later None is more = more is
then_by image count s t u entry first later (Some r) is more = absurd cc

-- one list of entries after another
pub then_entries : (image : LoadedImage) (count : ℕ) (first later : List Entry) (s t u : FlatState) → replay_from image count s first ≡ Some t
    → replay_from image count t later ≡ Some u → replay_from image count s (first ++ later) ≡ Some u
unfolding replay_from
then_entries image count [] later s t u one two = let same : s ≡ t = cc in rw same two
then_entries image count (entry ∷ rest) later s t u one two =
    then_by image count s t u entry rest later (refusal_of image count s entry) one
    (λ more. then_entries image count rest later (effect image s entry) t u more two)

pub history_goes_on : (image : LoadedImage) (count : ℕ) (history later : List Entry) (s t : FlatState) → replay image count history ≡ Some s
    → replay_from image count s later ≡ Some t → replay image count (history ++ later) ≡ Some t
unfolding replay
history_goes_on image count history later s t one two = then_entries image count history later (first_state image) s t one two

-- the state between the two lists, from this state on
record SplitsFrom (image : LoadedImage) (count : ℕ) (s : FlatState) (first later : List Entry) (last : FlatState) : Type 0 where
  pub between : FlatState
  pub first_replays : replay_from image count s first ≡ Some between
  pub later_replays : replay_from image count between later ≡ Some last

splits_by : (image : LoadedImage) (count : ℕ) (s u : FlatState) (entry : Entry) (first later : List Entry) (refusal : Option Illegal)
    → where_legal refusal (replay_from image count (effect image s entry) (first ++ later)) ≡ Some u
    → (replay_from image count (effect image s entry) (first ++ later) ≡ Some u → SplitsFrom image count (effect image s entry) first later u)
    → (t : FlatState) × (where_legal refusal (replay_from image count (effect image s entry) first) ≡ Some t) × (replay_from image count t later ≡ Some u)
splits_by image count s u entry first later None is more = let rest = more is in (rest.between, rest.first_replays, rest.later_replays)
splits_by image count s u entry first later (Some r) is more = absurd cc

splits_from : (image : LoadedImage) (count : ℕ) (first later : List Entry) (s u : FlatState) → replay_from image count s (first ++ later) ≡ Some u
    → SplitsFrom image count s first later u
unfolding replay_from
splits_from image count [] later s u replays = record { between = s; first_replays = refl; later_replays = replays }
splits_from image count (entry ∷ rest) later s u replays =
    let parts = splits_by image count s u entry rest later (refusal_of image count s entry) replays (λ more. splits_from image count rest later (effect image s entry) u more) in
    record { between = parts.0; first_replays = parts.1; later_replays = parts.2 }

-- a replay of two lists, one after the other, splits
pub splits : (image : LoadedImage) (count : ℕ) (first later : List Entry) (last : FlatState) → replay image count (first ++ later) ≡ Some last
    → Splits image count first later last
unfolding replay
splits image count first later last replays =
    let parts = splits_from image count first later (first_state image) last replays in
    record { between = parts.between; first_replays = parts.first_replays; later_replays = parts.later_replays }

-- one entry more of a history leads to its effect
pub one_more : (image : LoadedImage) (count : ℕ) (history : List Entry) (s t : FlatState) (entry : Entry) → replay image count history ≡ Some s
    → replay image count (history ++ entry ∷ []) ≡ Some t → effect image s entry ≡ t
one_more image count history s t entry before replays =
    let parts = splits image count history (entry ∷ []) t replays in
    let same : parts.between ≡ s = one_value (replay image count history) parts.between s parts.first_replays before in
    (one_legal image count s t entry (subst (λ (x : FlatState). replay_from image count x (entry ∷ []) ≡ Some t) same parts.later_replays)).1

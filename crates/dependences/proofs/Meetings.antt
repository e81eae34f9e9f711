-- What meets in a violation: on their paths, a conflict of the two epochs, or more lines than a buffer takes.
use Rattle.std.proofs.Common.{◌≡◌, ◌≢◌, ◌⊎◌, ℕ, zero, suc, ◌+◌, ◌<◌, ◌==◌, ◌&&◌, not, nat_le, nat_lt, Bool, true, false, cond, is_some, List, [], ◌∷◌, length, All, Option, Some, None, unwrap_or, refl, sym, ap, ◌∙◌, inl, inr, true≢false, arith, eq-eqb, leb-true}
use Rattle.std.proofs.lemmas.Bool.{and_parts, cases_Bool}
use Rattle.rv32_image.specs.Image.{LoadedImage}
use Rattle.rv32_image.proofs.SmallFacts.{value_of}
use Rattle.memory_bytes.specs.Maps.{over}
use Rattle.memory_bytes.proofs.SmallFacts.{some_wide}
use Rattle.rv32_exec.specs.declared.stop.Stop.TheVariants as stop
use Rattle.rv32_exec.specs.Execute.{IsAccess, IsStore}
use Rattle.rv32_exec.specs.NextEvent.{next_event}
use Rattle.rv32_exec.proofs.Accesses.{stop_of_event}
use Rattle.spec_history.specs.declared.entry.What.{What}
use Rattle.spec_history.specs.declared.entry.What.TheVariants.{Start, Load, Store, Hurt, Cancel, Restart, Publish, Commit, Fault}
use Rattle.spec_history.specs.declared.kind.Kind.{Kind}
use Rattle.spec_history.specs.declared.kind.Kind.TheVariants.{TrueSharing, SilentStore, FalseSharing, FullBuffer, Unexplained}
use Rattle.spec_history.specs.FlatState.{CoreState, FlatState}
use Rattle.spec_history.specs.Refusal.{any_below}
use Rattle.spec_history.specs.Searches.{count_below}
use Rattle.spec_history.specs.Conflict.{Meeting, holds_line, is_beside, is_changed, is_crowded, is_full_at, is_shared, kind_with, line_count, line_has, line_number, meeting, own_bytes, read_bytes, written}
use Rattle.spec_history.proofs.OneEntry.Legal.{some_below}
use Rattle.spec_history.proofs.OneEntry.Going.{Going}
use Rattle.spec_history.proofs.Searches.Lines.{passing_byte}
use Rattle.dependences.specs.Conflict.{AreBeside, AreFalling, Conflict, LineConflict, Overflow, PathReads, PathStores, PathTouches, StoresIn, path_memory}
use Rattle.homefree.specs.Caused.{commits_bytes}
use Rattle.epoch_paths.specs.Kept.{IsAt}
use Rattle.epoch_paths.proofs.Paths.{covered, loads_there, stores_there}
use Rattle.dependences.proofs.Windows.{IsInWindow}
use Rattle.dependences.proofs.Starting.{IsOrderly, beside, core_reached}
use Rattle.dependences.proofs.Committing.{own_stored}

-- ---- the kinds

written_if : (o : Option ℕ) (here : ℕ) → not (unwrap_or o here == here) ≡ true → is_some o ≡ true
written_if None here is = absurd (true≢false (sym is ∙ ap not (eq-eqb here here refl)))
written_if (Some byte) here is = refl

-- what a violation of a kind is about
pub data Meets (image : LoadedImage) (m : Meeting) (cause : What) : Type 0 where
  in_byte : (a : ℕ) → is_some (m.writes a) ≡ true → is_some (m.reads a) ≡ true → Meets image m cause
  in_line : (a : ℕ) → is_beside image m a ≡ true → Meets image m cause
  over_full : is_crowded image m cause ≡ true → Meets image m cause

changed_meets : (image : LoadedImage) (m : Meeting) (cause : What) → any_below image.size (is_changed m) ≡ true → Meets image m cause
changed_meets image m cause is =
    let found = some_below image.size (is_changed m) is in
    let parts = and_parts (not (over m.writes m.committed found.0 == m.committed found.0)) (is_some (m.reads found.0)) found.2 in
    in_byte found.0 (written_if (m.writes found.0) (m.committed found.0) parts.0) parts.1

shared_meets : (image : LoadedImage) (m : Meeting) (cause : What) → any_below image.size (is_shared m) ≡ true → Meets image m cause
shared_meets image m cause is =
    let found = some_below image.size (is_shared m) is in
    let parts = and_parts (is_some (m.writes found.0)) (is_some (m.reads found.0)) found.2 in in_byte found.0 parts.0 parts.1

abbrev kind_by : Bool → Bool → Bool → Bool → Kind
kind_by changed shared besides crowded =
    cond changed TrueSharing (cond shared SilentStore (cond besides FalseSharing (cond crowded FullBuffer Unexplained)))

meets_by : (image : LoadedImage) (m : Meeting) (cause : What) (changed shared besides crowded : Bool) → any_below image.size (is_changed m) ≡ changed
    → any_below image.size (is_shared m) ≡ shared → any_below image.size (is_beside image m) ≡ besides → is_crowded image m cause ≡ crowded
    → kind_by changed shared besides crowded ≢ Unexplained → Meets image m cause
meets_by image m cause true shared besides crowded is is' is'' is''' known = changed_meets image m cause is
meets_by image m cause false true besides crowded is is' is'' is''' known = shared_meets image m cause is'
meets_by image m cause false false true crowded is is' is'' is''' known =
    let found = some_below image.size (is_beside image m) is'' in in_line found.0 found.2
meets_by image m cause false false false true is is' is'' is''' known = over_full is'''
meets_by image m cause false false false false is is' is'' is''' known = absurd (known refl)

pub meets : (image : LoadedImage) (m : Meeting) (cause : What) → kind_with image m cause ≢ Unexplained → Meets image m cause
meets image m cause known =
    meets_by image m cause (any_below image.size (is_changed m)) (any_below image.size (is_shared m)) (any_below image.size (is_beside image m)) (is_crowded image m cause)
    refl refl refl refl known

-- true sharing and silent stores meet in a byte
pub data MeetsInByte (m : Meeting) : Type 0 where
  byte_both : (a : ℕ) → is_some (m.writes a) ≡ true → is_some (m.reads a) ≡ true → MeetsInByte m

changed_byte : (image : LoadedImage) (m : Meeting) → any_below image.size (is_changed m) ≡ true → MeetsInByte m
changed_byte image m is =
    let found = some_below image.size (is_changed m) is in
    let parts = and_parts (not (over m.writes m.committed found.0 == m.committed found.0)) (is_some (m.reads found.0)) found.2 in
    byte_both found.0 (written_if (m.writes found.0) (m.committed found.0) parts.0) parts.1

shared_byte : (image : LoadedImage) (m : Meeting) → any_below image.size (is_shared m) ≡ true → MeetsInByte m
shared_byte image m is =
    let found = some_below image.size (is_shared m) is in
    let parts = and_parts (is_some (m.writes found.0)) (is_some (m.reads found.0)) found.2 in byte_both found.0 parts.0 parts.1

bytes_by : (image : LoadedImage) (m : Meeting) (changed shared besides crowded : Bool) → any_below image.size (is_changed m) ≡ changed
    → any_below image.size (is_shared m) ≡ shared
    → (kind_by changed shared besides crowded ≡ TrueSharing) ⊎ (kind_by changed shared besides crowded ≡ SilentStore) → MeetsInByte m
bytes_by image m true shared besides crowded is is' kind = changed_byte image m is
bytes_by image m false true besides crowded is is' kind = shared_byte image m is'
bytes_by image m false false true crowded is is' (inl kind) = absurd cc
bytes_by image m false false true crowded is is' (inr kind) = absurd cc
bytes_by image m false false false true is is' (inl kind) = absurd cc
bytes_by image m false false false true is is' (inr kind) = absurd cc
bytes_by image m false false false false is is' (inl kind) = absurd cc
bytes_by image m false false false false is is' (inr kind) = absurd cc

pub meets_in_byte : (image : LoadedImage) (m : Meeting) (cause : What) → (kind_with image m cause ≡ TrueSharing) ⊎ (kind_with image m cause ≡ SilentStore) → MeetsInByte m
meets_in_byte image m cause kind =
    bytes_by image m (any_below image.size (is_changed m)) (any_below image.size (is_shared m)) (any_below image.size (is_beside image m)) (is_crowded image m cause)
    refl refl kind

-- ---- what the cause does

-- it is the next event of its core, or done by the homefree one
abbrev pub Acts : LoadedImage → FlatState → CoreState → What → Type 0
Acts image s c (Load address width value) = (signed : Bool) × (rd : ℕ) × ((next_event image c.hart).at ≡ stop.Load address width signed rd)
Acts image s c (Store address width value) = (next_event image c.hart).at ≡ stop.Store address width value
Acts image s c Publish = c.epoch ≡ s.homefree
Acts image s c Commit = c.epoch ≡ s.homefree
Acts image s c (Fault cause pc) = c.epoch ≡ s.homefree
Acts image s c what = Unit {0}

-- ---- two epochs that meet

-- a byte of a line
line_byte : (image : LoadedImage) (line : ℕ) (test : ℕ → Bool) → line_has image line test ≡ true → (a : ℕ) × (line_number image a ≡ line) × (test a ≡ true)
line_byte image line test is =
    let found = passing_byte image line test is in
    (found.at, found.in_line, found.passes)

module _ (image : LoadedImage) (cores : ℕ) (s : FlatState) (going : Going image cores s) (window : IsInWindow cores s) (orderly : IsOrderly image cores s)
    (by k : ℕ) (c v : CoreState) (causer : s.cores by ≡ Some c) (victim : s.cores k ≡ Some v) (before : c.epoch < v.epoch) where
  pub two_beside : AreBeside image cores c.epoch v.epoch
  two_beside =
      let low = core_reached image cores s k v going.kept window victim in
      beside image cores s k v c.epoch going.kept window orderly victim (omega (arith, low, (going.kept.core by c causer).from)) before

  causer_at : (own : ℕ → Option ℕ) × IsAt image c.epoch (path_memory image cores c.epoch) c.hart own
  causer_at =
      let on = orderly.core by c causer in
      elim (cases_Bool c.straight) [
        | inl straight ↦ (orderly.shown, on.published straight)
        | inr speculative ↦ (c.own, on.speculates speculative)
      ]

  own_path : (a : ℕ) → is_some (own_bytes (s.cores by) a) ≡ true → PathStores image cores c.epoch a
  own_path a is =
      let byte = value_of (own_bytes (s.cores by) a) is in
      own_stored image cores s by c a byte.0 going.kept orderly causer (sym (ap (λ o. own_bytes o a) causer) ∙ byte.1)

  -- what the cause writes, the path of its epoch stores
  pub writes_path : (what : What) → Acts image s c what → (a : ℕ) → is_some (written (s.cores by) what a) ≡ true → PathStores image cores c.epoch a
  writes_path (Start epoch) acts a is = absurd cc
  writes_path (Load address width value) acts a is = absurd cc
  writes_path (Store address width value) acts a is =
      let byte = value_of (written (s.cores by) (Store address width value) a) is in
      let within = covered address width value a byte.0 byte.1 in
      let at = causer_at in record {
        step = (next_event image c.hart).now.done;
        there = stores_there image c.epoch (path_memory image cores c.epoch) c.hart at.0 at.1 address width value a acts within.0 within.1;
      }
  writes_path (Hurt epoch) acts a is = absurd cc
  writes_path (Cancel epoch) acts a is = absurd cc
  writes_path Restart acts a is = absurd cc
  writes_path Publish acts a is = own_path a is
  writes_path Commit acts a is = own_path a is
  writes_path (Fault cause pc) acts a is = own_path a is

  -- what the victim has read from outside, its path reads
  pub reads_path : (a : ℕ) → is_some (read_bytes (s.cores k) a) ≡ true → PathReads image cores v.epoch a
  reads_path a is =
      let byte = value_of (read_bytes (s.cores k) a) is in
      (orderly.core k v victim).reads a byte.0 (sym (ap (λ o. read_bytes o a) victim) ∙ byte.1)

  victim_stores : (a : ℕ) → is_some (own_bytes (s.cores k) a) ≡ true → PathStores image cores v.epoch a
  victim_stores a is =
      let byte = value_of (own_bytes (s.cores k) a) is in
      own_stored image cores s k v a byte.0 going.kept orderly victim (sym (ap (λ o. own_bytes o a) victim) ∙ byte.1)

  -- a cause that commits bytes is of the homefree epoch
  homefree_cause : (what : What) → Acts image s c what → commits_bytes (s.cores by) what ≡ true → c.epoch ≡ s.homefree
  homefree_cause (Start epoch) acts is = absurd cc
  homefree_cause (Load address width value) acts is = absurd cc
  homefree_cause (Store address width value) acts is =
      (going.kept.core by c causer).straight_homefree (sym (ap (λ o. commits_bytes o (Store address width value)) causer) ∙ is)
  homefree_cause (Hurt epoch) acts is = absurd cc
  homefree_cause (Cancel epoch) acts is = absurd cc
  homefree_cause Restart acts is = absurd cc
  homefree_cause Publish acts is = acts
  homefree_cause Commit acts is = acts
  homefree_cause (Fault cause pc) acts is = acts

  -- ---- conflicts

  byte_conflict : (what : What) → Acts image s c what → commits_bytes (s.cores by) what ≡ true → MeetsInByte (meeting s by what k) → Conflict image cores
  byte_conflict what acts commits (byte_both a writes reads) =
      let homefree = homefree_cause what acts commits in record {
        earlier = c.epoch;
        later = v.epoch;
        byte = a;
        beside = two_beside;
        in_order = orderly.done c.epoch (omega (arith, homefree));
        stores = writes_path what acts a writes;
        reads = reads_path a reads;
      }

  pub conflict_of : (what : What) → Acts image s c what → commits_bytes (s.cores by) what ≡ true
      → (kind_with image (meeting s by what k) what ≡ TrueSharing) ⊎ (kind_with image (meeting s by what k) what ≡ SilentStore) → Conflict image cores
  conflict_of what acts commits kind = byte_conflict what acts commits (meets_in_byte image (meeting s by what k) what kind)

  line_conflict : (what : What) → Acts image s c what → (written_at read_at : ℕ) → line_number image written_at ≡ line_number image read_at
      → is_some (written (s.cores by) what written_at) ≡ true → is_some (read_bytes (s.cores k) read_at) ≡ true → LineConflict image cores
  line_conflict what acts written_at read_at same writes reads = record {
    earlier = c.epoch;
    later = v.epoch;
    written = written_at;
    read = read_at;
    beside = two_beside;
    same = same;
    stores = writes_path what acts written_at writes;
    reads = reads_path read_at reads;
  }

  beside_conflict : (what : What) → Acts image s c what → (a : ℕ) → is_beside image (meeting s by what k) a ≡ true → LineConflict image cores
  beside_conflict what acts a is =
      let parts = and_parts (is_some (read_bytes (s.cores k) a)) (line_has image (line_number image a) (λ b. is_some (written (s.cores by) what b))) is in
      let found = line_byte image (line_number image a) (λ b. is_some (written (s.cores by) what b)) parts.1 in
      line_conflict what acts found.0 a found.1 found.2 parts.0

  -- ---- full buffers

  holds_path : (line : ℕ) (what : What) → holds_line image (meeting s by what k) line ≡ true → StoresIn image v.epoch (path_memory image cores v.epoch) line
  holds_path line what is =
      let found = line_byte image line (λ a. is_some (own_bytes (s.cores k) a)) is in
      record { at = found.0; in_line = found.1; stores = victim_stores found.0 found.2 }

  abbrev other_line : What → ℕ → ℕ → Bool
  other_line what line other = not (other == line) && holds_line image (meeting s by what k) other

  other_path : (what : What) (line other : ℕ) → other_line what line other ≡ true → (other ≢ line) × StoresIn image v.epoch (path_memory image cores v.epoch) other
  other_path what line other is =
      let parts = and_parts (not (other == line)) (holds_line image (meeting s by what k) other) is in
      (λ same. true≢false (sym parts.0 ∙ ap not (eq-eqb other line same)), holds_path other what parts.1)

-- ---- the lines of a buffer

-- the numbers below this one that pass a test, the greatest first
pub record Passing (P : ℕ → Type 0) (n count : ℕ) : Type 0 where
  pub list : List ℕ
  pub long : length list ≡ count
  pub falling : AreFalling n list
  pub each : All P list

falling_up : (n : ℕ) (list : List ℕ) → AreFalling n list → AreFalling (suc n) list
falling_up n [] falling = tt
falling_up n (first ∷ rest) falling = (omega (arith, falling.0), falling.1)

all_none : (P : ℕ → Type 0) → All P []
all_none P k d below = absurd (omega (arith, below))

all_more : (P : ℕ → Type 0) (x : ℕ) (xs : List ℕ) → P x → All P xs → All P (x ∷ xs)
all_more P x xs here rest zero d below = here
all_more P x xs here rest (suc k) d below = rest k d (omega (arith, below))

passing_more : (P : ℕ → Type 0) (test : ℕ → Bool) (n : ℕ) (b : Bool) → test n ≡ b → (test n ≡ true → P n) → Passing P n (count_below n test)
    → Passing P (suc n) (count_below n test + cond b 1 0)
passing_more P test n true is passes rest = record {
  list = n ∷ rest.list;
  long = (let long = rest.long in omega (arith, long));
  falling = (omega arith, rest.falling);
  each = all_more P n rest.list (passes is) rest.each;
}
passing_more P test n false is passes rest = record {
  list = rest.list;
  long = (let long = rest.long in omega (arith, long));
  falling = falling_up n rest.list rest.falling;
  each = rest.each;
}

pub passing : (P : ℕ → Type 0) (test : ℕ → Bool) → ((k : ℕ) → test k ≡ true → P k) → (n : ℕ) → Passing P n (count_below n test)
unfolding count_below
passing P test passes zero = record { list = []; long = refl; falling = tt; each = all_none P }
passing P test passes (suc n) = passing_more P test n (test n) refl (passes n) (passing P test passes n)

module _ (image : LoadedImage) (cores : ℕ) (s : FlatState) (going : Going image cores s) (window : IsInWindow cores s) (orderly : IsOrderly image cores s)
    (by k : ℕ) (c v : CoreState) (causer : s.cores by ≡ Some c) (victim : s.cores k ≡ Some v) (before : c.epoch < v.epoch) where
  full_overflow : (what : What) (touched : ℕ) → PathTouches image cores c.epoch touched
      → is_full_at image (meeting s by what k) (line_number image touched) ≡ true → Overflow image cores
  full_overflow what touched touches is =
      let line = line_number image touched in
      let test : ℕ → Bool = other_line image cores s going window orderly by k c v causer victim before what line in
      let parts = and_parts (holds_line image (meeting s by what k) line) (nat_le image.machine.buffer_lines (count_below (line_count image) test)) is in
      let most = leb-true _ _ parts.1 in
      let lines = passing (λ other. (other ≢ line) × StoresIn image v.epoch (path_memory image cores v.epoch) other) test
      (other_path image cores s going window orderly by k c v causer victim before what line) (line_count image) in
      let long = lines.long in record {
        earlier = c.epoch;
        later = v.epoch;
        touched = touched;
        others = lines.list;
        lines = line_count image;
        beside = two_beside image cores s going window orderly by k c v causer victim before;
        touches = touches;
        stores = holds_path image cores s going window orderly by k c v causer victim before line what parts.0;
        apart = lines.falling;
        full = omega (arith, most, long);
        each = lines.each;
      }

  crowded_overflow : (what : What) → Acts image s c what → is_crowded image (meeting s by what k) what ≡ true → Overflow image cores
  crowded_overflow (Start epoch) acts is = absurd cc
  crowded_overflow (Load address width value) acts is =
      let parts = and_parts (nat_lt address image.size) (is_full_at image (meeting s by (Load address width value) k) (line_number image address)) is in
      let at = causer_at image cores s going window orderly by k c v causer victim before in
      let access : IsAccess image (next_event image c.hart).now address width = rw acts.2 at (stop_of_event image c.hart) in
      let wide = some_wide width access.wide in
      full_overflow (Load address width value) address (record {
        step = (next_event image c.hart).now.done;
        there = inl (loads_there image c.epoch (path_memory image cores c.epoch) c.hart at.0 at.1 address width acts.0 acts.1 address acts.2 (omega arith) (omega (arith, wide)));
      }) parts.1
  crowded_overflow (Store address width value) acts is =
      let parts = and_parts (nat_lt address image.size) (is_full_at image (meeting s by (Store address width value) k) (line_number image address)) is in
      let at = causer_at image cores s going window orderly by k c v causer victim before in
      let store : IsStore image (next_event image c.hart).now address width value = rw acts at (stop_of_event image c.hart) in
      let wide = some_wide width store.access.wide in
      full_overflow (Store address width value) address (record {
        step = (next_event image c.hart).now.done;
        there = inr (stores_there image c.epoch (path_memory image cores c.epoch) c.hart at.0 at.1 address width value address acts (omega arith) (omega (arith, wide)));
      }) parts.1
  crowded_overflow (Hurt epoch) acts is = absurd cc
  crowded_overflow (Cancel epoch) acts is = absurd cc
  crowded_overflow Restart acts is = absurd cc
  crowded_overflow Publish acts is = absurd cc
  crowded_overflow Commit acts is = absurd cc
  crowded_overflow (Fault cause pc) acts is = absurd cc

  one_of : (what : What) → Acts image s c what → Meets image (meeting s by what k) what → LineConflict image cores ⊎ Overflow image cores
  one_of what acts (in_byte a writes reads) = inl (line_conflict image cores s going window orderly by k c v causer victim before what acts a a refl writes reads)
  one_of what acts (in_line a is) = inl (beside_conflict image cores s going window orderly by k c v causer victim before what acts a is)
  one_of what acts (over_full is) = inr (crowded_overflow what acts is)

  -- what a violation of a kind shows on the paths
  pub shown_of : (what : What) → Acts image s c what → kind_with image (meeting s by what k) what ≢ Unexplained → LineConflict image cores ⊎ Overflow image cores
  shown_of what acts known = one_of what acts (meets image (meeting s by what k) what known)

-- The laws: a violation shows what there isn't.
use Rattle.std.proofs.Common.{◌≡◌, ◌≢◌, ◌⊎◌, ℕ, ◌<◌, ◌==◌, ◌&&◌, not, nat_lt, Bool, true, List, slice_get, take, Option, Some, None, refl, sym, ap, ◌∙◌, inl, inr, arith, eqb-true, ltb-true}
use Rattle.std.proofs.lemmas.Bool.{and_parts, cases_Bool}
use Rattle.rv32_image.specs.Image.{LoadedImage, IsImage}
use Rattle.rv32_image.proofs.SmallFacts.{one_value}
use Rattle.spec_history.specs.declared.entry.Entry.{Entry}
use Rattle.spec_history.specs.declared.entry.What.{What}
use Rattle.spec_history.specs.declared.entry.What.TheVariants.{Start, Load, Store, Hurt, Cancel, Restart, Publish, Commit, Fault}
use Rattle.spec_history.specs.declared.kind.Kind.TheVariants.{TrueSharing, SilentStore, Unexplained}
use Rattle.spec_history.specs.FlatState.{CoreState, FlatState}
use Rattle.spec_history.specs.Refusal.{any_below, can_be_hurt, refusal_of, runs_and}
use Rattle.spec_history.specs.Replay.{replay}
use Rattle.spec_history.specs.Conflict.{AreKnown, can_cause, cause_of, is_hurt, kind_of, what_at}
use Rattle.spec_history.proofs.OneEntry.Legal.{IsLegalEntry, legal_entry, some_below, that_load, that_store}
use Rattle.spec_history.proofs.OneEntry.Going.{Going}
use Rattle.spec_history.proofs.Replay.Replays.{not_running, on_core, replayed}
use Rattle.rv32_exec.specs.NextEvent.{next_event}
use Rattle.dependences.specs.Conflict.{Conflict, LineConflict, Overflow, path_memory}
use Rattle.dependences.proofs.Showing.{line_of}
use Rattle.homefree.specs.Ending.{NoneStartsAfterCancel}
use Rattle.homefree.specs.Caused.{MeetInBytes, MeetsInBytes}
use Rattle.dependences.specs.Laws.{NoneIsHurt}
use Rattle.dependences.proofs.Windows.{IsInWindow}
use Rattle.dependences.proofs.Starting.{IsOrderly}
use Rattle.dependences.proofs.Histories.{HurtsNone, none_is_hurt, says}
use Rattle.dependences.proofs.Causes.{IsAsFar, cause_at, cause_is_legal}
use Rattle.dependences.proofs.Meetings.{Acts, conflict_of, shown_of}

-- ---- the two cores

-- a core that runs and passes a test
core_of : (core : Option CoreState) (test : CoreState → Bool) → runs_and core test ≡ true → (c : CoreState) × (core ≡ Some c) × (test c ≡ true)
core_of None test is = absurd cc
core_of (Some c) test is = (c, refl, (and_parts (not c.hurt) (test c) is).1)

-- a violation: who makes it, of whom
record IsViolation (image : LoadedImage) (cores : ℕ) (s : FlatState) (by epoch : ℕ) : Type 0 where
  pub k : ℕ
  pub c : CoreState
  pub v : CoreState
  pub causer : s.cores by ≡ Some c
  pub victim : s.cores k ≡ Some v
  pub before : c.epoch < v.epoch
  pub epoch_is : v.epoch ≡ epoch

violation : (image : LoadedImage) (cores : ℕ) (s : FlatState) (by epoch : ℕ) → IsLegalEntry image cores s (record { by = by; what = Hurt epoch }) → IsViolation image cores s by epoch
violation image cores s by epoch legal =
    let parts = and_parts (runs_and (s.cores by) (λ x. nat_lt x.epoch epoch)) (any_below cores (λ k. can_be_hurt epoch (s.cores k))) legal.there in
    let c = core_of (s.cores by) (λ x. nat_lt x.epoch epoch) parts.0 in
    let k = some_below cores (λ k. can_be_hurt epoch (s.cores k)) parts.1 in
    let v = core_of (s.cores k.0) (λ x. (x.epoch == epoch) && not x.straight) k.2 in
    let number : v.0.epoch ≡ epoch = eqb-true _ _ (and_parts (v.0.epoch == epoch) (not v.0.straight) v.2).0 in
    let low : c.0.epoch < epoch = ltb-true _ _ c.2 in record {
      k = k.0;
      c = c.0;
      v = v.0;
      causer = c.1;
      victim = v.1;
      before = omega (arith, number, low);
      epoch_is = number;
    }

-- ---- the cause

-- what a legal cause says of the state before the violation
acts_by : (image : LoadedImage) (cores : ℕ) (s t : FlatState) (by : ℕ) (c : CoreState) (what : What) → IsAsFar by s t → s.cores by ≡ Some c
    → IsLegalEntry image cores t (record { by = by; what = what }) → (d : CoreState) → t.cores by ≡ Some d → d.hart ≡ c.hart → d.epoch ≡ c.epoch → Acts image s c what
acts_by image cores s t by c (Start epoch) far at legal d at_d hart number = tt
acts_by image cores s t by c (Load address width value) far at legal d at_d hart number =
    let load = that_load address width _ (on_core (t.cores by) d _ at_d legal.next) in
    (load.0, load.1, sym (ap (λ h. (next_event image h).at) hart) ∙ load.2)
acts_by image cores s t by c (Store address width value) far at legal d at_d hart number =
    let store = that_store address width value _ (on_core (t.cores by) d _ at_d legal.next) in sym (ap (λ h. (next_event image h).at) hart) ∙ store
acts_by image cores s t by c (Hurt epoch) far at legal d at_d hart number = tt
acts_by image cores s t by c (Cancel epoch) far at legal d at_d hart number = tt
acts_by image cores s t by c Restart far at legal d at_d hart number = tt
acts_by image cores s t by c Publish far at legal d at_d hart number = sym number ∙ (eqb-true _ _ (on_core (t.cores by) d _ at_d legal.homefree) ∙ far.homefree)
acts_by image cores s t by c Commit far at legal d at_d hart number = sym number ∙ (eqb-true _ _ (on_core (t.cores by) d _ at_d legal.homefree) ∙ far.homefree)
acts_by image cores s t by c (Fault cause pc) far at legal d at_d hart number = sym number ∙ (eqb-true _ _ (on_core (t.cores by) d _ at_d legal.homefree) ∙ far.homefree)

-- a legal entry that can violate is of a core that runs
runs_by : (image : LoadedImage) (cores : ℕ) (t : FlatState) (by : ℕ) (what : What) (o : Option CoreState) → t.cores by ≡ o → can_cause what ≡ true
    → IsLegalEntry image cores t (record { by = by; what = what }) → (d : CoreState) × (t.cores by ≡ Some d)
runs_by image cores t by what (Some d) at can legal = (d, at)
runs_by image cores t by (Start epoch) None at can legal = absurd cc
runs_by image cores t by (Load address width value) None at can legal = absurd (not_running (t.cores by) _ at legal.there)
runs_by image cores t by (Store address width value) None at can legal = absurd (not_running (t.cores by) _ at legal.there)
runs_by image cores t by (Hurt epoch) None at can legal = absurd cc
runs_by image cores t by (Cancel epoch) None at can legal = absurd cc
runs_by image cores t by Restart None at can legal = absurd cc
runs_by image cores t by Publish None at can legal = absurd (not_running (t.cores by) _ at legal.there)
runs_by image cores t by Commit None at can legal = absurd (not_running (t.cores by) _ at legal.there)
runs_by image cores t by (Fault cause pc) None at can legal = absurd (not_running (t.cores by) _ at legal.there)

module _ (image : LoadedImage) (cores : ℕ) (history : List Entry) (last : FlatState) (is : IsImage image) (replays : replay image cores history ≡ Some last)
    (starts : NoneStartsAfterCancel history) where
  acts_at : (n by epoch : ℕ) (s : FlatState) (c : CoreState) (what : What) → slice_get history n ≡ Some (record { by = by; what = Hurt epoch })
      → replay image cores (take n history) ≡ Some s → s.cores by ≡ Some c → what_at history (cause_of history n by) ≡ Some what → Acts image s c what
  acts_at n by epoch s c what at before causer cause_is =
      let cause = cause_at history n by what cause_is in
      let stands = cause_is_legal image cores history last n by what s _ replays before at refl cause in
      let legal = legal_entry image cores stands.later _ stands.legal in
      let d = runs_by image cores stands.later by what (stands.later.cores by) refl cause.can legal in
      let was = stands.far.core d.0 d.1 in
      let same : was.0 ≡ c = one_value (s.cores by) was.0 c was.1 causer in
      acts_by image cores s stands.later by c what stands.far causer legal d.0 d.1
      (was.2 ∙ ap (λ (x : CoreState). x.hart) same) (was.3 ∙ ap (λ (x : CoreState). x.epoch) same)

-- ---- an entry that violates

hurt_what : (what : What) → is_hurt what ≡ true → (epoch : ℕ) × (what ≡ Hurt epoch)
hurt_what (Start epoch) is = absurd cc
hurt_what (Load address width value) is = absurd cc
hurt_what (Store address width value) is = absurd cc
hurt_what (Hurt epoch) is = (epoch, refl)
hurt_what (Cancel epoch) is = absurd cc
hurt_what Restart is = absurd cc
hurt_what Publish is = absurd cc
hurt_what Commit is = absurd cc
hurt_what (Fault cause pc) is = absurd cc

-- what is to be shown of the violation of a state, where the entry at this place is one
abbrev Shows : LoadedImage → ℕ → List Entry → Type 0
Shows image cores history =
    (n by : ℕ) (s : FlatState) → replay image cores (take n history) ≡ Some s → Going image cores s → IsInWindow cores s → IsOrderly image cores s
    → (k : ℕ) (c v : CoreState) → s.cores by ≡ Some c → s.cores k ≡ Some v → c.epoch < v.epoch
    → slice_get history n ≡ Some (record { by = by; what = Hurt v.epoch }) → ⊥

hurts_none : (image : LoadedImage) (cores : ℕ) (history : List Entry) → IsImage image → Shows image cores history → HurtsNone image cores history
hurts_none image cores history is shows n s entry at before refusal window orderly = elim (cases_Bool (is_hurt entry.what)) [
  | inl hurts ↦
      (let hurt = hurt_what entry.what hurts in
      let same : refusal_of image cores s (record { by = entry.by; what = Hurt hurt.0 }) ≡ None =
      sym (ap (λ (w : What). let e : Entry = record { by = entry.by; what = w } in refusal_of image cores s e) hurt.1) ∙ refusal in
      let legal = legal_entry image cores s _ same in
      let x = violation image cores s entry.by hurt.0 legal in
      let there = says history n entry (Hurt hurt.0) at hurt.1
      ∙ ap (λ (epoch : ℕ). let e : Entry = record { by = entry.by; what = Hurt epoch } in Some e) (sym x.epoch_is) in
      absurd (shows n entry.by s before ((replayed image cores (take n history) s is before).going legal.going) window orderly x.k x.c x.v x.causer x.victim x.before there))
  | inr other ↦ other
]

no_cause : (Unexplained ≡ TrueSharing) ⊎ (Unexplained ≡ SilentStore) → ⊥
no_cause (inl is) = cc
no_cause (inr is) = cc

module _ (image : LoadedImage) (cores : ℕ) (history : List Entry) (last : FlatState) (is : IsImage image) (replays : replay image cores history ≡ Some last)
    (starts : NoneStartsAfterCancel history) where
  -- ---- over bytes

  bytes_by : (free : Conflict image cores → ⊥) (n by : ℕ) (s : FlatState) → replay image cores (take n history) ≡ Some s → Going image cores s → IsInWindow cores s
      → IsOrderly image cores s → (k : ℕ) (c v : CoreState) → s.cores by ≡ Some c → s.cores k ≡ Some v → c.epoch < v.epoch
      → slice_get history n ≡ Some (record { by = by; what = Hurt v.epoch })
      → (cause : Option What) → what_at history (cause_of history n by) ≡ cause → MeetsInBytes image s by k cause → ⊥
  bytes_by free n by s before going window orderly k c v causer victim low at None cause_is met = no_cause met.kind
  bytes_by free n by s before going window orderly k c v causer victim low at (Some what) cause_is met =
      free (conflict_of image cores s going window orderly by k c v causer victim low what
      (acts_at image cores history last is replays starts n by v.epoch s c what at before causer cause_is) (met.commits what refl) met.kind)

  pub over_bytes : MeetInBytes image cores history → (Conflict image cores → ⊥) → NoneIsHurt history
  over_bytes meets free =
      none_is_hurt image cores history is starts free
      (hurts_none image cores history is (λ n by s before going window orderly k c v causer victim low at.
      bytes_by free n by s before going window orderly k c v causer victim low at (what_at history (cause_of history n by)) refl
      (meets n by k s v at before victim)))
      last replays

  -- ---- over lines

  lines_by : (LineConflict image cores → ⊥) → (Overflow image cores → ⊥) → LineConflict image cores ⊎ Overflow image cores → ⊥
  lines_by free room (inl conflict) = free conflict
  lines_by free room (inr overflow) = room overflow

  known_by : (free : LineConflict image cores → ⊥) (room : Overflow image cores → ⊥) (n by : ℕ) (s : FlatState) → replay image cores (take n history) ≡ Some s
      → Going image cores s → IsInWindow cores s
      → IsOrderly image cores s → (k : ℕ) (c v : CoreState) → s.cores by ≡ Some c → s.cores k ≡ Some v → c.epoch < v.epoch
      → slice_get history n ≡ Some (record { by = by; what = Hurt v.epoch })
      → (cause : Option What) → what_at history (cause_of history n by) ≡ cause → kind_of image s by k cause ≢ Unexplained → ⊥
  known_by free room n by s before going window orderly k c v causer victim low at None cause_is known = known refl
  known_by free room n by s before going window orderly k c v causer victim low at (Some what) cause_is known =
      lines_by free room (shown_of image cores s going window orderly by k c v causer victim low what
      (acts_at image cores history last is replays starts n by v.epoch s c what at before causer cause_is) known)

  pub over_lines : AreKnown image cores history → (LineConflict image cores → ⊥) → (Overflow image cores → ⊥) → NoneIsHurt history
  over_lines known free room =
      none_is_hurt image cores history is starts (λ conflict. free (line_of image cores (path_memory image cores) conflict))
      (hurts_none image cores history is (λ n by s before going window orderly k c v causer victim low at.
      known_by free room n by s before going window orderly k c v causer victim low at (what_at history (cause_of history n by)) refl
      (known n by k s v at before victim)))
      last replays

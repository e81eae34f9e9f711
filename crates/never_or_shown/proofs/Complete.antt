-- What a core that has not published keeps of its epoch: over any memory that has the bytes which it has read from outside, it is on
-- its path, it owns all that it has stored, and it has read all that the path has read from outside.
use Rattle.std.proofs.Common.{◌≡◌, ℕ, ◌+◌, ◌<◌, ◌≤◌, ◌||◌, ◌==◌, not, Bool, true, false, cond, List, length, slice_index, take, Option, Some, None, is_some, refl, sym, ap, subst, ◌∙◌, inl, inr, true≢false, arith, eqb-true}
use Rattle.std.proofs.lemmas.Bool.{and_parts, not-true}
use Rattle.std.proofs.lemmas.List.{take_all}
use Rattle.std.proofs.lemmas.Option.{none-some, same_Some}
use Rattle.rv32_image.specs.Image.{LoadedImage, IsImage}
use Rattle.memory_bytes.specs.Bytes.{number_at}
use Rattle.memory_bytes.specs.Maps.{first_of, joined, over, read_outside, stored}
use Rattle.memory_bytes.proofs.Bytes.{number_at_same}
use Rattle.memory_bytes.proofs.SmallFacts.{seen_by, some_first}
use Rattle.rv32_exec.specs.declared.stop.Stop.TheVariants as stop
use Rattle.rv32_exec.specs.Hart.{stepped}
use Rattle.rv32_exec.specs.NextEvent.{next_event}
use Rattle.rv32_exec.specs.Arrival.{after_number}
use Rattle.spec_history.specs.declared.entry.Entry.{Entry}
use Rattle.spec_history.specs.declared.entry.What.{What}
use Rattle.spec_history.specs.declared.entry.What.TheVariants.{Start, Load, Store, Hurt, Cancel, Restart, Publish, Commit, Fault}
use Rattle.spec_history.specs.FlatState.{CoreState, FlatState, begun, first_state}
use Rattle.spec_history.specs.Effect.{after_publish, effect, effect_idle, effect_on, hurt_at, with_core}
use Rattle.spec_history.specs.Laws.{HasBytes, IsKept}
use Rattle.spec_history.specs.Refusal.{runs_and}
use Rattle.spec_history.specs.Replay.{replay}
use Rattle.spec_history.proofs.OneEntry.Accesses.{load_counts}
use Rattle.spec_history.proofs.OneEntry.Entries.{still_runs}
use Rattle.spec_history.proofs.OneEntry.Keeping.{at_core, noted, noted_within}
use Rattle.spec_history.proofs.OneEntry.Legal.{IsLegalEntry, legal_entry, that_load, that_store}
use Rattle.spec_history.proofs.Replay.Replays.{effect-idle, effect-on, on_core, replayed}
use Rattle.epoch_paths.specs.Paths.{ReadsOutside}
use Rattle.dependences.proofs.Histories.{along}
use Rattle.epoch_paths.proofs.Outside.{read_by_load, read_by_store}
use Rattle.epoch_paths.specs.Kept.{IsAt}
use Rattle.epoch_paths.proofs.Paths.{at_start, past_load, past_store}

-- the core over this memory
pub record IsComplete (image : LoadedImage) (memory : List ℕ) (c : CoreState) : Type 0 where
  pub at : IsAt image c.epoch memory c.hart c.own
  pub read : (a : ℕ) → (reads : ReadsOutside image c.epoch memory a) → reads.step < c.hart.done → is_some (c.outside a) ≡ true

-- over any that has what it has read
abbrev pub Knows : LoadedImage → CoreState → Type 0
Knows image c = (memory : List ℕ) → HasBytes image c.outside memory → IsComplete image memory c

abbrev pub AllKnow : LoadedImage → (ℕ → Option CoreState) → Type 0
AllKnow image cores = (k : ℕ) (c : CoreState) → cores k ≡ Some c → c.straight ≡ false → Knows image c

-- ---- one core

begun_knows : (image : LoadedImage) (epoch : ℕ) → Knows image (begun image epoch)
begun_knows image epoch memory has = record {
  at = at_start image epoch memory has.long;
  read = λ a reads low. absurd (omega (arith, low));
}

still_by : (o before : Option ℕ) (committed byte : ℕ) → ((b : ℕ) → o ≡ Some b → b ≡ committed) → before ≡ Some byte → committed ≡ byte → first_of o before ≡ Some byte
still_by None before committed byte now is stands = is
still_by (Some b) before committed byte now is stands = ap Some (now b refl ∙ stands)

module _ (image : LoadedImage) (committed : ℕ → ℕ) (c : CoreState) (address width : ℕ) (signed : Bool) (rd value : ℕ) (is : (next_event image c.hart).at ≡ stop.Load address width signed rd)
    (number : number_at (over c.own committed) address width ≡ value) (stands : (a byte : ℕ) → c.outside a ≡ Some byte → committed a ≡ byte) where
  abbrev loaded : CoreState
  loaded = record c {
    hart = after_number (next_event image c.hart).now (next_event image c.hart).at value;
    outside = joined (read_outside address width c.own committed) c.outside;
  }

  has_before : (memory : List ℕ) → HasBytes image loaded.outside memory → HasBytes image c.outside memory
  has_before memory has = record {
    long = has.long;
    bytes = λ a byte before. has.bytes a byte (still_by (read_outside address width c.own committed a) (c.outside a) (committed a) byte
        (λ b now. (noted_within address width a b c.own committed now).1) before (stands a byte before));
  }

  read_so : (a : ℕ) → is_some (c.outside a) ≡ true → is_some (loaded.outside a) ≡ true
  read_so a before = some_first (read_outside address width c.own committed a) (c.outside a) before

  read_here : (a : ℕ) → address ≤ a → a < address + width → c.own a ≡ None → loaded.outside a ≡ Some (committed a)
  read_here a low high none = ap (λ o. first_of o (c.outside a)) (noted address width a c.own committed low high none)

  load_knows : Knows image c → Knows image loaded
  load_knows knows memory has =
      let was = knows memory (has_before memory has) in
      let count = load_counts image c.hart address width signed rd value is in record {
        at = past_load image c.epoch memory c.hart c.own address width signed rd value was.at is
            (number_at_same (over c.own (λ a. slice_index memory a)) (over c.own committed) address width
            (λ a low high. seen_by (c.own a) (slice_index memory a) (committed a) (λ none. has.bytes a (committed a) (read_here a low high none))) ∙ number);
        read = λ a reads low. elim (read_by_load image c.epoch memory c.hart c.own was.at address width signed rd a is reads (omega (arith, low, count))) [
          | inl before ↦ read_so a (was.read a reads before)
          | inr here ↦ ap (λ (o : Option ℕ). is_some o) (read_here a here.0 here.1 here.2)
        ];
      }

module _ (image : LoadedImage) (c : CoreState) (address width value : ℕ) (is : (next_event image c.hart).at ≡ stop.Store address width value) where
  store_knows : Knows image c → Knows image (record c { hart = stepped (next_event image c.hart).now; own = joined (stored address width value) c.own })
  store_knows knows memory has =
      let was = knows memory has in record {
        at = past_store image c.epoch memory c.hart c.own address width value was.at is;
        read = λ a reads low. was.read a reads (read_by_store image c.epoch memory c.hart c.own was.at address width value a is reads low);
      }

-- ---- one entry

unhurt_so : (core : Option CoreState) (c : CoreState) → core ≡ Some c → runs_and core (λ x. true) ≡ true → c.hurt ≡ false
unhurt_so core c at is = not-true c.hurt (and_parts (not c.hurt) true (sym (ap (λ o. runs_and o (λ x. true)) at) ∙ is)).0

core_with : (image : LoadedImage) (cores : ℕ → Option CoreState) (by : ℕ) (new : CoreState) → (new.straight ≡ false → Knows image new) → AllKnow image cores
    → AllKnow image (with_core cores by (Some new))
core_with image cores by new here all k d at = elim (at_core cores by (Some new) k d at) [
  | inl same ↦ subst (λ (x : CoreState). x.straight ≡ false → Knows image x) (same_Some new d same.1) here
  | inr other ↦ all k d other.1
]

core_without : (image : LoadedImage) (cores : ℕ → Option CoreState) (by : ℕ) → AllKnow image cores → AllKnow image (with_core cores by None)
core_without image cores by all k d at = elim (at_core cores by None k d at) [
  | inl same ↦ absurd (none-some d same.1)
  | inr other ↦ all k d other.1
]

hurt_knows : (image : LoadedImage) (epoch : ℕ) (core : Option CoreState) → ((c : CoreState) → core ≡ Some c → c.straight ≡ false → Knows image c)
    → (d : CoreState) → hurt_at epoch core ≡ Some d → d.straight ≡ false → Knows image d
hurt_knows image epoch None all d is = absurd (none-some d is)
hurt_knows image epoch (Some c) all d is =
    subst (λ (x : CoreState). x.straight ≡ false → Knows image x) (same_Some (record c { hurt = c.hurt || (c.epoch == epoch) }) d is)
    (λ speculates memory has. let was = all c refl speculates memory has in record { at = was.at; read = was.read })

module _ (image : LoadedImage) (count : ℕ) (s : FlatState) (kept : IsKept image count s) (all : AllKnow image s.cores) where
  load_case : (by : ℕ) (c : CoreState) (address width value : ℕ) → s.cores by ≡ Some c → IsLegalEntry image count s (record { by = by; what = Load address width value })
      → AllKnow image (effect_on image s by c (Load address width value)).cores
  load_case by c address width value at legal =
      let load = that_load address width _ (on_core (s.cores by) c _ at legal.next) in
      let number = eqb-true _ _ (on_core (s.cores by) c _ at legal.value) in
      let unhurt = unhurt_so (s.cores by) c at legal.there in
      let hart = after_number (next_event image c.hart).now (next_event image c.hart).at value in
      core_with image s.cores by _
      (λ speculates. subst (λ (b : Bool). Knows image (record c { hart = hart; outside = cond b c.outside (joined (read_outside address width c.own s.committed) c.outside) })) (sym speculates)
      (load_knows image s.committed c address width load.0 load.1 value load.2 number (λ a byte read. (kept.core by c at).reads_stand unhurt a byte read) (all by c at speculates))) all

  store_case : (by : ℕ) (c : CoreState) (address width value : ℕ) → s.cores by ≡ Some c → IsLegalEntry image count s (record { by = by; what = Store address width value })
      → AllKnow image (effect_on image s by c (Store address width value)).cores
  store_case by c address width value at legal =
      let store = that_store address width value _ (on_core (s.cores by) c _ at legal.next) in
      core_with image s.cores by _
      (λ speculates. subst (λ (b : Bool). Knows image (record c { hart = stepped (next_event image c.hart).now; own = cond b c.own (joined (stored address width value) c.own) })) (sym speculates)
      (store_knows image c address width value store (all by c at speculates))) all

  on_core_knows : (by : ℕ) (what : What) (c : CoreState) → s.cores by ≡ Some c → IsLegalEntry image count s (record { by = by; what = what })
      → AllKnow image (effect_on image s by c what).cores
  on_core_knows by (Start epoch) c at legal = all
  on_core_knows by (Load address width value) c at legal = load_case by c address width value at legal
  on_core_knows by (Store address width value) c at legal = store_case by c address width value at legal
  on_core_knows by (Hurt epoch) c at legal = λ k d is. hurt_knows image epoch (s.cores k) (all k) d is
  on_core_knows by (Cancel epoch) c at legal = λ k d is. all k d (still_runs epoch (s.cores k) d is)
  on_core_knows by Restart c at legal = core_with image s.cores by (begun image c.epoch) (λ speculates. begun_knows image c.epoch) all
  on_core_knows by Publish c at legal = core_with image s.cores by (after_publish c) (λ speculates. absurd (true≢false speculates)) all
  on_core_knows by Commit c at legal = core_without image s.cores by all
  on_core_knows by (Fault cause pc) c at legal = all

  idle_knows : (by : ℕ) (what : What) → AllKnow image (effect_idle image s by what).cores
  idle_knows by (Start epoch) = core_with image s.cores by (begun image epoch) (λ speculates. begun_knows image epoch) all
  idle_knows by (Load address width value) = all
  idle_knows by (Store address width value) = all
  idle_knows by (Hurt epoch) = all
  idle_knows by (Cancel epoch) = all
  idle_knows by Restart = all
  idle_knows by Publish = all
  idle_knows by Commit = all
  idle_knows by (Fault cause pc) = all

  knows_by : (by : ℕ) (what : What) (core : Option CoreState) → s.cores by ≡ core → IsLegalEntry image count s (record { by = by; what = what })
      → AllKnow image (effect image s (record { by = by; what = what })).cores
  knows_by by what None at legal = rw (effect-idle image s by what at) (idle_knows by what)
  knows_by by what (Some c) at legal = rw (effect-on image s by what c at) (on_core_knows by what c at legal)

-- ---- all entries

first_knows : (image : LoadedImage) → AllKnow image (first_state image).cores
first_knows image k c is = absurd (none-some c is)

-- in each state of a replay
pub all_know : (image : LoadedImage) (count : ℕ) (history : List Entry) (s : FlatState) → IsImage image → replay image count history ≡ Some s → AllKnow image s.cores
all_know image count history s is replays =
    along image count history s replays (λ n t. AllKnow image t.cores) (first_knows image)
    (λ n t entry at before refusal was.
    let legal = legal_entry image count t entry refusal in
    let going = (replayed image count (take n history) t is before).going legal.going in
    knows_by image count t going.kept was entry.by entry.what (t.cores entry.by) refl legal)
    (length history) s (omega arith) (ap (replay image count) (take_all (length history) history (omega arith)) ∙ replays)

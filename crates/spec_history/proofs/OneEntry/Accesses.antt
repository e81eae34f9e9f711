-- What a legal load or store keeps of its core.
use Rattle.std.proofs.Common.{◌≡◌, ℕ, ◌+◌, ◌<◌, ◌≤◌, Bool, false, List, slice_index, Option, Some, None, unwrap_or, refl, sym, ap, ◌∙◌, true≢false, arith}
use Rattle.rv32_exec.specs.declared.stop.Stop.TheVariants as stop
use Rattle.memory_bytes.specs.Bytes.{number_at, with_number}
use Rattle.rv32_image.specs.Image.{LoadedImage}
use Rattle.rv32_exec.specs.Hart.{HartState, start_of, stepped}
use Rattle.rv32_exec.specs.Execute.{after_load, IsAccess, IsStore}
use Rattle.rv32_exec.specs.NextEvent.{next_event}
use Rattle.rv32_exec.specs.Arrival.{after_number}
use Rattle.rv32_exec.specs.Sequential.{Runs, after_stop}
use Rattle.memory_bytes.specs.Maps.{first_of, joined, over, stored, read_outside}
use Rattle.spec_history.specs.FlatState.{CoreState}
use Rattle.spec_history.specs.Laws.{Holds, HasBytes, IsKeptCore}
use Rattle.memory_bytes.proofs.Bytes.{over-joined, number_at_same, length-with_number, with_number_bytes}
use Rattle.memory_bytes.proofs.SmallFacts.{seen_by}
use Rattle.rv32_exec.proofs.Accesses.{stop_of_event}
use Rattle.spec_history.proofs.OneEntry.Progress.{comes_past_access}
use Rattle.spec_history.proofs.OneEntry.Keeping.{read_now, read_before, was_read, noted, noted_within}

-- ---- the two harts

-- a load's core goes on with what it loaded, over memory that has that number
pub load_goes_on : (image : LoadedImage) (h : HartState) (address width : ℕ) (signed : Bool) (rd value : ℕ) (memory : List ℕ)
    → (next_event image h).at ≡ stop.Load address width signed rd → number_at (λ a. slice_index memory a) address width ≡ value
    → after_stop (next_event image h).now memory (next_event image h).at ≡ Runs (after_number (next_event image h).now (next_event image h).at value) memory
load_goes_on image h address width signed rd value memory at number = rw at (ap (λ n. Runs (after_load (next_event image h).now width signed rd n) memory) number)

pub load_counts : (image : LoadedImage) (h : HartState) (address width : ℕ) (signed : Bool) (rd value : ℕ) → (next_event image h).at ≡ stop.Load address width signed rd
    → (after_number (next_event image h).now (next_event image h).at value).done ≡ (next_event image h).now.done + 1
load_counts image h address width signed rd value at = rw at refl

pub store_goes_on : (image : LoadedImage) (h : HartState) (address width value : ℕ) (memory : List ℕ)
    → (next_event image h).at ≡ stop.Store address width value
    → after_stop (next_event image h).now memory (next_event image h).at ≡ Runs (stepped (next_event image h).now) (with_number memory address width value)
store_goes_on image h address width value memory at = rw at refl

pub load_within : (image : LoadedImage) (h : HartState) (address width : ℕ) (signed : Bool) (rd : ℕ) → (next_event image h).at ≡ stop.Load address width signed rd
    → address + width ≤ image.size
load_within image h address width signed rd at =
    let access : IsAccess image (next_event image h).now address width = rw at at (stop_of_event image h) in access.within

pub store_within : (image : LoadedImage) (h : HartState) (address width value : ℕ) → (next_event image h).at ≡ stop.Store address width value
    → address + width ≤ image.size
store_within image h address width value at =
    let store : IsStore image (next_event image h).now address width value = rw at at (stop_of_event image h) in store.access.within

-- bytes over memory, where they are over what the memory holds
pub holds_stored : (image : LoadedImage) (committed : ℕ → ℕ) (address width value : ℕ) (memory : List ℕ) → address + width ≤ image.size
    → Holds image committed memory → Holds image (over (stored address width value) committed) (with_number memory address width value)
holds_stored image committed address width value memory within holds = record {
  long = length-with_number memory address width value ∙ holds.long;
  bytes = λ a. ap (unwrap_or (stored address width value a)) (holds.bytes a)
      ∙ sym (with_number_bytes memory address width value (omega (arith, holds.long)) a);
}

-- ---- a speculative load

still_by : (image : LoadedImage) (c : CoreState) (committed : ℕ → ℕ) (address width a byte : ℕ) (now : Option ℕ) → read_outside address width c.own committed a ≡ now
    → c.outside a ≡ Some byte → committed a ≡ byte → first_of now (c.outside a) ≡ Some byte
still_by image c committed address width a byte None now before stands = before
still_by image c committed address width a byte (Some b) now before stands = ap Some ((noted_within address width a b c.own committed now).1 ∙ stands)

-- what was read before is read still
pub still_read : (image : LoadedImage) (c : CoreState) (committed : ℕ → ℕ) (address width : ℕ) (memory : List ℕ)
    → ((a byte : ℕ) → c.outside a ≡ Some byte → committed a ≡ byte)
    → HasBytes image (joined (read_outside address width c.own committed) c.outside) memory → HasBytes image c.outside memory
still_read image c committed address width memory stands has = record {
  long = has.long;
  bytes = λ a byte before. has.bytes a byte (still_by image c committed address width a byte (read_outside address width c.own committed a) refl before (stands a byte before));
}

-- the core's loaded bytes are those of its own run
sees_alone : (image : LoadedImage) (c : CoreState) (committed : ℕ → ℕ) (address width : ℕ) (memory after : List ℕ)
    → HasBytes image (joined (read_outside address width c.own committed) c.outside) memory
    → Holds image (over c.own (λ a. slice_index memory a)) after
    → (a : ℕ) → address ≤ a → a < address + width → slice_index after a ≡ over c.own committed a
sees_alone image c committed address width memory after has holds a low high =
    sym (seen_by (c.own a) (committed a) (slice_index memory a)
    (λ none. sym (has.bytes a (committed a) (ap (λ o. first_of o (c.outside a)) (noted address width a c.own committed low high none))))
    ∙ holds.bytes a)

pub load_kept : (image : LoadedImage) (count : ℕ) (committed : ℕ → ℕ) (homefree next_epoch k : ℕ) (c : CoreState) (address width : ℕ) (signed : Bool) (rd value : ℕ)
    → c.hurt ≡ false → c.straight ≡ false → (next_event image c.hart).at ≡ stop.Load address width signed rd
    → number_at (over c.own committed) address width ≡ value
    → IsKeptCore image count committed homefree next_epoch k c
    → IsKeptCore image count committed homefree next_epoch k (record c {
      hart = after_number (next_event image c.hart).now (next_event image c.hart).at value;
      outside = joined (read_outside address width c.own committed) c.outside;
    })
load_kept image count committed homefree next_epoch k c address width signed rd value unhurt speculative at number kept =
    let within = load_within image c.hart address width signed rd at in
    let read = λ (a byte : ℕ) (is : joined (read_outside address width c.own committed) c.outside a ≡ Some byte).
    was_read image c committed address width a byte (read_outside address width c.own committed a) refl is in record {
      there = kept.there;
      from = kept.from;
      below = kept.below;
      straight_homefree = kept.straight_homefree;
      straight_unhurt = kept.straight_unhurt;
      straight_owns = kept.straight_owns;
      straight_read = λ is. absurd (true≢false (sym is ∙ speculative));
      within = λ a byte is. elim (read a byte is) [
        | read_now high here ↦ omega arith
        | read_before before ↦ kept.within a byte before
      ];
      reads_stand = λ same a byte is. elim (read a byte is) [
        | read_now high here ↦ sym here
        | read_before before ↦ kept.reads_stand unhurt a byte before
      ];
      runs_alone = λ same alone memory has.
          let lead = kept.runs_alone unhurt speculative memory (still_read image c committed address width memory (kept.reads_stand unhurt) has) in
          let loads = number_at_same (λ a. slice_index lead.after a) (over c.own committed) address width
          (sees_alone image c committed address width memory lead.after has lead.holds) ∙ number in record {
            after = lead.after;
            runs = comes_past_access image (start_of image c.epoch) c.hart _ memory lead.after lead.after refl lead.runs
                (load_goes_on image c.hart address width signed rd value lead.after at loads)
                (load_counts image c.hart address width signed rd value at);
            holds = lead.holds;
          };
    }

-- ---- a speculative store

pub store_kept : (image : LoadedImage) (count : ℕ) (committed : ℕ → ℕ) (homefree next_epoch k : ℕ) (c : CoreState) (address width value : ℕ)
    → c.hurt ≡ false → c.straight ≡ false → (next_event image c.hart).at ≡ stop.Store address width value
    → IsKeptCore image count committed homefree next_epoch k c
    → IsKeptCore image count committed homefree next_epoch k (record c {
      hart = stepped (next_event image c.hart).now;
      own = joined (stored address width value) c.own;
    })
store_kept image count committed homefree next_epoch k c address width value unhurt speculative at kept = record {
  there = kept.there;
  from = kept.from;
  below = kept.below;
  straight_homefree = kept.straight_homefree;
  straight_unhurt = kept.straight_unhurt;
  straight_owns = λ is. absurd (true≢false (sym is ∙ speculative));
  straight_read = kept.straight_read;
  within = kept.within;
  reads_stand = kept.reads_stand;
  runs_alone = λ same alone memory has.
      let lead = kept.runs_alone unhurt speculative memory has in
      let holds = holds_stored image _ address width value lead.after (store_within image c.hart address width value at) lead.holds in record {
        after = with_number lead.after address width value;
        runs = comes_past_access image (start_of image c.epoch) c.hart _ memory lead.after _ refl lead.runs
            (store_goes_on image c.hart address width value lead.after at) refl;
        holds = record {
          long = holds.long;
          bytes = λ a. over-joined (stored address width value) c.own (λ b. slice_index memory b) a ∙ holds.bytes a;
        };
      };
}

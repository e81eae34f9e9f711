-- One epoch alone over a memory: what it has read from outside so far, and who wrote that.
use Rattle.std.proofs.Common.{◌≡◌, ◌⊎◌, ℕ, ◌+◌, ◌-◌, ◌<◌, ◌≤◌, Bool, List, length, slice_index, Option, Some, None, refl, sym, ap, ◌∙◌, inl, inr, arith}
use Rattle.rv32_image.specs.Image.{LoadedImage}
use Rattle.memory_bytes.specs.Bytes.{number_at, with_number}
use Rattle.memory_bytes.specs.Maps.{joined, nothing, stored}
use Rattle.rv32_exec.specs.declared.stop.Stop.TheVariants as stop
use Rattle.rv32_exec.specs.Hart.{HartState, start_of, stepped}
use Rattle.rv32_exec.specs.NextEvent.{next_event}
use Rattle.rv32_exec.specs.Arrival.{after_number}
use Rattle.rv32_exec.specs.Sequential.{after_stop}
use Rattle.rv32_exec.specs.Laws.{HasStopped}
use Rattle.spec_history.proofs.OneEntry.Accesses.{load_counts}
use Rattle.epoch_paths.specs.Paths.{ReadsOutside}
use Rattle.epoch_paths.specs.Kept.{IsMarked, IsAt}
use Rattle.dependences.specs.Kept.{MeetsWriter}
use Rattle.epoch_paths.proofs.Paths.{at_start, covered, either, load_after, neither, past_load, past_store, reads_there, start_after, store_after}
use Rattle.epoch_paths.proofs.Following.{all_loaded, unmarked}
use Rattle.epoch_paths.proofs.Outside.{seen_now, read_by_load, read_by_store}

-- ---- the last writers of what it reads

-- what the epoch has stored has no writer now, and what it has read from outside has none from `first` on
pub record Alone (image : LoadedImage) (epoch : ℕ) (memory writers : List ℕ) (first : ℕ) (now marks : List ℕ) (h : HartState) : Type 0 where
  pub own : ℕ → Option ℕ
  pub at : IsAt image epoch memory h own
  pub is : at.after ≡ now
  pub long : length marks ≡ image.size
  pub mine : (a byte : ℕ) → own a ≡ Some byte → slice_index marks a ≡ 0
  pub others : (a : ℕ) → own a ≡ None → slice_index marks a ≡ slice_index writers a
  pub none : (a : ℕ) → (reads : ReadsOutside image epoch memory a) → reads.step < h.done → slice_index writers a ≤ first

pub alone_start : (image : LoadedImage) (epoch : ℕ) (memory writers : List ℕ) (first : ℕ) → length memory ≡ image.size → length writers ≡ image.size
    → Alone image epoch memory writers first memory writers (start_of image epoch)
alone_start image epoch memory writers first long long' = record {
  own = nothing;
  at = at_start image epoch memory long;
  is = start_after image epoch memory long;
  long = long';
  mine = λ a byte is. absurd cc;
  others = λ a none. refl;
  none = λ a reads before. absurd (omega (arith, before));
}

module _ (image : LoadedImage) (epoch : ℕ) (memory writers : List ℕ) (first : ℕ) (now marks : List ℕ) (h : HartState)
    (x : Alone image epoch memory writers first now marks h) where
  meets_by : (address width : ℕ) (signed : Bool) (rd i : ℕ) → (next_event image h).at ≡ stop.Load address width signed rd → i < width
      → first < slice_index marks (address + i) → (o : Option ℕ) → x.own (address + i) ≡ o → MeetsWriter image epoch memory writers first
  meets_by address width signed rd i is within written (Some byte) own =
      let zeroed = x.mine (address + i) byte own in absurd (omega (arith, written, zeroed))
  meets_by address width signed rd i is within written None own =
      let same = x.others (address + i) own in record {
        byte = address + i;
        reads = reads_there image epoch memory h x.own x.at address width signed rd (address + i) is (omega arith) (omega (arith, within)) own;
        written = omega (arith, written, same);
      }

  -- a load of such a byte
  pub alone_meets : (address width : ℕ) (signed : Bool) (rd : ℕ) → (next_event image h).at ≡ stop.Load address width signed rd
      → (i : ℕ) × (i < width) × (first < slice_index marks (address + i)) → MeetsWriter image epoch memory writers first
  alone_meets address width signed rd is here = meets_by address width signed rd here.0 is here.1 here.2 (x.own (address + here.0)) refl

  none_by : (address width a : ℕ) → ((i : ℕ) → i < width → slice_index marks (address + i) ≤ first)
      → (address ≤ a) × (a < address + width) × (x.own a ≡ None) → slice_index writers a ≤ first
  none_by address width a unwritten (from, below, own) =
      let place : address + (a - address) ≡ a = omega (arith, from) in
      let low = unwritten (a - address) (omega (arith, from, below)) in
      let same = sym (ap (λ b. slice_index marks b) place) in
      let writer = x.others a own in omega (arith, low, same, writer)

  pub alone_load : (address width : ℕ) (signed : Bool) (rd value : ℕ) → (next_event image h).at ≡ stop.Load address width signed rd
      → number_at (λ a. slice_index now a) address width ≡ value → ((i : ℕ) → i < width → slice_index marks (address + i) ≤ first)
      → Alone image epoch memory writers first now marks (after_number (next_event image h).now (next_event image h).at value)
  alone_load address width signed rd value is number unwritten =
      let seen = seen_now image epoch memory now h x.own x.at x.is address width value number in
      let count = load_counts image h address width signed rd value is in record {
        own = x.own;
        at = past_load image epoch memory h x.own address width signed rd value x.at is seen;
        is = load_after image epoch memory h x.own address width signed rd value x.at is seen ∙ x.is;
        long = x.long;
        mine = x.mine;
        others = x.others;
        none = λ a reads before. elim (read_by_load image epoch memory h x.own x.at address width signed rd a is reads (omega (arith, before, count))) [
          | inl early ↦ x.none a reads early
          | inr here ↦ none_by address width a unwritten here
        ];
      }

  mine_by : (marks' : List ℕ) (address width value a byte : ℕ) → IsMarked marks marks' address width 0 → (o : Option ℕ) → stored address width value a ≡ o
      → ((b : ℕ) × (stored address width value a ≡ Some b)) ⊎ (x.own a ≡ Some byte) → slice_index marks' a ≡ 0
  mine_by marks' address width value a byte marked (Some b) is either = let within = covered address width value a b is in marked.here a within.0 within.1
  mine_by marks' address width value a byte marked None is (inl now) = let some = now.1 in absurd cc
  mine_by marks' address width value a byte marked None is (inr before) = unmarked marks marks' address width 0 value a marked is ∙ x.mine a byte before

  pub alone_store : (marks' : List ℕ) (address width value : ℕ) → (next_event image h).at ≡ stop.Store address width value
      → length marks' ≡ length marks → IsMarked marks marks' address width 0
      → Alone image epoch memory writers first (with_number now address width value) marks' (stepped (next_event image h).now)
  alone_store marks' address width value is long marked = record {
    own = joined (stored address width value) x.own;
    at = past_store image epoch memory h x.own address width value x.at is;
    is = store_after image epoch memory h x.own address width value x.at is ∙ ap (λ m. with_number m address width value) x.is;
    long = long ∙ x.long;
    mine = λ a byte some. mine_by marks' address width value a byte marked (stored address width value a) refl (either (stored address width value a) (x.own a) byte some);
    others = λ a none. let parts = neither (stored address width value a) (x.own a) none in
        unmarked marks marks' address width 0 value a marked parts.0 ∙ x.others a parts.1;
    none = λ a reads before. x.none a reads (read_by_store image epoch memory h x.own x.at address width value a is reads before);
  }

  -- where it has stopped, it has met none
  pub alone_none : HasStopped (after_stop (next_event image h).now x.at.after (next_event image h).at) → MeetsWriter image epoch memory writers first → ⊥
  alone_none stopped m =
      let low = x.none m.byte m.reads (all_loaded image epoch memory h x.own x.at stopped m.byte m.reads.step m.reads.there) in
      let written = m.written in omega (arith, low, written)

-- One instruction of the interpreter's loop is one of the epoch.
use Rattle.std.proofs.Common.{◌≡◌, ◌⊎◌, inl, inr, ℕ, suc, ◌+◌, ◌-◌, ◌*◌, ◌/◌, ◌%◌, ◌<◌, ◌≤◌, ◌^◌, ◌==◌, cond, nat_le, nat_lt, Bool, true, false, true≢false, List, length, Some, Result, Ok, Err, slice_get, slice_index, refl, sym, ap, subst, ◌∙◌, arith}
use Rattle.std.proofs.lemmas.Bool.Decides.{nat_tests}
use Rattle.rv32_decode.specs.declared.instr.Instr.{Instr}
use Rattle.rv32_decode.specs.declared.refused.Refused.{Refused}
use Rattle.rv32_decode.specs.declared.refused.Refused.TheVariants.{Illegal, System}
use Rattle.rv32_decode.specs.Table.{meaning_of}
use Rattle.rv32_exec.specs.Hart.{HartState, epoch_end, stepped}
use Rattle.memory_bytes.specs.Bytes.{number_at, with_number}
use Rattle.rv32_image.specs.Decoded.{IsDecoded, kept_of, trap, word_in}
use Rattle.rv32_image.proofs.Kept.{kept_at}
use Rattle.rv32_image.specs.Image.{LoadedImage, IsImage}
use Rattle.rv32_exec.specs.declared.stop.Stop.{Stop}
use Rattle.rv32_exec.specs.declared.stop.Stop.TheVariants.{Load, Store, Ended, Fault}
use Rattle.rv32_exec.specs.Execute.{Effect, Executes, Stops, add, after_load, instruction_effect, word_effect, hart_effect}
use Rattle.rv32_exec.specs.Sequential.{Runs, execute, after_steps}
use Rattle.rv32_exec.proofs.Runs.{next_event-executes}
use Rattle.rv32_exec.specs.Interpreter.{IsAnAccess, IsFaulting, IsLoadOf, IsPlace, IsRun, IsStoreOf, LeadsTo, Leads, after_effect, hart, hart_at, is_whole, left_by}
use Rattle.rv32_exec.specs.declared.interpreter.Left.{Left}
use Rattle.rv32_exec.specs.declared.interpreter.Why.TheVariants as why
use Rattle.rv32_exec.specs.declared.instruction.Way.TheVariants as way
use Rattle.rv32_exec.specs.Faults.{illegal_word, misaligned_target, system_instruction}

-- inside the code and below the limit the word is looked at
fetched : (image : LoadedImage) (h : HartState) → IsImage image → h.pc < image.code → h.done < image.limit
    → hart_effect image h ≡ word_effect image h (meaning_of (number_at (λ a. slice_index image.bytes a) h.pc 4))
unfolding hart_effect
fetched image h ok inside room =
    let before_end : (h.pc == epoch_end) ≡ false = grind (arith, nat_tests) in
    let below : nat_le image.limit h.done ≡ false = grind (arith, nat_tests) in
    let within : nat_le image.code h.pc ≡ false = grind (arith, nat_tests) in
    rw (before_end, below, within) refl

-- what the instruction that is kept of a word does
abbrev pub kept_effect : LoadedImage → List ℕ → ℕ → ℕ → Effect
kept_effect image x word done = instruction_effect image (hart x (4 * word) done) (λ r. slice_index x r) (kept_of (word_in image word))

-- what a trap does
abbrev trapped : ℕ → Effect
trapped word = Stops (Fault misaligned_target (4 * word))

trap_faults : (image : LoadedImage) (x : List ℕ) (word done : ℕ) → instruction_effect image (hart x (4 * word) done) (λ r. slice_index x r) trap ≡ trapped word
unfolding instruction_effect
trap_faults image x word done =
    let odd : (add (4 * word) 2 % 4 == 0) ≡ false = grind (arith, nat_tests) in rw odd refl

-- a word at which anything else comes of what is kept is one of the code
pub in_code : (image : LoadedImage) (x : List ℕ) (word done : ℕ) → (kept_effect image x word done ≡ trapped word → ⊥) → 4 * word < image.code
unfolding kept_of
in_code image x word done other = by_test (nat_lt (4 * word) image.code) refl other where
  by_test : (b : Bool) → nat_lt (4 * word) image.code ≡ b
      → (instruction_effect image (hart x (4 * word) done) (λ r. slice_index x r) (kept_of (cond b (meaning_of (number_at (λ a. slice_index image.bytes a) (4 * word) 4)) (Err Illegal))) ≡ trapped word → ⊥)
      → 4 * word < image.code
  by_test true is other = grind (arith, nat_tests)
  by_test false is other = absurd (other (trap_faults image x word done))

-- and the hart does what comes of it
pub does : (image : LoadedImage) (x : List ℕ) (word done : ℕ) → IsImage image → 4 * word < image.code → done < image.limit
    → (kept_effect image x word done ≡ trapped word → ⊥) → hart_effect image (hart x (4 * word) done) ≡ kept_effect image x word done
unfolding kept_of
does image x word done ok inside room other =
    let here : nat_lt (4 * word) image.code ≡ true = grind (arith, nat_tests) in
    fetched image (hart x (4 * word) done) ok inside room
    ∙ (by_means (meaning_of (number_at (λ a. slice_index image.bytes a) (4 * word) 4)) (rw here at other) ∙ rw here refl) where
      by_means : (means : Result Instr Refused) → (instruction_effect image (hart x (4 * word) done) (λ r. slice_index x r) (kept_of means) ≡ trapped word → ⊥)
          → word_effect image (hart x (4 * word) done) means ≡ instruction_effect image (hart x (4 * word) done) (λ r. slice_index x r) (kept_of means)
      by_means (Ok instr) other = refl
      by_means (Err refused) other = absurd (other (trap_faults image x word done))

-- ---- instructions that lead on

-- what leads on is no trap
runs_on : (word : ℕ) (h after : HartState) (memory memory' : List ℕ) (e : Effect) → after_effect h memory e ≡ Runs after memory' → e ≡ trapped word → ⊥
runs_on word h after memory memory' e runs is = let faults = ap (after_effect h memory) (sym is) ∙ runs in cc

execute-is : (image : LoadedImage) (h : HartState) (memory : List ℕ) → execute image h memory ≡ after_effect h memory (hart_effect image h)
unfolding execute
execute-is image h memory = refl

after_steps-one : (image : LoadedImage) (h after : HartState) (memory memory' : List ℕ) (n n' : ℕ)
    → n ≡ suc n' → execute image h memory ≡ Runs after memory' → after_steps image n' after memory' ≡ after_steps image n h memory
unfolding after_steps
after_steps-one image h after memory memory' n n' more is = rw (more, is) refl

leads_on : (image : LoadedImage) (h after : HartState) (memory memory' : List ℕ) → h.done < image.limit → after.done ≡ h.done + 1
    → after_effect h memory (hart_effect image h) ≡ Runs after memory' → (length memory ≡ 0 → hart_effect image h ≡ Executes after)
    → LeadsTo image h memory after memory'
leads_on image h after memory memory' room counted runs executes = record {
  outcome = after_steps-one image h after memory memory' (image.limit + 1 - h.done) (image.limit + 1 - after.done) (omega (arith, counted)) (execute-is image h memory ∙ runs);
  event = λ none. sym (next_event-executes image h after (executes none));
  within = λ before. omega (arith, counted);
  later = omega (arith, counted);
}

pub leads_further : (image : LoadedImage) (h h' h'' : HartState) (memory memory' memory'' : List ℕ) → length memory' ≡ length memory
    → LeadsTo image h memory h' memory' → LeadsTo image h' memory' h'' memory'' → LeadsTo image h memory h'' memory''
leads_further image h h' h'' memory memory' memory'' same first later = record {
  outcome = later.outcome ∙ first.outcome;
  event = λ none. later.event (same ∙ none) ∙ first.event none;
  within = λ before. later.within (first.within before);
  later = omega (arith, first.later, later.later);
}

-- where the loop is
pub record IsHere (image : LoadedImage) (is_near : Bool) (word last : ℕ) : Type 0 where
  pub ok : IsImage image
  pub before_last : word ≤ last
  pub within : last ≤ word + image.limit
  pub far : is_near ≡ false → image.code ≤ 4 * last
  pub room : is_near ≡ true → word < last

pub room_in : (image : LoadedImage) (is_near : Bool) (word last : ℕ) → IsHere image is_near word last → 4 * word < image.code → word < last
room_in image true word last here inside = here.room refl
room_in image false word last here inside = omega (arith, here.far refl, inside)

-- an instruction that leads on, to a word
pub on : (image : LoadedImage) (is_near : Bool) (x x' : List ℕ) (word last to last' : ℕ) (pc : ℕ) (memory memory' : List ℕ) (e : Effect)
    → IsHere image is_near word last → e ≡ kept_effect image x word (word + image.limit - last)
    → after_effect (hart x (4 * word) (word + image.limit - last)) memory e ≡ Runs (hart x' pc (word + image.limit - last + 1)) memory'
    → (length memory ≡ 0 → e ≡ Executes (hart x' pc (word + image.limit - last + 1)))
    → (4 * word < image.code → word < last → (pc ≡ 4 * to) × (last' + word + 1 ≡ last + to))
    → (4 * word < image.code) × (word < last)
    × LeadsTo image (hart_at image x (record { word = word; last = last })) memory (hart_at image x' (record { word = to; last = last' })) memory'
    × (hart_effect image (hart_at image x (record { word = word; last = last })) ≡ e)
    × (hart x' pc (word + image.limit - last + 1) ≡ hart_at image x' (record { word = to; last = last' }))
on image is_near x x' word last to last' pc memory memory' e here is runs executes goes =
    let done = word + image.limit - last in
    let other : kept_effect image x word done ≡ trapped word → ⊥ =
    runs_on word (hart x (4 * word) done) (hart x' pc (done + 1)) memory memory' (kept_effect image x word done) (rw is at runs) in
    let inside : 4 * word < image.code = in_code image x word done other in
    let room : word < last = room_in image is_near word last here inside in
    let below : done < image.limit = omega (arith, here.within, room) in
    let hart_does : hart_effect image (hart x (4 * word) done) ≡ e = does image x word done here.ok inside below other ∙ sym is in
    let there = goes inside room in
    let counted : to + image.limit - last' ≡ done + 1 = omega (arith, there.1, here.within, room) in (
      inside,
      room,
      leads_on image (hart x (4 * word) done) (hart x' (4 * to) (to + image.limit - last')) memory memory' below counted
          (rw (hart_does, counted, ← there.0) runs) (λ none. rw (hart_does, counted, ← there.0) (executes none)),
      hart_does,
      rw (there.0, counted) refl,
    )

-- the instruction that stands there
pub record Stands (image : LoadedImage) (is_near : Bool) (word last : ℕ) (instr : Instr) : Type 0 where
  pub here : IsHere image is_near word last
  pub kept : instr ≡ kept_of (word_in image word)

pub stands_at : (image : LoadedImage) (program : List Instr) (is_near : Bool) (word last : ℕ) (instr : Instr) → IsImage image → IsDecoded program image.code image.bytes
    → 4 * word ≤ image.code → word ≤ last → last ≤ word + image.limit → (is_near ≡ false → image.code ≤ 4 * last)
    → ((is_near ≡ true) × (word ≡ last → ⊥)) ⊎ (is_near ≡ false) → (word < length program → slice_get program word ≡ Some instr) → Stands image is_near word last instr
stands_at image program is_near word last instr ok decoded inside before within far either at =
    let in_program : word < length program = omega (arith, decoded.long, inside) in record {
      here = record {
        ok = ok;
        before_last = before;
        within = within;
        far = far;
        room = λ near. elim either [ inl both ↦ omega (arith, both.1, before) | inr other ↦ absurd (true≢false (sym near ∙ other)) ];
      };
      kept = kept_at program image word instr decoded in_program (at in_program);
    }

pub followed : (image : LoadedImage) (is_near : Bool) (x x' : List ℕ) (word last : ℕ) (memory memory' : List ℕ) (instr : Instr) (at : Stop) → Stands image is_near word last instr
    → Leads image word (hart x (4 * word) (word + image.limit - last)) memory (instruction_effect image (hart x (4 * word) (word + image.limit - last)) (λ r. slice_index x r) instr) way.Following at x' memory'
    → (4 * word < image.code) × (word < last)
    × LeadsTo image (hart_at image x (record { word = word; last = last })) memory (hart_at image x' (record { word = word + 1; last = last })) memory'
    × (hart_effect image (hart_at image x (record { word = word; last = last })) ≡ Executes (hart_at image x' (record { word = word + 1; last = last })))
followed image is_near x x' word last memory memory' instr at stands leads =
    let done = word + image.limit - last in
    let it = on image is_near x x' word last (word + 1) last ((4 * word + 4) % 2 ^ 32) memory memory' _ stands.here
    (ap (λ i. instruction_effect image (hart x (4 * word) done) (λ r. slice_index x r) i) stands.kept)
    (ap (after_effect (hart x (4 * word) done) memory) leads.0 ∙ ap (Runs (hart x' ((4 * word + 4) % 2 ^ 32) (done + 1))) (sym leads.1)) (λ none. leads.0)
    (λ inside room. (omega (arith, inside, stands.here.ok.code_most, stands.here.ok.size_most), omega arith)) in
    (it.0, it.1, it.2, it.3 ∙ (leads.0 ∙ ap Executes it.4))

pub jumped : (image : LoadedImage) (is_near : Bool) (x x' : List ℕ) (word last to : ℕ) (memory memory' : List ℕ) (instr : Instr) → Stands image is_near word last instr
    → instruction_effect image (hart x (4 * word) (word + image.limit - last)) (λ r. slice_index x r) instr ≡ Executes (hart x' (4 * to) (word + image.limit - last + 1))
    → memory' ≡ memory
    → (4 * word < image.code) × (word < last)
    × LeadsTo image (hart_at image x (record { word = word; last = last })) memory (hart_at image x' (record { word = to; last = last + to - word - 1 })) memory'
    × (hart_effect image (hart_at image x (record { word = word; last = last })) ≡ Executes (hart_at image x' (record { word = to; last = last + to - word - 1 })))
jumped image is_near x x' word last to memory memory' instr stands effect same =
    let done = word + image.limit - last in
    let it = on image is_near x x' word last to (last + to - word - 1) (4 * to) memory memory' _ stands.here
    (ap (λ i. instruction_effect image (hart x (4 * word) done) (λ r. slice_index x r) i) stands.kept)
    (ap (after_effect (hart x (4 * word) done) memory) effect ∙ ap (Runs (hart x' (4 * to) (done + 1))) (sym same)) (λ none. effect)
    (λ inside room. (refl, omega (arith, room))) in
    (it.0, it.1, it.2, it.3 ∙ (effect ∙ ap Executes it.4))

-- ---- notes on a run

-- what is right of a hart, and stays so where it executes an instruction that is no load or store
abbrev pub StaysRight : LoadedImage → (HartState → List ℕ → Type 0) → Type 0
StaysRight image right = (h after : HartState) (memory : List ℕ) → hart_effect image h ≡ Executes after → right h memory → right after memory

pub still_right : (image : LoadedImage) (right : HartState → List ℕ → Type 0) (h after : HartState) (memory memory' : List ℕ) → StaysRight image right
    → hart_effect image h ≡ Executes after → memory' ≡ memory → right h memory → right after memory'
still_right image right h after memory memory' stays executes same is = rw same (stays h after memory executes is)

-- ---- loads and stores

-- an instruction loads, and leads from one hart to another
pub record IsLoaded (image : LoadedImage) (h h' : HartState) (memory memory' : List ℕ) (address width : ℕ) : Type 0 where
  pub signed : Bool
  pub rd : ℕ
  pub stops : hart_effect image h ≡ Stops (Load address width signed rd)
  pub hart_is : after_load h width signed rd (number_at (λ a. slice_index memory a) address width) ≡ h'
  pub same : memory' ≡ memory

-- it stores
pub record IsStored (image : LoadedImage) (h h' : HartState) (memory memory' : List ℕ) (address width : ℕ) : Type 0 where
  pub value : ℕ
  pub stops : hart_effect image h ≡ Stops (Store address width value)
  pub hart_is : stepped h ≡ h'
  pub memory_is : with_number memory address width value ≡ memory'

loaded_by : (image : LoadedImage) (h after h' : HartState) (memory memory' : List ℕ) (e : Effect) (address width : ℕ) → hart_effect image h ≡ e → after_effect h memory e ≡ Runs after memory'
    → IsLoadOf e address width → after ≡ h' → IsLoaded image h h' memory memory' address width
loaded_by image h after h' memory memory' (Executes other) address width is runs of there = absurd of
loaded_by image h after h' memory memory' (Stops (Load from wide signed rd)) address width is runs of there =
    let wide_is = of.1 in
    let from_is = of.0 in
    let hart_is : after_load h wide signed rd (number_at (λ a. slice_index memory a) from wide) ≡ after = cc in record {
      signed = signed;
      rd = rd;
      stops = subst (λ w. hart_effect image h ≡ Stops (Load address w signed rd)) wide_is (subst (λ a. hart_effect image h ≡ Stops (Load a wide signed rd)) from_is is);
      hart_is = subst (λ w. after_load h w signed rd (number_at (λ a. slice_index memory a) address w) ≡ h') wide_is
          (subst (λ f. after_load h wide signed rd (number_at (λ a. slice_index memory a) f wide) ≡ h') from_is (hart_is ∙ there));
      same = cc;
    }
loaded_by image h after h' memory memory' (Stops (Store from wide value)) address width is runs of there = absurd of
loaded_by image h after h' memory memory' (Stops Ended) address width is runs of there = absurd of
loaded_by image h after h' memory memory' (Stops (Fault cause pc)) address width is runs of there = absurd of

stored_by : (image : LoadedImage) (h after h' : HartState) (memory memory' : List ℕ) (e : Effect) (address width : ℕ) → hart_effect image h ≡ e → after_effect h memory e ≡ Runs after memory'
    → IsStoreOf e address width → after ≡ h' → IsStored image h h' memory memory' address width
stored_by image h after h' memory memory' (Executes other) address width is runs of there = absurd of
stored_by image h after h' memory memory' (Stops (Load from wide signed rd)) address width is runs of there = absurd of
stored_by image h after h' memory memory' (Stops (Store from wide value)) address width is runs of there =
    let wide_is = of.1 in
    let from_is = of.0 in
    let hart_is : stepped h ≡ after = cc in
    let memory_is : with_number memory from wide value ≡ memory' = cc in record {
      value = value;
      stops = subst (λ w. hart_effect image h ≡ Stops (Store address w value)) wide_is (subst (λ a. hart_effect image h ≡ Stops (Store a wide value)) from_is is);
      hart_is = hart_is ∙ there;
      memory_is = subst (λ w. with_number memory address w value ≡ memory') wide_is (subst (λ f. with_number memory f wide value ≡ memory') from_is memory_is);
    }
stored_by image h after h' memory memory' (Stops Ended) address width is runs of there = absurd of
stored_by image h after h' memory memory' (Stops (Fault cause pc)) address width is runs of there = absurd of

pub loaded_on : (image : LoadedImage) (is_near : Bool) (x x' : List ℕ) (word last address width : ℕ) (memory memory' : List ℕ) (instr : Instr) (at : Stop) → Stands image is_near word last instr
    → Leads image word (hart x (4 * word) (word + image.limit - last)) memory (instruction_effect image (hart x (4 * word) (word + image.limit - last)) (λ r. slice_index x r) instr) (way.Loaded address width) at x' memory'
    → (4 * word < image.code) × (word < last)
    × LeadsTo image (hart_at image x (record { word = word; last = last })) memory (hart_at image x' (record { word = word + 1; last = last })) memory'
    × IsLoaded image (hart_at image x (record { word = word; last = last })) (hart_at image x' (record { word = word + 1; last = last })) memory memory' address width
loaded_on image is_near x x' word last address width memory memory' instr at stands leads =
    let done = word + image.limit - last in
    let it = on image is_near x x' word last (word + 1) last ((4 * word + 4) % 2 ^ 32) memory memory' _ stands.here
    (ap (λ i. instruction_effect image (hart x (4 * word) done) (λ r. slice_index x r) i) stands.kept) leads.0 (λ none. absurd (leads.2 none))
    (λ inside room. (omega (arith, inside, stands.here.ok.code_most, stands.here.ok.size_most), omega arith)) in
    (it.0, it.1, it.2, loaded_by image (hart x (4 * word) done) _ _ memory memory' _ address width it.3 leads.0 leads.1 it.4)

pub stored_on : (image : LoadedImage) (is_near : Bool) (x x' : List ℕ) (word last address width : ℕ) (memory memory' : List ℕ) (instr : Instr) (at : Stop) → Stands image is_near word last instr
    → Leads image word (hart x (4 * word) (word + image.limit - last)) memory (instruction_effect image (hart x (4 * word) (word + image.limit - last)) (λ r. slice_index x r) instr) (way.Stored address width) at x' memory'
    → (4 * word < image.code) × (word < last)
    × LeadsTo image (hart_at image x (record { word = word; last = last })) memory (hart_at image x' (record { word = word + 1; last = last })) memory'
    × IsStored image (hart_at image x (record { word = word; last = last })) (hart_at image x' (record { word = word + 1; last = last })) memory memory' address width
stored_on image is_near x x' word last address width memory memory' instr at stands leads =
    let done = word + image.limit - last in
    let it = on image is_near x x' word last (word + 1) last ((4 * word + 4) % 2 ^ 32) memory memory' _ stands.here
    (ap (λ i. instruction_effect image (hart x (4 * word) done) (λ r. slice_index x r) i) stands.kept) leads.0 (λ none. absurd (leads.2 none))
    (λ inside room. (omega (arith, inside, stands.here.ok.code_most, stands.here.ok.size_most), omega arith)) in
    (it.0, it.1, it.2, stored_by image (hart x (4 * word) done) _ _ memory memory' _ address width it.3 leads.0 leads.1 it.4)

-- a place of the loop, and that after a jump
pub place_here : (image : LoadedImage) (is_near : Bool) (word last : ℕ) → IsHere image is_near word last → 4 * word ≤ image.code → IsPlace image (record { word = word; last = last })
place_here image is_near word last here inside = record {
  address = omega (arith, inside, here.ok.code_most, here.ok.size_most);
  before_last = here.before_last;
  within = here.within;
}

pub place_there : (image : LoadedImage) (is_near : Bool) (word last to : ℕ) → IsHere image is_near word last → word < last → 4 * to < 2 ^ 32
    → IsPlace image (record { word = to; last = last + to - word - 1 })
place_there image is_near word last to here room address = record {
  address = address;
  before_last = omega (arith, room);
  within = omega (arith, room, here.within);
}

-- ---- stops

no_fault : (at : Stop) (cause pc : ℕ) → IsAnAccess at → Stops at ≡ Stops (Fault cause pc) → ⊥
no_fault (Load address width signed rd) cause pc access is = cc
no_fault (Store address width value) cause pc access is = cc
no_fault Ended cause pc access is = access
no_fault (Fault other at) cause pc access is = access

-- where the instruction stops at an access, the hart does
pub stopped_here : (image : LoadedImage) (is_near : Bool) (x : List ℕ) (word last : ℕ) (instr : Instr) (at : Stop) → Stands image is_near word last instr
    → instruction_effect image (hart x (4 * word) (word + image.limit - last)) (λ r. slice_index x r) instr ≡ Stops at → IsAnAccess at
    → hart_effect image (hart x (4 * word) (word + image.limit - last)) ≡ Stops at
stopped_here image is_near x word last instr at stands is access =
    let done = word + image.limit - last in
    let kept = ap (λ i. instruction_effect image (hart x (4 * word) done) (λ r. slice_index x r) i) stands.kept in
    let other : kept_effect image x word done ≡ trapped word → ⊥ = λ faults. no_fault at misaligned_target (4 * word) access (sym is ∙ (kept ∙ faults)) in
    let inside : 4 * word < image.code = in_code image x word done other in
    let room : word < last = room_in image is_near word last stands.here inside in
    does image x word done stands.here.ok inside (omega (arith, stands.here.within, room)) other ∙ (sym kept ∙ is)

-- the stop at a word that means this, and is no instruction, or one that faults with this cause
abbrev pub IsFaultStop : Result Instr Refused → ℕ → ℕ → Stop → Type 0
IsFaultStop (Ok instr) cause pc at = at ≡ Fault cause pc
IsFaultStop (Err Illegal) cause pc at = at ≡ Fault illegal_word pc
IsFaultStop (Err System) cause pc at = at ≡ Fault system_instruction pc

fault_stop : (image : LoadedImage) (h : HartState) (cause : ℕ) (means : Result Instr Refused) (at : Stop) → IsFaultStop means cause h.pc at
    → instruction_effect image h (λ r. slice_index h.x r) (kept_of means) ≡ Stops (Fault cause h.pc) → word_effect image h means ≡ Stops at
unfolding kept_of
fault_stop image h cause (Ok instr) at stop faults = faults ∙ ap Stops (sym stop)
fault_stop image h cause (Err Illegal) at stop faults = ap Stops (sym stop)
fault_stop image h cause (Err System) at stop faults = ap Stops (sym stop)

-- where a hart stops in the code at a word that is refused or whose instruction faults
pub stops_at_fault : (image : LoadedImage) (x : List ℕ) (pc done cause : ℕ) (means : Result Instr Refused) (at : Stop) → IsImage image → pc % 4 ≡ 0 → pc < image.code
    → means ≡ meaning_of (number_at (λ a. slice_index image.bytes a) pc 4) → IsFaultStop means cause pc at
    → IsFaulting image (hart x pc done) cause → hart_effect image (hart x pc done) ≡ Stops at
stops_at_fault image x pc done cause means at ok aligned inside is stop faults =
    let whole : 4 * (pc / 4) ≡ pc = omega (arith, aligned) in
    let here : nat_lt pc image.code ≡ true = grind (arith, nat_tests) in
    fetched image (hart x pc done) ok inside (faults.0 inside) ∙ rw is at (fault_stop image (hart x pc done) cause means at stop (rw (whole, here, ← is) at (faults.1)))

-- what is known where an instruction faults, by its address
pub faulting_at : (image : LoadedImage) (is_near : Bool) (x : List ℕ) (word last cause : ℕ) (instr : Instr) → Stands image is_near word last instr
    → instruction_effect image (hart x (4 * word) (word + image.limit - last)) (λ r. slice_index x r) instr ≡ Stops (Fault cause (4 * word))
    → IsFaulting image (hart x (4 * word) (word + image.limit - last)) cause
faulting_at image is_near x word last cause instr stands is =
    let back : 4 * word / 4 ≡ word = omega arith in (
      λ inside. (let room = room_in image is_near word last stands.here inside in omega (arith, room, stands.here.within)),
      rw (back, ← stands.kept) is,
    )

-- ---- jumps by an offset

-- one that leads to a word of the code is by whole words
pub whole_in_code : (word by words : ℕ) → word ≤ words → words < 2 ^ 28 → (by + 2 ^ 29) % 2 ^ 64 < 2 ^ 31 → (word + by) % 2 ^ 64 < words → is_whole by ≡ true
whole_in_code word by words before few near inside = let whole : (by + 2 ^ 29) % 2 ^ 64 < 2 ^ 30 = omega (arith, before, few, near, inside) in grind (arith, nat_tests)

pub same_word : (to words : ℕ) → words < 2 ^ 28 → to % 2 ^ 64 < words → to % 2 ^ 30 ≡ to % 2 ^ 64
same_word to words few inside = omega (arith, few, inside)

outside_code : (word by words : ℕ) → word ≤ words → words < 2 ^ 28 → is_whole by ≡ true → words ≤ (word + by) % 2 ^ 64 → words ≤ (word + by) % 2 ^ 30
outside_code word by words before few is past = let whole : (by + 2 ^ 29) % 2 ^ 64 < 2 ^ 30 = grind (arith, nat_tests) in omega (arith, before, few, whole, past)

-- one of whole words that leads on
pub jumped_by : (image : LoadedImage) (is_near : Bool) (x x' : List ℕ) (word last by : ℕ) (memory memory' : List ℕ) (instr : Instr) (at : Stop) → Stands image is_near word last instr
    → Leads image word (hart x (4 * word) (word + image.limit - last)) memory (instruction_effect image (hart x (4 * word) (word + image.limit - last)) (λ r. slice_index x r) instr) (way.By by) at x' memory'
    → is_whole by ≡ true
    → (4 * word < image.code) × (word < last)
    × LeadsTo image (hart_at image x (record { word = word; last = last })) memory
    (hart_at image x' (record { word = (word + by) % 2 ^ 30; last = last + (word + by) % 2 ^ 30 - word - 1 })) memory'
    × (hart_effect image (hart_at image x (record { word = word; last = last })) ≡ Executes (hart_at image x' (record { word = (word + by) % 2 ^ 30; last = last + (word + by) % 2 ^ 30 - word - 1 })))
jumped_by image is_near x x' word last by memory memory' instr at stands leads whole =
    jumped image is_near x x' word last ((word + by) % 2 ^ 30) memory memory' instr stands (leads.0 whole) leads.1

-- where one that leads to no word of the code ends the loop
pub left_by_run : (image : LoadedImage) (is_near : Bool) (h : HartState) (first x x' : List ℕ) (word last by : ℕ) (memory memory' : List ℕ) (instr : Instr) (at : Stop) → Stands image is_near word last instr
    → 4 * word ≤ image.code → length memory ≡ length first → LeadsTo image h first (hart_at image x (record { word = word; last = last })) memory
    → Leads image word (hart x (4 * word) (word + image.limit - last)) memory (instruction_effect image (hart x (4 * word) (word + image.limit - last)) (λ r. slice_index x r) instr) (way.By by) at x' memory'
    → image.code / 4 ≤ (word + by) % 2 ^ 64
    → IsRun image h first (left_by (record { word = word; last = last }) by) at x' memory'
left_by_run image is_near h first x x' word last by memory memory' instr at stands inside same so_far leads past = by_test (is_whole by) refl where
  by_test : (b : Bool) → is_whole by ≡ b → IsRun image h first (cond b (record {
    place = record { word = (word + by) % 2 ^ 30; last = last + (word + by) % 2 ^ 30 - word - 1 };
    why = why.Outside;
  }) (record { place = record { word = word; last = last }; why = why.Fault misaligned_target })) at x' memory'
  by_test true whole =
      let it = jumped_by image is_near x x' word last by memory memory' instr at stands leads whole in
      let ok = stands.here.ok in
      let far : image.code / 4 ≤ (word + by) % 2 ^ 30 = outside_code word by (image.code / 4) (omega (arith, inside)) (omega (arith, ok.code_most, ok.size_most)) whole past in record {
        place = place_there image is_near word last ((word + by) % 2 ^ 30) stands.here it.1 (omega arith);
        leads = leads_further image _ _ _ _ _ _ same so_far it.2;
        ends = inr (omega (arith, far, ok.code_words));
      }
  by_test false odd =
      let faults = leads.2 odd in
      rw (faults.0, leads.1) (record {
        place = place_here image is_near word last stands.here inside;
        leads = so_far;
        ends = faulting_at image is_near x word last misaligned_target instr stands faults.1;
      })

-- what is right there
pub left_by_right : (image : LoadedImage) (right : HartState → List ℕ → Type 0) (is_near : Bool) (x x' : List ℕ) (word last by : ℕ) (memory memory' : List ℕ) (instr : Instr) (at : Stop)
    → StaysRight image right → Stands image is_near word last instr
    → Leads image word (hart x (4 * word) (word + image.limit - last)) memory (instruction_effect image (hart x (4 * word) (word + image.limit - last)) (λ r. slice_index x r) instr) (way.By by) at x' memory'
    → right (hart_at image x (record { word = word; last = last })) memory
    → right (hart_at image x' (left_by (record { word = word; last = last }) by).place) memory'
left_by_right image right is_near x x' word last by memory memory' instr at stays stands leads is = by_test (is_whole by) refl where
  by_test : (b : Bool) → is_whole by ≡ b → right (hart_at image x' (cond {A = Left} b (record {
    place = record { word = (word + by) % 2 ^ 30; last = last + (word + by) % 2 ^ 30 - word - 1 };
    why = why.Outside;
  }) (record { place = record { word = word; last = last }; why = why.Fault misaligned_target })).place) memory'
  by_test true whole =
      let it = jumped_by image is_near x x' word last by memory memory' instr at stands leads whole in
      still_right image right (hart_at image x (record { word = word; last = last })) _ memory memory' stays it.3 leads.1 is
  by_test false odd = let faults = leads.2 odd in rw (faults.0, leads.1) is

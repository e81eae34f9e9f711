-- A bus that is coherent with these committed lines is coherent, and these are what is committed.
use Rattle.std.proofs.Common.{◌≡◌, ◌≢◌, ℕ, zero, suc, ◌+◌, ◌%◌, ◌<◌, ◌≤◌, ◌==◌, ◌||◌, Bool, true, false, cond, None, refl, sym, ap, subst, ◌∙◌, arith}
use Rattle.std.proofs.Math.Path.{fun_ext}
use Rattle.std.proofs.lemmas.Bool.Decides.{nat_tests}
use Rattle.spec_states.specs.Copies.{LineCopy, IsUpToDate}
use Rattle.spec_states.specs.Mask.{has}
use Rattle.spec_states.specs.States.{is_valid, is_exclusive, is_modified}
use Rattle.spec_states.proofs.CopyLaws.{seen_is}
use Rattle.spec_states.proofs.MaskLaws.{has-zero}
use Rattle.rv32_image.specs.Machine.{is_line_length}
use Rattle.cache_lines.specs.Lines.{geometry_of}
use Rattle.cache_lines.specs.Protocol.{IsInPlace}
use Rattle.bus_states.specs.Bus.{Bus, no_core, committed, committed_among, sees, memory_line, some_core}
use Rattle.bus_states.specs.Coherent.{IsCoherent, IsCoherentLine, IsCoherentCore}
use Rattle.bus_states.proofs.Addresses.{memory_line-past}
use Rattle.bus_states.proofs.Committed.{committed_is}
use Rattle.bus_states.proofs.Copies.{not_so}

-- coherent, with c in the place of the committed lines
pub record IsCoherentWith (bus : Bus) (c : ℕ → ℕ → ℕ) : Type 0 where
  pub length_is : is_line_length bus.line_length ≡ true
  pub length_of : bus.line_length ≡ bus.shape.machine.line_length
  pub of_places : bus.shape.machine.apart ≡ None
  pub geometry_is : bus.geometry ≡ geometry_of bus.shape.machine
  pub whole_lines : bus.shape.size % bus.line_length ≡ 0
  pub lengths : (k : ℕ) → k < bus.shape.cores → (bus.core k).line_length ≡ bus.line_length
  pub geometries : (k : ℕ) → k < bus.shape.cores → (bus.core k).geometry ≡ bus.geometry
  pub limits : (k : ℕ) → k < bus.shape.cores → (bus.core k).buffer.limit ≡ bus.shape.machine.buffer_lines
  pub lines : (addr : ℕ) → addr % bus.line_length ≡ 0
      → IsCoherentLine (λ k. (bus.core k).copy addr) (memory_line bus.line_length bus.memory addr) (c addr)
  pub cores : (k : ℕ) → IsCoherentCore (bus.core k)
  pub in_place : (k addr : ℕ) → IsInPlace bus.line_length addr ((bus.core k).copy addr)
  pub inside : (k addr : ℕ) → is_valid ((bus.core k).copy addr).state ≡ true → addr + bus.line_length ≤ bus.shape.size
  pub absent : (k : ℕ) → bus.shape.cores ≤ k → bus.core k ≡ no_core

pub committed-with : (bus : Bus) (c : ℕ → ℕ → ℕ) → IsCoherentWith bus c → (addr : ℕ) → addr % bus.line_length ≡ 0 → (x : ℕ)
    → committed bus addr x ≡ c addr x
committed-with bus c h addr aligned x =
    committed_is bus.shape.cores (λ k. (bus.core k).copy addr) (memory_line bus.line_length bus.memory addr) (c addr)
    (h.lines addr aligned) (λ k past. ap (λ core. core.copy addr) (h.absent k past)) x

pub coherent-with : (bus : Bus) (c : ℕ → ℕ → ℕ) → IsCoherentWith bus c → IsCoherent bus
coherent-with bus c h =
    record {
      length_is = h.length_is;
      length_of = h.length_of;
      of_places = h.of_places;
      geometry_is = h.geometry_is;
      whole_lines = h.whole_lines;
      lengths = h.lengths;
      geometries = h.geometries;
      limits = h.limits;
      lines =
          λ addr aligned.
          subst (λ (line : ℕ → ℕ). IsCoherentLine (λ k. (bus.core k).copy addr) (memory_line bus.line_length bus.memory addr) line)
          (sym (fun_ext (committed-with bus c h addr aligned))) (h.lines addr aligned);
      cores = h.cores;
      in_place = h.in_place;
      inside = h.inside;
      absent = h.absent;
    }

pub with-itself : (bus : Bus) → IsCoherent bus → IsCoherentWith bus (committed bus)
with-itself bus h =
    record {
      length_is = h.length_is;
      length_of = h.length_of;
      of_places = h.of_places;
      geometry_is = h.geometry_is;
      whole_lines = h.whole_lines;
      lengths = h.lengths;
      geometries = h.geometries;
      limits = h.limits;
      lines = h.lines;
      cores = h.cores;
      in_place = h.in_place;
      inside = h.inside;
      absent = h.absent;
    }

-- the same, where the lines in memory are the same
pub with-same : (bus : Bus) (c d : ℕ → ℕ → ℕ) → ((addr : ℕ) → addr % bus.line_length ≡ 0 → (x : ℕ) → c addr x ≡ d addr x)
    → IsCoherentWith bus c → IsCoherentWith bus d
with-same bus c d same h =
    record {
      length_is = h.length_is;
      length_of = h.length_of;
      of_places = h.of_places;
      geometry_is = h.geometry_is;
      whole_lines = h.whole_lines;
      lengths = h.lengths;
      geometries = h.geometries;
      limits = h.limits;
      lines =
          λ addr aligned.
          subst (λ (line : ℕ → ℕ). IsCoherentLine (λ k. (bus.core k).copy addr) (memory_line bus.line_length bus.memory addr) line)
          (fun_ext (same addr aligned)) (h.lines addr aligned);
      cores = h.cores;
      in_place = h.in_place;
      inside = h.inside;
      absent = h.absent;
    }

-- ---- the cores

pub by_core : (P : ℕ → Type 0) (core k : ℕ) → P core → (k ≢ core → P k) → P k
by_core P core k here there =
    elim (k == core) as (λ b. (k == core) ≡ b → P k) [
      | true ↦ λ e. let same : k ≡ core = grind (arith, nat_tests) in subst P (sym same) here
      | false ↦ λ e. let away : k ≢ core = grind (arith, nat_tests) in there away
    ] refl

-- a search finds nothing just where no core passes the test
pub none_below : (n : ℕ) (test : ℕ → Bool) → some_core n test ≡ false → (k : ℕ) → k < n → test k ≡ false
unfolding some_core
none_below zero test none k lt = absurd (omega arith)
none_below (suc n) test none k lt = pick (test n) (some_core n test) none refl (λ e. none_below n test e k)
  where
    pick : (b rest : Bool) → (b || rest) ≡ false → test n ≡ b → (rest ≡ false → k < n → test k ≡ false) → test k ≡ false
    pick true rest e is_b below = cc
    pick false rest e is_b below =
        elim (k == n) as (λ t. (k == n) ≡ t → test k ≡ false) [
          | true ↦ λ t. let at : k ≡ n = grind (arith, nat_tests) in rw at is_b
          | false ↦ λ t. let less : k < n = grind (arith, nat_tests) in below e less
        ] refl

pub none_at_all : (n : ℕ) (test : ℕ → Bool) → ((k : ℕ) → k < n → test k ≡ false) → some_core n test ≡ false
unfolding some_core
none_at_all zero test none = refl
none_at_all (suc n) test none =
    let last : n < suc n = omega arith in
    rw (none n last) (none_at_all n test (λ k lt. none k (omega arith)))

-- ---- the lines of a coherent bus

-- what a core sees of a line that it holds is its copy
pub sees-held : (bus : Bus) (core addr : ℕ) → IsCoherent bus → addr % bus.line_length ≡ 0
    → is_valid ((bus.core core).copy addr).state ≡ true → (x : ℕ)
    → ((bus.core core).copy addr).cell x ≡ sees bus core addr x
sees-held bus core addr h aligned valid =
    seen_is ((bus.core core).copy addr) (committed bus addr) ((h.lines addr aligned).up_to_date core) valid

-- what a core sees of a line in which it has modified nothing is the committed line
pub sees-unmodified : (bus : Bus) (core addr : ℕ) → ((bus.core core).copy addr).marks.bytes ≡ 0 → (x : ℕ)
    → sees bus core addr x ≡ committed bus addr x
sees-unmodified bus core addr e x = rw (e, has-zero x) refl

among-past : (n : ℕ) (copies : ℕ → LineCopy) (memory : ℕ → ℕ) (x : ℕ) → ((k : ℕ) → (copies k).cell x ≡ 0)
    → memory x ≡ 0 → committed_among n copies memory x ≡ 0
unfolding committed_among
among-past zero copies memory x h m = m
among-past (suc n) copies memory x h m = pick (is_modified (copies n).state) (among-past n copies memory x h m)
  where
    pick : (b : Bool) → committed_among n copies memory x ≡ 0 → cond b (copies n).cell (committed_among n copies memory) x ≡ 0
    pick true rest = h n
    pick false rest = rest

-- past its end a line has no bytes
pub committed-past : (bus : Bus) (addr x : ℕ) → IsCoherent bus → bus.line_length ≤ x → committed bus addr x ≡ 0
committed-past bus addr x h le =
    among-past bus.shape.cores (λ k. (bus.core k).copy addr) (memory_line bus.line_length bus.memory addr) x
    (λ k. (h.in_place k addr).cells x le) (memory_line-past bus.line_length bus.memory addr x le)

pub sees-past : (bus : Bus) (core addr x : ℕ) → IsCoherent bus → bus.line_length ≤ x → sees bus core addr x ≡ 0
sees-past bus core addr x h le =
    pick (has ((bus.core core).copy addr).marks.bytes x) ((h.in_place core addr).cells x le) (committed-past bus addr x h le)
  where
    pick : (b : Bool) {m n : ℕ} → m ≡ 0 → n ≡ 0 → cond b m n ≡ 0
    pick true e f = e
    pick false e f = f

-- ---- the copies of one line

-- one core has taken its new copy, and each other one shares
pub sent_line : (sender : ℕ) (mine : LineCopy) (copies : ℕ → LineCopy) (memory c : ℕ → ℕ) → IsUpToDate mine c
    → copies sender ≡ mine
    → ((k : ℕ) → k ≢ sender → IsUpToDate (copies k) c) → ((k : ℕ) → k ≢ sender → is_exclusive (copies k).state ≡ false)
    → (is_exclusive mine.state ≡ true → (k : ℕ) → k ≢ sender → is_valid (copies k).state ≡ false)
    → (is_modified mine.state ≡ false → (x : ℕ) → memory x ≡ c x) → IsCoherentLine copies memory c
sent_line sender mine copies memory c up at others shares alone writes =
    record {
      exclusive =
          λ j k n ex. elim (j == sender) as (λ b. (j == sender) ≡ b → is_valid (copies k).state ≡ false) [
            | true ↦ λ e.
                let here : j ≡ sender = grind (arith, nat_tests) in
                let away : k ≢ sender = λ q. n (here ∙ sym q) in
                alone (rw (here, at) at ex) k away
            | false ↦ λ e. let away : j ≢ sender = grind (arith, nat_tests) in absurd (let s = shares j away in let x : ⊥ = cc in x)
          ] refl;
      up_to_date =
          λ k. elim (k == sender) as (λ b. (k == sender) ≡ b → IsUpToDate (copies k) c) [
            | true ↦ λ e. let here : k ≡ sender = grind (arith, nat_tests) in rw (here, at) up
            | false ↦ λ e. let away : k ≢ sender = grind (arith, nat_tests) in others k away
          ] refl;
      in_memory = λ h x. writes (rw at at (h sender)) x;
    }

-- copies that stay, go or lose their marks
pub faded_line : (copies copies2 : ℕ → LineCopy) (memory memory2 c : ℕ → ℕ) → IsCoherentLine copies memory c
    → ((k : ℕ) → IsUpToDate (copies2 k) c)
    → ((k : ℕ) → is_valid (copies2 k).state ≡ true → is_valid (copies k).state ≡ true)
    → ((k : ℕ) → is_exclusive (copies2 k).state ≡ true → is_exclusive (copies k).state ≡ true)
    → (((k : ℕ) → is_modified (copies2 k).state ≡ false) → (x : ℕ) → memory2 x ≡ c x)
    → IsCoherentLine copies2 memory2 c
faded_line copies copies2 memory memory2 c h up valid exclusive writes =
    record {
      exclusive =
          λ j k n e. not_so (is_valid (copies2 k).state) (is_valid (copies k).state) (valid k)
          (h.exclusive j k n (exclusive j e));
      up_to_date = up;
      in_memory = writes;
    }

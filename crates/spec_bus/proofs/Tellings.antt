-- The loop in which the other cores hear a message.
use Rattle.std.proofs.Common.{◌≡◌, ◌≢◌, ℕ, ◌+◌, ◌<◌, ◌≤◌, ◌%◌, ◌==◌, ◌&&◌, not, nat_lt, Bool, true, false, cond, length, slice_get, refl, sym, ap, subst, ◌∙◌, arith, ne_eqb}
use Rattle.std.proofs.lemmas.Bool.{eq-eqb}
use Rattle.std.proofs.lemmas.Bool.Decides.{nat_tests}
use Rattle.orb.specs.Lines.{holds}
use Rattle.violations.specs.View.{epoch_of}
use Rattle.bus_states.specs.Bus.{CoreState, Bus, is_later}
use Rattle.bus_states.specs.Coherent.{IsCoherent}
use Rattle.bus_states.specs.Messages.{Message, reply, reply_to, order, bytes_after, violates, holds_up, heard_core, is_busy}
use Rattle.bus_states.proofs.Coherence.{none_below}
use Rattle.bus_states.proofs.Heard.{heard-absent, message-gives_way, roomy}
use Rattle.spec_bus.specs.declared.parts.Parts.{Parts}
use Rattle.spec_bus.specs.CoreStates.{heard, MayHear}
use Rattle.spec_bus.specs.Parts.{bus_in, IsTold}

-- the cores below n have heard
pub record AreTelling (old new : Parts) (message : Message) (n : ℕ) : Type 0 where
  pub count : length new.cores.items ≡ length old.cores.items
  pub own : slice_get new.cores.items message.sender ≡ slice_get old.cores.items message.sender
  pub memory : new.memory ≡ old.memory
  pub code : new.code ≡ old.code
  pub machine : new.machine ≡ old.machine
  pub core : (k : ℕ) → (bus_in new).core k
      ≡ cond (nat_lt k n && not (k == message.sender)) (heard_core (bus_in old) message k) ((bus_in old).core k)

-- ---- a core that may hear

entry-out : (enters after before held : Bool) → enters ≡ (after && not before) → held ≡ before → enters ≡ true → held ≡ false
entry-out enters after true held e f g = grind (arith, nat_tests)
entry-out enters after false held e f g = f

hears : (bus : Bus) (message : Message) (k : ℕ) → IsCoherent bus → message.addr % bus.line_length ≡ 0
    → is_busy bus message ≡ false → k < bus.shape.cores → k ≢ message.sender
    → MayHear (bus.core k) message.addr (violates bus message k) (reply bus message k)
hears bus message k h aligned free inside away =
    record {
      marked = ((h.lines message.addr aligned).up_to_date k).marked;
      entry =
          λ v e. entry-out (reply bus message k).enters _ _ (holds (bus.core k).buffer.lines message.addr)
          (message-gives_way bus message k h aligned).enters ((h.cores k).listed message.addr) e;
      room =
          λ v. roomy (k == message.sender) (reply bus message k).violated _ (is_later bus message.sender k) (ne_eqb k message.sender away) v
          (none_below bus.shape.cores (holds_up bus message) free k inside);
    }

pub may_hear : (bus : Bus) (message : Message) (k : ℕ) (core : CoreState) (later violated : Bool) → IsCoherent bus
    → message.addr % bus.line_length ≡ 0 → is_busy bus message ≡ false → k < bus.shape.cores → k ≢ message.sender
    → core ≡ bus.core k → later ≡ is_later bus message.sender k → violated ≡ violates bus message k
    → MayHear core message.addr violated (reply_to message.notice (core.copy message.addr).state (core.copy message.addr).marks (order later))
may_hear bus message k core later violated h aligned free inside away e f g = rw (e, f, g) (hears bus message k h aligned free inside away)

-- ---- the cores whose turn is to come

before : (n : ℕ) (old mid : Parts) (message : Message) → AreTelling old mid message n → (k : ℕ)
    → (nat_lt k n && not (k == message.sender)) ≡ false → (bus_in mid).core k ≡ (bus_in old).core k
before n old mid message told k e = rw e at (told.core k)

pub next_core : (n : ℕ) (old mid : Parts) (message : Message) → AreTelling old mid message n → (bus_in mid).core n ≡ (bus_in old).core n
next_core n old mid message told = before n old mid message told n (here n _)
  where
    here : (n : ℕ) (b : Bool) → (nat_lt n n && b) ≡ false
    here n b = grind (arith, nat_tests)

sender_core : (n : ℕ) (old mid : Parts) (message : Message) → AreTelling old mid message n
    → (bus_in mid).core message.sender ≡ (bus_in old).core message.sender
sender_core n old mid message told = before n old mid message told message.sender (here n message.sender)
  where
    here : (n s : ℕ) → (nat_lt s n && not (s == s)) ≡ false
    here n s = grind (arith, nat_tests)

pub next_later : (n : ℕ) (old mid : Parts) (message : Message) → AreTelling old mid message n
    → is_later (bus_in mid) message.sender n ≡ is_later (bus_in old) message.sender n
next_later n old mid message told =
    ap (λ (core : CoreState). nat_lt (epoch_of core.attempt) (epoch_of ((bus_in mid).core n).attempt)) (sender_core n old mid message told)
    ∙ ap (λ (core : CoreState). nat_lt (epoch_of ((bus_in old).core message.sender).attempt) (epoch_of core.attempt)) (next_core n old mid message told)

-- ---- one more core

step : (n k s : ℕ) (x y z : CoreState) → n ≢ s → (k ≡ n → z ≡ x)
    → ((k == n) ≡ false → z ≡ cond (nat_lt k n && not (k == s)) x y)
    → z ≡ cond (nat_lt k (n + 1) && not (k == s)) x y
step n k s x y z apart here there =
    elim (k == n) as (λ b. (k == n) ≡ b → z ≡ cond (nat_lt k (n + 1) && not (k == s)) x y) [
      | true ↦ λ e.
          let at : k ≡ n = grind (arith, nat_tests) in
          let t : (nat_lt k (n + 1) && not (k == s)) ≡ true = grind (arith, nat_tests) in
          rw t (here at)
      | false ↦ λ e.
          let t : (nat_lt k (n + 1) && not (k == s)) ≡ (nat_lt k n && not (k == s)) = same (k == s) e in
          rw t (there e)
    ] refl
  where
    same : (b : Bool) → (k == n) ≡ false → (nat_lt k (n + 1) && not b) ≡ (nat_lt k n && not b)
    same b e = grind (arith, nat_tests)

-- a core that hears the message: it runs a later epoch or not, and is violated or not
abbrev pub heard_by : Message → Bool → Bool → CoreState → CoreState
heard_by message later violated core =
    heard message.addr violated (reply_to message.notice (core.copy message.addr).state (core.copy message.addr).marks (order later))
    (bytes_after message.notice (reply_to message.notice (core.copy message.addr).state (core.copy message.addr).marks (order later)).marks.bytes (core.copy message.addr).cell message.line) core

-- it is then as the message makes it
pub heard_is : (bus : Bus) (message : Message) (k : ℕ) (core : CoreState) (later violated : Bool) → core ≡ bus.core k
    → later ≡ is_later bus message.sender k → violated ≡ violates bus message k
    → heard_by message later violated core ≡ heard_core bus message k
heard_is bus message k core later violated e f g = rw (e, f, g) refl

pub heard_more : (n : ℕ) (old mid new : Parts) (message : Message) (core : CoreState) → AreTelling old mid message n → n ≢ message.sender
    → length new.cores.items ≡ length mid.cores.items
    → ((j : ℕ) → j ≢ n → slice_get new.cores.items j ≡ slice_get mid.cores.items j)
    → new.memory ≡ mid.memory → new.code ≡ mid.code → new.machine ≡ mid.machine
    → ((j : ℕ) → (bus_in new).core j ≡ cond (j == n) core ((bus_in mid).core j)) → core ≡ heard_core (bus_in old) message n
    → AreTelling old new message (n + 1)
heard_more n old mid new message core told apart count others memory code machine heard is_core =
    record {
      count = count ∙ told.count;
      own = others message.sender (λ e. apart (sym e)) ∙ told.own;
      memory = memory ∙ told.memory;
      code = code ∙ told.code;
      machine = machine ∙ told.machine;
      core =
          λ k. step n k message.sender (heard_core (bus_in old) message k) ((bus_in old).core k) ((bus_in new).core k) apart
          (λ e. rw e (subst (λ (b : Bool). (bus_in new).core n ≡ cond b core ((bus_in mid).core n)) (eq-eqb n n refl) (heard n) ∙ is_core))
          (λ e. rw e at (heard k) ∙ told.core k);
    }

-- the sender's turn is passed over
pub heard_skip : (n : ℕ) (old mid : Parts) (message : Message) → AreTelling old mid message n → n ≡ message.sender
    → AreTelling old mid message (n + 1)
heard_skip n old mid message told here =
    record {
      count = told.count;
      own = told.own;
      memory = told.memory;
      code = told.code;
      machine = told.machine;
      core = λ k. skip k (k == message.sender) refl (told.core k);
    }
  where
    test : (k : ℕ) → k ≢ n → (nat_lt k (n + 1) && true) ≡ (nat_lt k n && true)
    test k apart = grind (arith, nat_tests)

    more : (k : ℕ) → (k == message.sender) ≡ false → (nat_lt k (n + 1) && true) ≡ (nat_lt k n && true)
    more k e = let apart : k ≢ n = grind (arith, nat_tests) in test k apart

    skip : (k : ℕ) (b : Bool) → (k == message.sender) ≡ b
        → (bus_in mid).core k ≡ cond (nat_lt k n && not b) (heard_core (bus_in old) message k) ((bus_in old).core k)
        → (bus_in mid).core k ≡ cond (nat_lt k (n + 1) && not b) (heard_core (bus_in old) message k) ((bus_in old).core k)
    skip k true e h = let t : (nat_lt k (n + 1) && false) ≡ (nat_lt k n && false) = grind (arith, nat_tests) in rw t h
    skip k false e h =
        let t : (nat_lt k (n + 1) && true) ≡ (nat_lt k n && true) = more k e in
        rw t h

-- all cores have heard
pub heard_all : (n : ℕ) (old new : Parts) (message : Message) → AreTelling old new message n → length old.cores.items ≤ n
    → IsCoherent (bus_in old) → IsTold (bus_in old) (bus_in new) message
heard_all n old new message told e h =
    record { count = told.count; core = λ k. all k (k == message.sender) (nat_lt k n) refl (told.core k) }
  where
    all : (k : ℕ) (b t : Bool) → nat_lt k n ≡ t
        → (bus_in new).core k ≡ cond (t && not b) (heard_core (bus_in old) message k) ((bus_in old).core k)
        → (bus_in new).core k ≡ cond b ((bus_in old).core k) (heard_core (bus_in old) message k)
    all k true true is_t g = g
    all k true false is_t g = g
    all k false true is_t g = g
    all k false false is_t g =
        let past : length old.cores.items ≤ k = grind (arith, nat_tests) in
        g ∙ h.absent k past ∙ sym (heard-absent (bus_in old) message k (h.absent k past))

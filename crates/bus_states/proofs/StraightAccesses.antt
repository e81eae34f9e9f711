-- Straight loads and stores keep the bus coherent; a straight store commits its bytes.
use Rattle.std.proofs.Common.{◌≡◌, ◌≢◌, ℕ, ◌+◌, ◌%◌, ◌^◌, ◌<◌, ◌≤◌, ◌==◌, ◌&&◌, inr, not, Bool, true, false, cond, Option, None, refl, sym, subst, ◌∙◌, arith}
use Rattle.std.proofs.Math.Path.{fun_ext}
use Rattle.std.proofs.lemmas.Bool.{both_ways, and_parts, or_right}
use Rattle.std.proofs.lemmas.Bool.Decides.{nat_tests}
use Rattle.std.proofs.lemmas.Nat.{pow_pos}
use Rattle.spec_states.specs.declared.next.Next.{Next}
use Rattle.spec_states.specs.declared.line.Marks.{Marks}
use Rattle.spec_states.specs.declared.line.LineState.{LineState}
use Rattle.spec_states.specs.declared.line.LineState.TheVariants.{I, S, E, M, SpS, SpE}
use Rattle.spec_states.specs.Copies.{LineCopy, copy_of, IsUpToDate}
use Rattle.spec_states.specs.Rows.{requires_ownership}
use Rattle.spec_states.specs.States.{is_valid, is_exclusive, is_speculative}
use Rattle.spec_states.specs.Tables.{no_marks}
use Rattle.cache_lines.specs.Cells.{with_number}
use Rattle.cache_lines.specs.Protocol.{changed_copy, copy_with_number}
use Rattle.orb.specs.Lines.{is_full}
use Rattle.bus_states.specs.declared.notice.Notice.TheVariants.{Load, Publish}
use Rattle.bus_states.specs.Bus.{Bus, committed, sees, is_later}
use Rattle.bus_states.specs.Coherent.{IsCoherent, speculates}
use Rattle.bus_states.specs.Messages.{Room, IsRoom, Message, message_of, reply, holds_up, is_busy, is_alone, leaves, with_copy, after_message}
use Rattle.bus_states.specs.Speculative.{own, holds_line, room_for}
use Rattle.bus_states.specs.Straight.{unmarked_next, after_straight_load, stores_alone, straight_store_message, after_straight_store}
use Rattle.bus_states.proofs.Accesses.{Takes, taken-with, not_leaving, none-room, room-apart}
use Rattle.bus_states.proofs.Coherence.{IsCoherentWith, with-itself, by_core, none_at_all, sees-past, sees-held, sees-unmodified}
use Rattle.bus_states.proofs.Copies.{itself, unrequired}
use Rattle.bus_states.proofs.Cores.{with_copy-coherent}
use Rattle.bus_states.proofs.Heard.{message-gives_way}
use Rattle.bus_states.proofs.Quiet.{ChangesQuietly, quiet-with}
use Rattle.bus_states.proofs.QuietCalls.{ChangesOne, one-quietly, one_line, same-lines}
use Rattle.cache_lines.proofs.Written.{number-past}

-- ---- nobody holds a straight core up

-- every core that runs a speculative attempt runs a later epoch
pub record IsFirst (bus : Bus) (core : ℕ) : Type 0 where
  pub later : (k : ℕ) → k ≢ core → speculates (bus.core k).attempt ≡ true → is_later bus core k ≡ true

-- a copy that has to enter a buffer is one of a speculative attempt
pub enters-speculates : (bus : Bus) (message : Message) (k : ℕ) → IsCoherent bus → message.addr % bus.line_length ≡ 0
    → (reply bus message k).enters ≡ true → speculates (bus.core k).attempt ≡ true
enters-speculates bus message k h aligned enters =
    let row = message-gives_way bus message k h aligned in
    pick (speculates (bus.core k).attempt) refl
    (required (reply bus message k).state (reply bus message k).marks (and_parts (requires_ownership (reply bus message k).state (reply bus message k).marks) _ (sym row.enters ∙ enters)).0) row.unmarked
  where
    required : (s : LineState) (marks : Marks) → requires_ownership s marks ≡ true → is_speculative s ≡ true
    required I marks e = e
    required S marks e = e
    required E marks e = e
    required M marks e = e
    required SpS marks e = refl
    required SpE marks e = refl

    pick : (b : Bool) → speculates (bus.core k).attempt ≡ b → is_speculative (reply bus message k).state ≡ true
        → (is_speculative ((bus.core k).copy message.addr).state ≡ false → is_speculative (reply bus message k).state ≡ false) → b ≡ true
    pick true e s f = refl
    pick false e s f = absurd (both_ways (is_speculative (reply bus message k).state) (f ((h.cores k).unmarked message.addr e)) s)

pub first-free : (bus : Bus) (message : Message) → IsCoherent bus → message.addr % bus.line_length ≡ 0 → IsFirst bus message.sender
    → is_busy bus message ≡ false
first-free bus message h aligned first =
    none_at_all bus.shape.cores (holds_up bus message)
    (λ k lt. by_core (λ (k : ℕ). holds_up bus message k ≡ false) message.sender k
    (rw (itself message.sender) refl)
    (λ away. quiet (k == message.sender) (reply bus message k).enters (is_full (bus.core k).buffer) (is_later bus message.sender k)
    (λ e. first.later k away (enters-speculates bus message k h aligned e))))
  where
    quiet : (same enters full later : Bool) → (enters ≡ true → later ≡ true) → (not same && ((enters && full) && not later)) ≡ false
    quiet same true full later up = let l : later ≡ true = up refl in grind (arith, nat_tests)
    quiet same false full later up = grind (arith, nat_tests)

-- ---- conditions

-- a straight core may access a line of memory
pub record MayAccessStraight (bus : Bus) (core addr : ℕ) (room : Option Room) : Type 0 where
  pub aligned : addr % bus.line_length ≡ 0
  pub inside : addr + bus.line_length ≤ bus.shape.size
  pub in_cores : core < bus.shape.cores
  pub straight : speculates (bus.core core).attempt ≡ false
  pub first : IsFirst bus core
  pub victim : IsRoom (bus.core core) room

own-unmarked : (bus : Bus) (core addr : ℕ) (room : Option Room) → IsCoherent bus → MayAccessStraight bus core addr room
    → is_speculative (own bus core addr).state ≡ false
own-unmarked bus core addr room h may = (h.cores core).unmarked addr may.straight

own-empty : (bus : Bus) (core addr : ℕ) (room : Option Room) → IsCoherent bus → MayAccessStraight bus core addr room
    → (own bus core addr).marks.bytes ≡ 0
own-empty bus core addr room h may =
    ((h.lines addr may.aligned).up_to_date core).not_modified (own-unmarked bus core addr room h may)

-- an unmarked copy of a line
unmarked-fresh : (s : LineState) (line : ℕ → ℕ) → is_speculative s ≡ false → IsUpToDate (copy_of s (unmarked_next s).marks line) line
unmarked-fresh s line e =
    record {
      not_loaded = λ _. pick-loaded (is_speculative s);
      not_modified = λ _. pick-bytes (is_speculative s);
      marked = λ m. absurd (both_ways (is_speculative s) e m);
      agrees = λ x v out. refl;
    }
  where
    pick-loaded : (b : Bool) → (cond b no_marks no_marks).loaded ≡ false
    pick-loaded true = refl
    pick-loaded false = refl

    pick-bytes : (b : Bool) → (cond b no_marks no_marks).bytes ≡ 0
    pick-bytes true = refl
    pick-bytes false = refl

-- a straight core takes a line by a message, in an unmarked state
straight-takes : (bus : Bus) (message : Message) (room room2 : Option Room) (s : LineState) → IsCoherent bus
    → MayAccessStraight bus message.sender message.addr room → is_valid s ≡ true → is_speculative s ≡ false
    → ((x : ℕ) → bus.line_length ≤ x → message.line x ≡ 0)
    → (message.notice ≢ Publish → message.line ≡ committed bus message.addr)
    → IsRoom (bus.core message.sender) room2 → leaves room2 message.addr ≡ false
    → (is_exclusive s ≡ true → is_alone bus message ≡ true)
    → Takes bus message room2 (unmarked_next s)
straight-takes bus message room room2 s h may valid calm past same_line victim apart alone =
    let required : requires_ownership (own bus message.sender message.addr).state (own bus message.sender message.addr).marks ≡ false =
    unrequired (own bus message.sender message.addr).state (own bus message.sender message.addr).marks (own-unmarked bus message.sender message.addr room h may) in
    record {
      aligned = may.aligned;
      inside = may.inside;
      in_cores = may.in_cores;
      free = first-free bus message h may.aligned may.first;
      past = past;
      same_line = same_line;
      victim = victim;
      apart = apart;
      valid = valid;
      unmarked = λ _. calm;
      within = within (is_speculative s);
      up_to_date = unmarked-fresh s message.line calm;
      exclusive = λ e. or_right (is_exclusive (own bus message.sender message.addr).state) (is_alone bus message) (alone e);
      enters = sym (rw (unrequired s (unmarked_next s).marks calm) refl);
      stays_required = λ r. absurd (both_ways _ required r);
      has_room = refl;
    }
  where
    within : (b : Bool) → (cond b no_marks no_marks).bytes < 2 ^ bus.line_length
    within true = pow_pos bus.line_length
    within false = pow_pos bus.line_length

-- ---- loads

-- the state of the line that comes in
calm-in : (b : Bool) (s : LineState) → is_speculative s ≡ false → is_speculative (cond b s S) ≡ false
calm-in true s calm = calm
calm-in false s calm = refl

valid-in : (b : Bool) (s : LineState) → is_valid s ≡ true → is_valid (cond b s S) ≡ true
valid-in true s valid = valid
valid-in false s valid = refl

alone-in : (b : Bool) (s : LineState) → is_exclusive (cond b s S) ≡ true → b ≡ true
alone-in true s e = refl
alone-in false s e = cc

own-seen : (bus : Bus) (core addr : ℕ) (room : Option Room) → IsCoherent bus → MayAccessStraight bus core addr room
    → sees bus core addr ≡ committed bus addr
own-seen bus core addr room h may = fun_ext (sees-unmodified bus core addr (own-empty bus core addr room h may))

pub straight_load-takes : (bus : Bus) (core addr : ℕ) (room : Option Room) → IsCoherent bus → MayAccessStraight bus core addr room
    → holds_line bus core addr ≡ false
    → Takes bus (message_of bus Load core addr) room (unmarked_next (cond (is_alone bus (message_of bus Load core addr)) E S))
straight_load-takes bus core addr room h may absent =
    let alone : Bool = is_alone bus (message_of bus Load core addr) in
    straight-takes bus (message_of bus Load core addr) room room (cond alone E S) h may (valid-in alone E refl) (calm-in alone E refl)
    (λ x le. sees-past bus core addr x h le) (λ _. own-seen bus core addr room h may) may.victim
    (not_leaving (bus.core core) room addr may.victim absent) (alone-in alone E)

pub straight_load-with : (bus : Bus) (core addr : ℕ) (room : Option Room) → IsCoherent bus → MayAccessStraight bus core addr room
    → IsCoherentWith (after_straight_load bus core addr room) (committed bus)
straight_load-with bus core addr room h may = pick (holds_line bus core addr) refl
  where
    pick : (b : Bool) → holds_line bus core addr ≡ b
        → IsCoherentWith (cond b bus (after_message bus (message_of bus Load core addr) room (unmarked_next (cond (is_alone bus (message_of bus Load core addr)) E S)))) (committed bus)
    pick true e = with-itself bus h
    pick false e =
        let next : Next = unmarked_next (cond (is_alone bus (message_of bus Load core addr)) E S) in
        same-lines bus (after_message bus (message_of bus Load core addr) room next) addr (sees bus core addr) (own-seen bus core addr room h may)
        (taken-with bus (message_of bus Load core addr) room next h (straight_load-takes bus core addr room h may e))

-- ---- stores

-- the lines that are committed after a store
abbrev pub stored_lines : Bus → ℕ → ℕ → ℕ → ℕ → ℕ → ℕ → ℕ → ℕ
stored_lines bus core addr offset width value = one_line bus addr (with_number (sees bus core addr) offset width value)

-- it may to an exclusive copy alone
pub alone-exclusive : (s : LineState) → stores_alone s ≡ true → is_exclusive s ≡ true
alone-exclusive I e = e
alone-exclusive S e = e
alone-exclusive E e = refl
alone-exclusive M e = refl
alone-exclusive SpS e = e
alone-exclusive SpE e = refl

alone-valid : (s : LineState) → stores_alone s ≡ true → is_valid s ≡ true
alone-valid I e = e
alone-valid S e = refl
alone-valid E e = refl
alone-valid M e = refl
alone-valid SpS e = refl
alone-valid SpE e = refl

store-alone : (bus : Bus) (core addr offset width value : ℕ) (room : Option Room) → IsCoherent bus
    → MayAccessStraight bus core addr room → offset + width ≤ bus.line_length → stores_alone (own bus core addr).state ≡ true
    → ChangesOne bus core addr (changed_copy (copy_with_number offset width value (own bus core addr)) (unmarked_next M)) bus.memory
    (with_number (own bus core addr).cell offset width value)
store-alone bus core addr offset width value room h may inside alone =
    let mine : LineCopy = own bus core addr in
    let exclusive : is_exclusive mine.state ≡ true = alone-exclusive mine.state alone in
    record {
      in_cores = may.in_cores;
      held = alone-valid mine.state alone;
      stays =
          with_copy-coherent (bus.core core) addr (copy_of M no_marks (with_number mine.cell offset width value)) (h.cores core)
          (sym (unrequired mine.state mine.marks (own-unmarked bus core addr room h may))) (λ _. refl);
      in_place = record {
        aligned = λ _. may.aligned;
        mask = pow_pos bus.line_length;
        cells = λ x le. number-past mine.cell bus.line_length offset width value x inside le ((h.in_place core addr).cells x le);
      };
      exclusive = λ _. exclusive;
      up_to_date = unmarked-fresh M (with_number mine.cell offset width value) refl;
      same_line = inr exclusive;
      in_memory = λ m others x. cc;
      elsewhere = λ a aligned e x. refl;
    }

-- the core's own line as stored
abbrev pub stored_alone : Bus → ℕ → ℕ → ℕ → ℕ → ℕ → LineCopy
stored_alone bus core addr offset width value =
    changed_copy (copy_with_number offset width value (own bus core addr)) (unmarked_next M)

pub straight_store-quietly : (bus : Bus) (core addr offset width value : ℕ) (room : Option Room) → IsCoherent bus
    → MayAccessStraight bus core addr room → offset + width ≤ bus.line_length → stores_alone (own bus core addr).state ≡ true
    → ChangesQuietly bus core (with_copy addr (stored_alone bus core addr offset width value) (bus.core core)) bus.memory
    (one_line bus addr (with_number (own bus core addr).cell offset width value))
straight_store-quietly bus core addr offset width value room h may inside alone =
    one-quietly bus core addr (stored_alone bus core addr offset width value) bus.memory (with_number (own bus core addr).cell offset width value) h
    (store-alone bus core addr offset width value room h may inside alone)

pub straight_store-takes : (bus : Bus) (core addr offset width value : ℕ) (room : Option Room) → IsCoherent bus
    → MayAccessStraight bus core addr room → offset + width ≤ bus.line_length
    → Takes bus (straight_store_message bus core addr offset width value) (room_for bus core addr room)
    (unmarked_next (cond (is_alone bus (straight_store_message bus core addr offset width value)) M S))
straight_store-takes bus core addr offset width value room h may inside =
    let alone : Bool = is_alone bus (straight_store_message bus core addr offset width value) in
    straight-takes bus (straight_store_message bus core addr offset width value) room (room_for bus core addr room) (cond alone M S) h may
    (valid-in alone M refl) (calm-in alone M refl)
    (λ x le. number-past (sees bus core addr) bus.line_length offset width value x inside le (sees-past bus core addr x h le))
    (λ n. absurd (n refl)) (victim (holds_line bus core addr)) (room-apart bus core addr room may.victim (holds_line bus core addr) refl) (alone-in alone M)
  where
    victim : (b : Bool) → IsRoom (bus.core core) (cond b None room)
    victim true = none-room (bus.core core)
    victim false = may.victim

pub straight_store-with : (bus : Bus) (core addr offset width value : ℕ) (room : Option Room) → IsCoherent bus
    → MayAccessStraight bus core addr room → offset + width ≤ bus.line_length
    → IsCoherentWith (after_straight_store bus core addr offset width value room) (stored_lines bus core addr offset width value)
straight_store-with bus core addr offset width value room h may inside = pick (stores_alone (own bus core addr).state) refl
  where
    pick : (b : Bool) → stores_alone (own bus core addr).state ≡ b
        → IsCoherentWith (cond b
        (record bus { core = λ k. cond (k == core) (with_copy addr (stored_alone bus core addr offset width value) (bus.core core)) (bus.core k) })
        (after_message bus (straight_store_message bus core addr offset width value) (room_for bus core addr room) (unmarked_next (cond (is_alone bus (straight_store_message bus core addr offset width value)) M S))))
        (stored_lines bus core addr offset width value)
    pick true e =
        let seen : (own bus core addr).cell ≡ sees bus core addr = fun_ext (sees-held bus core addr h may.aligned (alone-valid (own bus core addr).state e)) in
        subst (λ (line : ℕ → ℕ). IsCoherentWith (record bus { core = λ k. cond (k == core) (with_copy addr (stored_alone bus core addr offset width value) (bus.core core)) (bus.core k) }) (one_line bus addr (with_number line offset width value)))
        seen
        (quiet-with bus core (with_copy addr (stored_alone bus core addr offset width value) (bus.core core)) bus.memory
        (one_line bus addr (with_number (own bus core addr).cell offset width value)) h
        (straight_store-quietly bus core addr offset width value room h may inside e))
    pick false e =
        taken-with bus (straight_store_message bus core addr offset width value) (room_for bus core addr room)
        (unmarked_next (cond (is_alone bus (straight_store_message bus core addr offset width value)) M S)) h
        (straight_store-takes bus core addr offset width value room h may inside)

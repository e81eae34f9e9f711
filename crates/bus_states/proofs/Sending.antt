-- A core sends a message and takes its line: the bus stays coherent, the line is committed as sent, each other one as it was.
use Rattle.std.proofs.Common.{◌≡◌, ◌≢◌, ℕ, ◌+◌, ◌%◌, ◌<◌, ◌≤◌, ◌==◌, ◌||◌, ◌&&◌, not, nat_lt, Bool, true, false, cond, Option, Some, None, refl, sym, ap, subst, ◌∙◌, arith, ne_eqb}
use Rattle.std.proofs.lemmas.Bool.{not-true, and_right, and_parts}
use Rattle.std.proofs.lemmas.Bool.Decides.{nat_tests}
use Rattle.spec_states.specs.Copies.{LineCopy, no_copy, IsUpToDate}
use Rattle.spec_states.specs.States.{is_valid, is_exclusive, is_modified, is_speculative}
use Rattle.spec_states.proofs.CopyLaws.{modified_is}
use Rattle.spec_states.proofs.RowLaws.{modified-valid}
use Rattle.cache_lines.specs.declared.line.Line.{Line}
use Rattle.cache_lines.specs.Cells.{cell_of}
use Rattle.cache_lines.specs.Protocol.{IsInPlace, copy_of_line}
use Rattle.bus_states.specs.declared.notice.Notice.TheVariants.{Publish}
use Rattle.bus_states.specs.Bus.{CoreState, Bus, committed, memory_line, some_core, is_later}
use Rattle.bus_states.specs.Coherent.{IsCoherent, IsCoherentLine, IsCoherentCore}
use Rattle.bus_states.specs.Messages.{Room, IsRoom, Message, reply, order, violates, remains, heard_core, is_busy, is_alone, leaves, with_line, with_victim}
use Rattle.bus_states.proofs.Addresses.{with_line-here, with_line-elsewhere}
use Rattle.bus_states.proofs.Coherence
use Rattle.bus_states.proofs.Coherence.{IsCoherentWith, committed-with, by_core, none_below}
use Rattle.bus_states.proofs.Copies.{itself, not_so, none-in_place, Fades, Fades-same, Fades-none}
use Rattle.bus_states.proofs.Heard
use Rattle.bus_states.proofs.Replies.{reply-follows}

never : (b d : Bool) → d ≡ false → (b && d) ≡ true → ⊥
never true d e f = cc
never false d e f = cc

right : (line_addr a : ℕ) (b : Bool) → (b && (line_addr == a)) ≡ true → line_addr ≡ a
right line_addr a true e = grind (arith, nat_tests)
right line_addr a false e = cc

-- a line that leaves, seen from its address
pub leaves-held : (core : CoreState) (room : Option Room) → IsRoom core room → (a : ℕ) → leaves room a ≡ true
    → (is_valid (core.copy a).state ≡ true) × (is_speculative (core.copy a).state ≡ false)
leaves-held core None h a e = absurd (let x : ⊥ = cc in x)
leaves-held core (Some r) h a e =
    let v : is_valid r.line.state ≡ true = (and_parts (is_valid r.line.state) (r.line.addr == a) e).0 in
    let at : r.line.addr ≡ a = right r.line.addr a (is_valid r.line.state) e in
    let is : core.copy a ≡ copy_of_line r.line = subst (λ (a : ℕ). core.copy a ≡ copy_of_line r.line) at (h.held r refl v) in
    rw is (v, h.unmarked r refl)

-- a core sends a message, and is then as given, where `mine` is its copy of the line
pub record Sends (bus : Bus) (message : Message) (room : Option Room) (own : CoreState) (mine : LineCopy) : Type 0 where
  pub aligned : message.addr % bus.line_length ≡ 0
  pub inside : message.addr + bus.line_length ≤ bus.shape.size
  pub in_cores : message.sender < bus.shape.cores
  pub free : is_busy bus message ≡ false
  pub past : (x : ℕ) → bus.line_length ≤ x → message.line x ≡ 0
  pub same_line : message.notice ≢ Publish → message.line ≡ committed bus message.addr
  pub victim : IsRoom (bus.core message.sender) room
  pub copies : (a : ℕ) → own.copy a ≡ cond (message.addr == a) mine (cond (leaves room a) no_copy ((bus.core message.sender).copy a))
  pub same_length : own.line_length ≡ (bus.core message.sender).line_length
  pub same_geometry : own.geometry ≡ (bus.core message.sender).geometry
  pub same_limit : own.buffer.limit ≡ (bus.core message.sender).buffer.limit
  pub stays : IsCoherentCore own
  pub up_to_date : IsUpToDate mine message.line
  pub in_place : IsInPlace bus.line_length message.addr mine
  pub exclusive : is_exclusive mine.state ≡ true
      → (is_exclusive ((bus.core message.sender).copy message.addr).state || is_alone bus message) ≡ true

-- the bus afterwards, and what is committed then
abbrev pub sent : Bus → Message → Option Room → CoreState → Bus
sent bus message room own =
    record bus {
      core = λ k. cond (k == message.sender) own (heard_core bus message k);
      memory = with_line bus.line_length message.addr message.line (with_victim bus.line_length room bus.memory);
    }

abbrev pub sent_lines : Bus → Message → ℕ → ℕ → ℕ
sent_lines bus message a = cond (message.addr == a) message.line (committed bus a)

pub at_sender : (bus : Bus) (message : Message) (room : Option Room) (own : CoreState) → (sent bus message room own).core message.sender ≡ own
at_sender bus message room own = rw (itself message.sender) refl

pub at_other : (bus : Bus) (message : Message) (room : Option Room) (own : CoreState) (k : ℕ) → k ≢ message.sender
    → (sent bus message room own).core k ≡ heard_core bus message k
at_other bus message room own k away = rw (ne_eqb k message.sender away) refl

-- ---- the message's line

either : (b d : Bool) → (b || d) ≡ true → b ≡ false → d ≡ true
either true d e f = cc
either false d e f = e

unremaining : (same v valid : Bool) → same ≡ false → (not same && (not v && valid)) ≡ false → (not v && valid) ≡ false
unremaining same v valid e f = grind (arith, nat_tests)

others-gone : (bus : Bus) (message : Message) (room : Option Room) (own : CoreState) (mine : LineCopy) → IsCoherent bus
    → Sends bus message room own mine → is_exclusive mine.state ≡ true → (k : ℕ) → k ≢ message.sender
    → is_valid ((heard_core bus message k).copy message.addr).state ≡ false
others-gone bus message room own mine h t ex k away =
    elim (is_exclusive ((bus.core message.sender).copy message.addr).state) as (λ b. is_exclusive ((bus.core message.sender).copy message.addr).state ≡ b → is_valid ((heard_core bus message k).copy message.addr).state ≡ false) [
      | true ↦ λ e.
          let none : is_valid ((bus.core k).copy message.addr).state ≡ false = (h.lines message.addr t.aligned).exclusive message.sender k (λ q. away (sym q)) e in
          gone (and_right (not (violates bus message k)) (is_valid (reply bus message k).state)
          (not_so (is_valid (reply bus message k).state) (is_valid ((bus.core k).copy message.addr).state)
          (Heard.message-gives_way bus message k h t.aligned).no_revival none))
      | false ↦ λ e. by_count (nat_lt k bus.shape.cores) refl (not-true (some_core bus.shape.cores (remains bus message)) (either (is_exclusive ((bus.core message.sender).copy message.addr).state) (is_alone bus message) (t.exclusive ex) e))
    ] refl
  where
    gone : (not (violates bus message k) && is_valid (reply bus message k).state) ≡ false
        → is_valid ((heard_core bus message k).copy message.addr).state ≡ false
    gone e = Heard.here-invalid (bus.core k) message.addr (violates bus message k) (reply bus message k) _ e

    by_count : (b : Bool) → nat_lt k bus.shape.cores ≡ b → some_core bus.shape.cores (remains bus message) ≡ false
        → is_valid ((heard_core bus message k).copy message.addr).state ≡ false
    by_count true e none =
        let inside : k < bus.shape.cores = grind (arith, nat_tests) in
        gone (unremaining (k == message.sender) (violates bus message k) (is_valid (reply bus message k).state) (ne_eqb k message.sender away)
        (none_below bus.shape.cores (remains bus message) none k inside))
    by_count false e none =
        let past : bus.shape.cores ≤ k = grind (arith, nat_tests) in
        rw (Heard.heard-absent bus message k (h.absent k past)) refl

line-here : (bus : Bus) (message : Message) (room : Option Room) (own : CoreState) (mine : LineCopy) → IsCoherent bus
    → Sends bus message room own mine
    → IsCoherentLine (λ k. ((sent bus message room own).core k).copy message.addr) (memory_line bus.line_length (sent bus message room own).memory message.addr) message.line
line-here bus message room own mine h t =
    Coherence.sent_line message.sender mine (λ k. ((sent bus message room own).core k).copy message.addr)
    (memory_line bus.line_length (sent bus message room own).memory message.addr) message.line
    t.up_to_date
    (rw (at_sender bus message room own) (t.copies message.addr ∙ rw (itself message.addr) refl))
    (λ k away. rw (at_other bus message room own k away)
    (Heard.here-up_to_date (bus.core k) message.addr (violates bus message k) (reply bus message k) _ message.line
    (reply-follows message.notice ((bus.core k).copy message.addr).state ((bus.core k).copy message.addr).marks (order (is_later bus message.sender k)) ((bus.core k).copy message.addr).cell (committed bus message.addr) message.line t.same_line
    ((h.lines message.addr t.aligned).up_to_date k))))
    (λ k away. rw (at_other bus message room own k away)
    (Heard.here-shared (bus.core k) message.addr (violates bus message k) (reply bus message k) _ (Heard.message-gives_way bus message k h t.aligned).shared))
    (λ ex k away. rw (at_other bus message room own k away) (others-gone bus message room own mine h t ex k away))
    (λ e. with_line-here bus.line_length message.addr message.line (with_victim bus.line_length room bus.memory) h.length_is t.aligned t.past)

-- ---- another line

sender-fades : (core own : CoreState) (addr a : ℕ) (room : Option Room) (mine : LineCopy) (c : ℕ → ℕ) → (addr == a) ≡ false
    → own.copy a ≡ cond (addr == a) mine (cond (leaves room a) no_copy (core.copy a))
    → IsUpToDate (core.copy a) c → Fades (core.copy a) (own.copy a) c
sender-fades core own addr a room mine c e f h = rw (f, e) (pick (leaves room a))
  where
    pick : (b : Bool) → Fades (core.copy a) (cond b no_copy (core.copy a)) c
    pick true = Fades-none (core.copy a) c
    pick false = Fades-same (core.copy a) c h

fades : (bus : Bus) (message : Message) (room : Option Room) (own : CoreState) (mine : LineCopy) → IsCoherent bus
    → Sends bus message room own mine → (a : ℕ) → a % bus.line_length ≡ 0 → (message.addr == a) ≡ false → (k : ℕ)
    → Fades ((bus.core k).copy a) (((sent bus message room own).core k).copy a) (committed bus a)
fades bus message room own mine h t a aligned e k =
    by_core (λ (k : ℕ). Fades ((bus.core k).copy a) (((sent bus message room own).core k).copy a) (committed bus a)) message.sender k
    (rw (at_sender bus message room own)
    (sender-fades (bus.core message.sender) own message.addr a room mine (committed bus a) e (t.copies a) ((h.lines a aligned).up_to_date message.sender)))
    (λ away. rw (at_other bus message room own k away)
    (Heard.elsewhere-fades (bus.core k) message.addr a (violates bus message k) (reply bus message k) _ (committed bus a) e ((h.lines a aligned).up_to_date k)))

-- an M copy of a line that does not leave stays
stays-modified : (bus : Bus) (message : Message) (room : Option Room) (own : CoreState) (mine : LineCopy)
    → Sends bus message room own mine → (a : ℕ) → (message.addr == a) ≡ false
    → (leaves room a ≡ true → is_modified ((bus.core message.sender).copy a).state ≡ false) → (k : ℕ)
    → is_modified (((sent bus message room own).core k).copy a).state ≡ is_modified ((bus.core k).copy a).state
stays-modified bus message room own mine t a e l k =
    by_core (λ (k : ℕ). is_modified (((sent bus message room own).core k).copy a).state ≡ is_modified ((bus.core k).copy a).state) message.sender k
    (rw (at_sender bus message room own, t.copies a, e) (pick (leaves room a) l))
    (λ away. rw (at_other bus message room own k away)
    (Heard.elsewhere-modified (bus.core k) message.addr a (violates bus message k) (reply bus message k) _ e))
  where
    pick : (b : Bool) → (b ≡ true → is_modified ((bus.core message.sender).copy a).state ≡ false)
        → is_modified (cond b no_copy ((bus.core message.sender).copy a)).state ≡ is_modified ((bus.core message.sender).copy a).state
    pick true f = sym (f refl)
    pick false f = refl

-- memory has a line that nobody holds as M any more
unwritten : (bus : Bus) (message : Message) (room : Option Room) (own : CoreState) (mine : LineCopy) → IsCoherent bus
    → Sends bus message room own mine → (a : ℕ) → a % bus.line_length ≡ 0 → (message.addr == a) ≡ false
    → ((k : ℕ) → is_modified (((sent bus message room own).core k).copy a).state ≡ false) → (x : ℕ)
    → memory_line bus.line_length (with_victim bus.line_length room bus.memory) a x ≡ committed bus a x
unwritten bus message room own mine h t a aligned e none x =
    by_room room refl (stays-modified bus message room own mine t a e)
  where
    same : ((k : ℕ) → is_modified (((sent bus message room own).core k).copy a).state ≡ is_modified ((bus.core k).copy a).state)
        → memory_line bus.line_length bus.memory a x ≡ committed bus a x
    same f = (h.lines a aligned).in_memory (λ k. sym (f k) ∙ none k) x

    at_line : (line : Line) (way : ℕ) → room ≡ Some (record { way = way; line = line }) → (b : Bool) → is_modified line.state ≡ b → (d : Bool) → (line.addr == a) ≡ d
        → ((leaves (Some (record { way = way; line = line })) a ≡ true → is_modified ((bus.core message.sender).copy a).state ≡ false)
        → (k : ℕ) → is_modified (((sent bus message room own).core k).copy a).state ≡ is_modified ((bus.core k).copy a).state)
        → memory_line bus.line_length (cond b (with_line bus.line_length line.addr (cell_of line) bus.memory) bus.memory) a x ≡ committed bus a x
    at_line line way is true m true at f =
        let valid : is_valid line.state ≡ true = modified-valid line.state m in
        let here : line.addr ≡ a = grind (arith, nat_tests) in
        let copy : (bus.core message.sender).copy a ≡ copy_of_line line =
        subst (λ (a : ℕ). (bus.core message.sender).copy a ≡ copy_of_line line) here (t.victim.held (record { way = way; line = line }) is valid) in
        let modified : is_modified ((bus.core message.sender).copy a).state ≡ true = rw copy m in
        subst (λ (line_addr : ℕ). memory_line bus.line_length (with_line bus.line_length line_addr (cell_of line) bus.memory) a x ≡ committed bus a x) (sym here)
        (with_line-here bus.line_length a (cell_of line) bus.memory h.length_is aligned
        (λ x le. ap (λ (copy : LineCopy). copy.cell x) (sym copy) ∙ (h.in_place message.sender a).cells x le) x
        ∙ ap (λ (copy : LineCopy). copy.cell x) (sym copy)
        ∙ modified_is ((bus.core message.sender).copy a) (committed bus a) ((h.lines a aligned).up_to_date message.sender) modified x)
    at_line line way is true m false at f =
        let valid : is_valid line.state ≡ true = modified-valid line.state m in
        let held : is_valid ((bus.core message.sender).copy line.addr).state ≡ true = rw (t.victim.held (record { way = way; line = line }) is valid) valid in
        with_line-elsewhere bus.line_length line.addr a (cell_of line) bus.memory h.length_is ((h.in_place message.sender line.addr).aligned held) aligned at x
        ∙ same (f (λ l. absurd (never (is_valid line.state) (line.addr == a) at l)))
    at_line line way is false m d at f =
        same (f (λ l.
        let here : line.addr ≡ a = right line.addr a (is_valid line.state) l in
        let valid : is_valid line.state ≡ true = (and_parts (is_valid line.state) (line.addr == a) l).0 in
        rw (subst (λ (a : ℕ). (bus.core message.sender).copy a ≡ copy_of_line line) here (t.victim.held (record { way = way; line = line }) is valid)) m))

    by_room : (room2 : Option Room) → room ≡ room2
        → ((leaves room2 a ≡ true → is_modified ((bus.core message.sender).copy a).state ≡ false)
        → (k : ℕ) → is_modified (((sent bus message room own).core k).copy a).state ≡ is_modified ((bus.core k).copy a).state)
        → memory_line bus.line_length (with_victim bus.line_length room2 bus.memory) a x ≡ committed bus a x
    by_room None is f = same (f (λ l. cc))
    by_room (Some r) is f = at_line r.line r.way is (is_modified r.line.state) refl (r.line.addr == a) refl f

line-elsewhere : (bus : Bus) (message : Message) (room : Option Room) (own : CoreState) (mine : LineCopy) → IsCoherent bus
    → Sends bus message room own mine → (a : ℕ) → a % bus.line_length ≡ 0 → (message.addr == a) ≡ false
    → IsCoherentLine (λ k. ((sent bus message room own).core k).copy a) (memory_line bus.line_length (sent bus message room own).memory a) (committed bus a)
line-elsewhere bus message room own mine h t a aligned e =
    Coherence.faded_line (λ k. (bus.core k).copy a) (λ k. ((sent bus message room own).core k).copy a)
    (memory_line bus.line_length bus.memory a) (memory_line bus.line_length (sent bus message room own).memory a) (committed bus a) (h.lines a aligned)
    (λ k. (fades bus message room own mine h t a aligned e k).up_to_date)
    (λ k. (fades bus message room own mine h t a aligned e k).valid)
    (λ k. (fades bus message room own mine h t a aligned e k).exclusive)
    (λ none x. with_line-elsewhere bus.line_length message.addr a message.line (with_victim bus.line_length room bus.memory) h.length_is t.aligned aligned e x
    ∙ unwritten bus message room own mine h t a aligned e none x)

every-line : (bus : Bus) (message : Message) (room : Option Room) (own : CoreState) (mine : LineCopy) → IsCoherent bus
    → Sends bus message room own mine → (a : ℕ) → a % bus.line_length ≡ 0
    → IsCoherentLine (λ k. ((sent bus message room own).core k).copy a) (memory_line bus.line_length (sent bus message room own).memory a) (sent_lines bus message a)
every-line bus message room own mine h t a aligned =
    elim (message.addr == a) as (λ b. (message.addr == a) ≡ b → IsCoherentLine (λ k. ((sent bus message room own).core k).copy a) (memory_line bus.line_length (sent bus message room own).memory a) (cond b message.line (committed bus a))) [
      | true ↦ λ e.
          let at : message.addr ≡ a = grind (arith, nat_tests) in
          subst (λ (a : ℕ). IsCoherentLine (λ k. ((sent bus message room own).core k).copy a) (memory_line bus.line_length (sent bus message room own).memory a) message.line) at
          (line-here bus message room own mine h t)
      | false ↦ λ e. line-elsewhere bus message room own mine h t a aligned e
    ] refl

-- ---- every copy in its place, of a line of memory

own-in_place : (bus : Bus) (message : Message) (room : Option Room) (own : CoreState) (mine : LineCopy) → IsCoherent bus
    → Sends bus message room own mine → (a : ℕ) → IsInPlace bus.line_length a (own.copy a)
own-in_place bus message room own mine h t a =
    rw (t.copies a)
    (elim (message.addr == a) as (λ b. (message.addr == a) ≡ b → IsInPlace bus.line_length a (cond b mine (cond (leaves room a) no_copy ((bus.core message.sender).copy a)))) [
      | true ↦ λ e.
          let at : message.addr ≡ a = grind (arith, nat_tests) in
          subst (λ (a : ℕ). IsInPlace bus.line_length a mine) at t.in_place
      | false ↦ λ e. pick (leaves room a)
    ] refl)
  where
    pick : (b : Bool) → IsInPlace bus.line_length a (cond b no_copy ((bus.core message.sender).copy a))
    pick true = none-in_place bus.line_length a
    pick false = h.in_place message.sender a

valid-before : (bus : Bus) (message : Message) (room : Option Room) (own : CoreState) (mine : LineCopy)
    → Sends bus message room own mine → (k a : ℕ) → (message.addr == a) ≡ false
    → is_valid (((sent bus message room own).core k).copy a).state ≡ true → is_valid ((bus.core k).copy a).state ≡ true
valid-before bus message room own mine t k a e =
    by_core (λ (k : ℕ). is_valid (((sent bus message room own).core k).copy a).state ≡ true → is_valid ((bus.core k).copy a).state ≡ true) message.sender k
    (rw (at_sender bus message room own, t.copies a, e) (pick (leaves room a)))
    (λ away. rw (at_other bus message room own k away)
    (Heard.elsewhere-valid (bus.core k) message.addr a (violates bus message k) (reply bus message k) _ e))
  where
    pick : (b : Bool) → is_valid (cond b no_copy ((bus.core message.sender).copy a)).state ≡ true → is_valid ((bus.core message.sender).copy a).state ≡ true
    pick true v = cc
    pick false v = v

-- ---- the law

pub sent-with : (bus : Bus) (message : Message) (room : Option Room) (own : CoreState) (mine : LineCopy) → IsCoherent bus
    → Sends bus message room own mine → IsCoherentWith (sent bus message room own) (sent_lines bus message)
sent-with bus message room own mine h t =
    record {
      length_is = h.length_is;
      length_of = h.length_of;
      of_places = h.of_places;
      geometry_is = h.geometry_is;
      whole_lines = h.whole_lines;
      lengths =
          λ k inside. by_core (λ (k : ℕ). k < bus.shape.cores → ((sent bus message room own).core k).line_length ≡ bus.line_length) message.sender k
          (rw (at_sender bus message room own) (λ i. t.same_length ∙ h.lengths message.sender i))
          (λ away. rw (at_other bus message room own k away) (λ i. Heard.heard-length (bus.core k) message.addr (violates bus message k) (reply bus message k) _ ∙ h.lengths k i)) inside;
      geometries =
          λ k inside. by_core (λ (k : ℕ). k < bus.shape.cores → ((sent bus message room own).core k).geometry ≡ bus.geometry) message.sender k
          (rw (at_sender bus message room own) (λ i. t.same_geometry ∙ h.geometries message.sender i))
          (λ away. rw (at_other bus message room own k away) (λ i. Heard.heard-geometry (bus.core k) message.addr (violates bus message k) (reply bus message k) _ ∙ h.geometries k i)) inside;
      limits =
          λ k inside. by_core (λ (k : ℕ). k < bus.shape.cores → ((sent bus message room own).core k).buffer.limit ≡ bus.shape.machine.buffer_lines) message.sender k
          (rw (at_sender bus message room own) (λ i. t.same_limit ∙ h.limits message.sender i))
          (λ away. rw (at_other bus message room own k away) (λ i. Heard.heard-limit (bus.core k) message.addr (violates bus message k) (reply bus message k) _ ∙ h.limits k i)) inside;
      lines = every-line bus message room own mine h t;
      cores =
          λ k. by_core (λ (k : ℕ). IsCoherentCore ((sent bus message room own).core k)) message.sender k
          (rw (at_sender bus message room own) t.stays)
          (λ away. rw (at_other bus message room own k away) (Heard.message-coherent bus message k h t.aligned t.free away));
      in_place =
          λ k a. by_core (λ (k : ℕ). IsInPlace bus.line_length a (((sent bus message room own).core k).copy a)) message.sender k
          (rw (at_sender bus message room own) (own-in_place bus message room own mine h t a))
          (λ away. rw (at_other bus message room own k away) (Heard.message-in_place bus message k h t.aligned t.past a));
      inside =
          λ k a. elim (message.addr == a) as (λ b. (message.addr == a) ≡ b → is_valid (((sent bus message room own).core k).copy a).state ≡ true → a + bus.line_length ≤ bus.shape.size) [
            | true ↦ λ e v. let at : message.addr ≡ a = grind (arith, nat_tests) in subst (λ (a : ℕ). a + bus.line_length ≤ bus.shape.size) at t.inside
            | false ↦ λ e v. h.inside k a (valid-before bus message room own mine t k a e v)
          ] refl;
      absent =
          λ k past.
          let here : message.sender < bus.shape.cores = t.in_cores in
          let away : k ≢ message.sender = omega arith in
          at_other bus message room own k away ∙ Heard.heard-absent bus message k (h.absent k past);
    }

-- the line is committed as sent, each other one as it was
pub sent-committed : (bus : Bus) (message : Message) (room : Option Room) (own : CoreState) (mine : LineCopy) → IsCoherent bus
    → Sends bus message room own mine → (a : ℕ) → a % bus.line_length ≡ 0 → (x : ℕ)
    → committed (sent bus message room own) a x ≡ sent_lines bus message a x
sent-committed bus message room own mine h t =
    committed-with (sent bus message room own) (sent_lines bus message) (sent-with bus message room own mine h t)

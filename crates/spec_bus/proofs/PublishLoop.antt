-- A core publishes the lines of its buffer.
use Rattle.std.proofs.Common.{◌≡◌, ℕ, ◌<◌, ◌==◌, ◌||◌, Bool, true, false, cond, List, [], ◌∷◌, length, Some, None, slice_get, refl, sym, ap, subst, ◌∙◌, arith}
use Rattle.spec_states.specs.declared.next.Next.{Next}
use Rattle.std.proofs.lemmas.Bool.Decides.{nat_tests}
use Rattle.rv32_image.proofs.SmallFacts.{or_false}
use Rattle.orb.specs.Lines.{holds, without}
use Rattle.bus_states.specs.declared.notice.Notice.TheVariants.{Publish}
use Rattle.bus_states.specs.Bus.{CoreState, Bus, sees}
use Rattle.bus_states.specs.Coherent.{IsCoherent}
use Rattle.bus_states.specs.Messages.{message_of, violates, after_message}
use Rattle.bus_states.specs.Straight.{released, publish_next, after_publish, after_publish_line, after_publish_lines, after_settling, lines_violate, settled_core}
use Rattle.bus_states.proofs.Publishing.{AreListed, first-listed, rest-listed, publish_line-coherent}
use Rattle.spec_bus.specs.declared.bus_core.Core.{Core}
use Rattle.spec_bus.specs.declared.parts.Parts.{Parts}
use Rattle.spec_bus.specs.Parts.{bus_of, bus_in, core_at}
use Rattle.spec_bus.proofs.Moving.{same_bus}

-- ---- one line

abbrev pub released_core : ℕ → CoreState → CoreState
released_core addr core = record core { buffer = record core.buffer { lines = without addr core.buffer.lines } }

-- the line is sent, and leaves the buffer
pub line_published : (old mid : Parts) (cores : List Core) (core addr : ℕ) (next : Next) (line : ℕ → ℕ)
    → bus_in mid ≡ after_message (bus_in old) (record { notice = Publish; sender = core; addr = addr; line = line }) None next
    → length cores ≡ length mid.cores.items
    → ((j : ℕ) → core_at cores j ≡ cond (j == core) (released_core addr (core_at mid.cores.items core)) (core_at mid.cores.items j))
    → line ≡ sees (bus_in old) core addr → next ≡ publish_next (bus_in old) core addr
    → bus_of mid.code mid.machine cores mid.memory.items ≡ after_publish_line (bus_in old) core addr
line_published old mid cores core addr next line moves count is_core e f =
    same_bus _ _ _ _ _ _ _ _ _ _ _ _ count refl refl refl is_core (λ p. refl)
    ∙ ap (λ (bus : Bus). released bus core addr)
    (moves
    ∙ ap (λ (line : ℕ → ℕ). after_message (bus_in old) (record { notice = Publish; sender = core; addr = addr; line = line }) None next) e
    ∙ ap (λ (next : Next). after_message (bus_in old) (message_of (bus_in old) Publish core addr) None next) f)

-- ---- the loop over the buffer

-- what is left to publish leads to the same bus, and violates the cores that are not violated yet
pub record IsPublishing (old now : Bus) (core : ℕ) (hurt : ℕ → Bool) : Type 0 where
  pub coherent : IsCoherent now
  pub shape : now.shape ≡ old.shape
  pub same_length : now.line_length ≡ old.line_length
  pub rest : after_publish_lines now core (now.core core).buffer.lines ≡ after_publish_lines old core (old.core core).buffer.lines
  pub violated : (k : ℕ) → (hurt k || lines_violate now core (now.core core).buffer.lines k)
      ≡ lines_violate old core (old.core core).buffer.lines k

or_assoc : (a b c : Bool) → ((a || b) || c) ≡ (a || (b || c))
or_assoc true b c = refl
or_assoc false b c = refl

pub publishing_init : (bus : Bus) (core : ℕ) (hurt : ℕ → Bool) → IsCoherent bus → ((k : ℕ) → hurt k ≡ false) → IsPublishing bus bus core hurt
publishing_init bus core hurt h none =
    record {
      coherent = h;
      shape = refl;
      same_length = refl;
      rest = refl;
      violated = λ k. ap (λ b. b || lines_violate bus core (bus.core core).buffer.lines k) (none k);
    }

step : (old mid : Bus) (core addr : ℕ) (lines : List ℕ) (hurt more both : ℕ → Bool) → (mid.core core).buffer.lines ≡ lines
    → core < mid.shape.cores → slice_get lines 0 ≡ Some addr → IsPublishing old mid core hurt
    → ((k : ℕ) → more k ≡ violates mid (message_of mid Publish core addr) k) → ((k : ℕ) → both k ≡ (hurt k || more k))
    → IsPublishing old (after_publish_line mid core addr) core both
unfolding after_publish_lines lines_violate
step old mid core addr [] hurt more both e inside first p f g = cc
step old mid core addr (x ∷ rest) hurt more both e inside first p f g =
    let same : x ≡ addr = cc in
    let is : (mid.core core).buffer.lines ≡ addr ∷ rest = e ∙ ap (λ n. n ∷ rest) same in
    let listed : AreListed mid core (addr ∷ rest) = record { in_cores = inside; are = is } in
    let new : Bus = after_publish_line mid core addr in
    let after : (new.core core).buffer.lines ≡ rest = (rest-listed mid core addr rest p.coherent listed).are in
    record {
      coherent = publish_line-coherent mid core addr p.coherent (first-listed mid core addr rest listed);
      shape = p.shape;
      same_length = p.same_length;
      rest = ap (λ xs. after_publish_lines new core xs) after ∙ sym (ap (λ xs. after_publish_lines mid core xs) is) ∙ p.rest;
      violated =
          λ k. ap (λ xs. both k || lines_violate new core xs k) after
          ∙ ap (λ b. b || lines_violate new core rest k) (g k)
          ∙ or_assoc (hurt k) (more k) (lines_violate new core rest k)
          ∙ ap (λ b. hurt k || (b || lines_violate new core rest k)) (f k)
          ∙ sym (ap (λ xs. hurt k || lines_violate mid core xs k) is)
          ∙ p.violated k;
    }

-- the first line of the buffer is published
pub publishing_more : (old mid new : Bus) (core addr : ℕ) (hurt more both : ℕ → Bool) → core < mid.shape.cores
    → slice_get (mid.core core).buffer.lines 0 ≡ Some addr → IsPublishing old mid core hurt
    → ((k : ℕ) → more k ≡ violates mid (message_of mid Publish core addr) k) → ((k : ℕ) → both k ≡ (hurt k || more k))
    → new ≡ after_publish_line mid core addr → IsPublishing old new core both
publishing_more old mid new core addr hurt more both inside first p f g is =
    subst (λ (bus : Bus). IsPublishing old bus core both) (sym is) (step old mid core addr (mid.core core).buffer.lines hurt more both refl inside first p f g)

none_left : (lines : List ℕ) → slice_get lines 0 ≡ None → lines ≡ []
none_left [] e = refl
none_left (x ∷ lines) e = cc

-- no line is left
pub publishing_bus : (old now : Bus) (core : ℕ) (hurt : ℕ → Bool) → IsPublishing old now core hurt
    → slice_get (now.core core).buffer.lines 0 ≡ None → now ≡ after_publish_lines old core (old.core core).buffer.lines
unfolding after_publish_lines
publishing_bus old now core hurt p none =
    sym (ap (λ xs. after_publish_lines now core xs) (none_left (now.core core).buffer.lines none)) ∙ p.rest

pub publishing_hurt : (old now : Bus) (core : ℕ) (hurt : ℕ → Bool) → IsPublishing old now core hurt
    → slice_get (now.core core).buffer.lines 0 ≡ None → (k : ℕ) → hurt k ≡ lines_violate old core (old.core core).buffer.lines k
unfolding lines_violate
publishing_hurt old now core hurt p none k =
    sym (or_false (hurt k)) ∙ sym (ap (λ xs. hurt k || lines_violate now core xs k) (none_left (now.core core).buffer.lines none)) ∙ p.violated k

-- a line fewer is left
pub publishing_less : (mid new : Bus) (core addr : ℕ) → IsCoherent mid → core < mid.shape.cores
    → slice_get (mid.core core).buffer.lines 0 ≡ Some addr → new ≡ after_publish_line mid core addr
    → length (new.core core).buffer.lines < length (mid.core core).buffer.lines
publishing_less mid new core addr h inside first is =
    subst (λ (bus : Bus). length (bus.core core).buffer.lines < length (mid.core core).buffer.lines) (sym is)
    (less (mid.core core).buffer.lines refl first)
  where
    less : (lines : List ℕ) → (mid.core core).buffer.lines ≡ lines → slice_get lines 0 ≡ Some addr
        → length ((after_publish_line mid core addr).core core).buffer.lines < length (mid.core core).buffer.lines
    less [] e f = cc
    less (x ∷ rest) e f =
        let same : x ≡ addr = cc in
        let are : (mid.core core).buffer.lines ≡ addr ∷ rest = e ∙ ap (λ n. n ∷ rest) same in
        let after : ((after_publish_line mid core addr).core core).buffer.lines ≡ rest =
        (rest-listed mid core addr rest h (record { in_cores = inside; are = are })).are in
        rw (after, are) (omega arith)

-- and the core settles what it holds beside them
pub lines_settled : (old mid : Parts) (cores : List Core) (core : ℕ)
    → bus_in mid ≡ after_publish_lines (bus_in old) core ((bus_in old).core core).buffer.lines → length cores ≡ length mid.cores.items
    → ((j : ℕ) → core_at cores j ≡ cond (j == core) (settled_core (core_at mid.cores.items core)) (core_at mid.cores.items j))
    → bus_of mid.code mid.machine cores mid.memory.items ≡ after_publish (bus_in old) core
lines_settled old mid cores core lines count is_core =
    same_bus _ _ _ _ _ _ _ _ _ _ _ _ count refl refl refl is_core (λ p. refl)
    ∙ ap (λ (bus : Bus). after_settling bus core) lines

-- the first line of a buffer is there
pub first_there : (lines : List ℕ) (addr : ℕ) → slice_get lines 0 ≡ Some addr → holds lines addr ≡ true
first_there [] addr e = cc
first_there (x ∷ lines) addr e =
    let same : x ≡ addr = cc in
    let here : (x == addr) ≡ true = grind (arith, nat_tests) in
    rw here refl

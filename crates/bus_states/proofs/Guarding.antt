-- Which bytes a core owns and guards, by the marks of its copies.
use Rattle.std.proofs.Common.{◌≡◌, ◌≢◌, ℕ, zero, suc, ◌+◌, ◌*◌, ◌/◌, ◌%◌, ◌<◌, ◌≤◌, ◌==◌, ◌⊎◌, inl, inr, not, true, false, refl, sym, ap, ◌∙◌, arith}
use Rattle.std.proofs.lemmas.Bool.{both_ways}
use Rattle.std.proofs.lemmas.Bool.Decides.{nat_tests}
use Rattle.std.proofs.lemmas.Nat.{pow_pos}
use Rattle.std.proofs.lemmas.Nat.Bits.{bit_at-zero, bit_at-lt, same_from_bits_below}
use Rattle.std.specs.Int.{bit_at}
use Rattle.spec_states.specs.declared.line.LineState.{LineState}
use Rattle.spec_states.specs.declared.line.LineState.TheVariants.{I, S, E, M, SpS, SpE}
use Rattle.spec_states.specs.declared.line.Marks.{Marks}
use Rattle.spec_states.specs.Copies.{LineCopy, IsUpToDate}
use Rattle.spec_states.specs.Mask.{has, IsWithinLine}
use Rattle.spec_states.specs.Rows.{requires_ownership, owns_line}
use Rattle.spec_states.specs.States.{is_valid, is_exclusive, is_speculative}
use Rattle.spec_states.proofs.MaskLaws.{has-nonzero}
use Rattle.spec_states.proofs.RowLaws.{speculative-valid, nonzero}
use Rattle.rv32_image.proofs.Places.{place-none}
use Rattle.violations.specs.View
use Rattle.violations.specs.Rule.{OwnsIn}
use Rattle.bus_states.specs.Bus.{Bus, committed, line_of, offset_of}
use Rattle.bus_states.specs.Coherent.{IsCoherent}
use Rattle.bus_states.specs.Views.{view_of}
use Rattle.bus_states.proofs.Addresses.{line-of, offset-of}
use Rattle.bus_states.proofs.Hurting.{loaded-marked}

-- ---- lines

-- the line of a byte, as the store's rule has it
pub line-viewed : (bus : Bus) → IsCoherent bus → (a : ℕ) → View.line_of bus.shape a ≡ line_of bus.line_length a
line-viewed bus h a =
    ap (λ (p : ℕ). bus.shape.machine.line_length * (p / bus.shape.machine.line_length)) (place-none bus.shape.machine bus.shape.size a h.of_places)
    ∙ ap (λ (n : ℕ). n * (a / n)) (sym h.length_of)

-- two bytes of one line
pub same-line : (bus : Bus) → IsCoherent bus → (a b : ℕ) → View.line_of bus.shape a ≡ View.line_of bus.shape b
    → line_of bus.line_length a ≡ line_of bus.line_length b
same-line bus h a b same = sym (line-viewed bus h a) ∙ same ∙ line-viewed bus h b

-- a byte that a core guards lies in a line that it has loaded
pub guarded-line : (bus : Bus) (k addr a : ℕ) → line_of bus.line_length a ≡ addr
    → (view_of bus).guarded k a ≡ ((bus.core k).copy addr).marks.loaded
guarded-line bus k addr a at = ap (λ (line : ℕ). ((bus.core k).copy line).marks.loaded) at

-- a byte that a core owns is one of its mask of the line
pub own-line : (bus : Bus) (k addr x : ℕ) → IsCoherent bus → addr % bus.line_length ≡ 0 → x < bus.line_length
    → (view_of bus).own k (addr + x) ≡ has ((bus.core k).copy addr).marks.bytes x
own-line bus k addr x h aligned inside =
    ap (λ (line : ℕ). has ((bus.core k).copy line).marks.bytes (offset_of bus.line_length (addr + x)))
    (line-of bus.line_length addr x h.length_is aligned inside)
    ∙ ap (λ (place : ℕ). has ((bus.core k).copy addr).marks.bytes place) (offset-of bus.line_length addr x h.length_is aligned inside)

-- ---- a mask that is not empty

record HasByte (mask length : ℕ) : Type 0 where
  pub at : ℕ
  pub below : at < length
  pub there : has mask at ≡ true

-- a mask has a byte below this place, or none
first-byte : (mask length : ℕ) → HasByte mask length ⊎ ((x : ℕ) → x < length → has mask x ≡ false)
first-byte mask zero = inr (λ x lt. absurd (omega arith))
first-byte mask (suc n) =
    elim (has mask n) as (λ b. has mask n ≡ b → HasByte mask (suc n) ⊎ ((x : ℕ) → x < suc n → has mask x ≡ false)) [
      | true ↦ λ e. inl (record { at = n; below = omega arith; there = e })
      | false ↦ λ e. elim (first-byte mask n) [
        | inl byte ↦ inl (record { at = byte.at; below = later byte.below; there = byte.there })
        | inr none ↦ inr (λ x lt. all none e x lt)
      ]
    ] refl
  where
    later : {x : ℕ} → x < n → x < suc n
    later lt = omega arith

    all : ((x : ℕ) → x < n → has mask x ≡ false) → has mask n ≡ false → (x : ℕ) → x < suc n → has mask x ≡ false
    all none e x lt = grind (arith, nat_tests)

no-bit : (mask x : ℕ) → has mask x ≡ false → bit_at mask x ≡ 0
unfolding has
no-bit mask x out = bit (bit_at mask x) (bit_at-lt mask x) out
  where
    bit : (b : ℕ) → b < 2 → (b == 1) ≡ false → b ≡ 0
    bit b lt e = grind (arith, nat_tests)

has-byte : (mask length : ℕ) → IsWithinLine length mask → mask ≢ 0 → HasByte mask length
has-byte mask length within some = elim (first-byte mask length) [
  | inl byte ↦ byte
  | inr none ↦ absurd (some (same_from_bits_below length mask 0 within (pow_pos length) (λ x lt. no-bit mask x (none x lt) ∙ sym (bit_at-zero x))))
]

-- ---- copies in which a core has modified bytes

-- such a copy is marked
pub modified-marked : (copy : LineCopy) (c : ℕ → ℕ) → IsUpToDate copy c → copy.marks.bytes ≢ 0 → is_speculative copy.state ≡ true
modified-marked copy c h some =
    elim (is_speculative copy.state) as (λ b. is_speculative copy.state ≡ b → b ≡ true) [
      | true ↦ λ e. refl
      | false ↦ λ e. absurd (some (h.not_modified e))
    ] refl

unempty : (n : ℕ) → not (n == 0) ≡ true → n ≢ 0
unempty n e = grind (arith, nat_tests)

-- its core may store to the line and tell nobody
pub modified-owns_line : (s : LineState) (marks : Marks) → is_speculative s ≡ true → marks.bytes ≢ 0 → owns_line s marks ≡ true
modified-owns_line I marks e some = cc
modified-owns_line S marks e some = cc
modified-owns_line E marks e some = cc
modified-owns_line M marks e some = cc
modified-owns_line SpS marks e some = nonzero marks.bytes some
modified-owns_line SpE marks e some = refl

-- where it is not alone with the line, it stands in its core's buffer
pub modified-required : (s : LineState) (marks : Marks) → is_speculative s ≡ true → marks.bytes ≢ 0 → is_exclusive s ≡ false
    → requires_ownership s marks ≡ true
modified-required I marks e some shared = cc
modified-required S marks e some shared = cc
modified-required E marks e some shared = cc
modified-required M marks e some shared = cc
modified-required SpS marks e some shared = nonzero marks.bytes some
modified-required SpE marks e some shared = cc

-- the lines of the buffer are such
pub required-modified : (s : LineState) (marks : Marks) → requires_ownership s marks ≡ true → marks.bytes ≢ 0
required-modified I marks e = cc
required-modified S marks e = cc
required-modified E marks e = cc
required-modified M marks e = cc
required-modified SpS marks e = unempty marks.bytes e
required-modified SpE marks e = cc

-- and those to which the core may store, where it is not alone with them
pub owned-modified : (s : LineState) (marks : Marks) → owns_line s marks ≡ true → is_exclusive s ≡ false → marks.bytes ≢ 0
owned-modified I marks e shared = cc
owned-modified S marks e shared = cc
owned-modified E marks e shared = cc
owned-modified M marks e shared = cc
owned-modified SpS marks e shared = unempty marks.bytes e
owned-modified SpE marks e shared = cc

-- the core owns a byte of the line
pub modified-owns : (bus : Bus) (k addr : ℕ) → IsCoherent bus → is_valid ((bus.core k).copy addr).state ≡ true
    → ((bus.core k).copy addr).marks.bytes ≢ 0 → OwnsIn (view_of bus) k addr
modified-owns bus k addr h valid some =
    let byte = has-byte ((bus.core k).copy addr).marks.bytes bus.line_length (h.in_place k addr).mask some in
    let aligned : addr % bus.line_length ≡ 0 = (h.in_place k addr).aligned valid in
    record {
      at = addr + byte.at;
      within = before byte.below (h.inside k addr valid);
      in_line = line-viewed bus h (addr + byte.at) ∙ line-of bus.line_length addr byte.at h.length_is aligned byte.below;
      owned = own-line bus k addr byte.at h aligned byte.below ∙ byte.there;
    }
  where
    before : {x : ℕ} → x < bus.line_length → addr + bus.line_length ≤ bus.shape.size → addr + x < bus.shape.size
    before lt inside = omega arith

-- conversely, in the line of a byte that it owns the core has modified bytes
pub own-modified : (bus : Bus) (k addr a : ℕ) → line_of bus.line_length a ≡ addr → (view_of bus).own k a ≡ true
    → ((bus.core k).copy addr).marks.bytes ≢ 0
own-modified bus k addr a at owned =
    has-nonzero ((bus.core k).copy addr).marks.bytes (offset_of bus.line_length a)
    (ap (λ (line : ℕ). has ((bus.core k).copy line).marks.bytes (offset_of bus.line_length a)) (sym at) ∙ owned)

-- ---- copies that are loaded

-- beside a line that another core has loaded no copy is exclusive
pub loaded-shared : (bus : Bus) (j k addr : ℕ) → IsCoherent bus → addr % bus.line_length ≡ 0 → j ≢ k
    → ((bus.core k).copy addr).marks.loaded ≡ true → is_exclusive ((bus.core j).copy addr).state ≡ false
loaded-shared bus j k addr h aligned apart loaded =
    elim (is_exclusive ((bus.core j).copy addr).state) as (λ b. is_exclusive ((bus.core j).copy addr).state ≡ b → b ≡ false) [
      | true ↦ λ e.
          let marked = loaded-marked ((bus.core k).copy addr) (committed bus addr) ((h.lines addr aligned).up_to_date k) loaded in
          absurd (both_ways (is_valid ((bus.core k).copy addr).state) ((h.lines addr aligned).exclusive j k apart e) (speculative-valid ((bus.core k).copy addr).state marked))
      | false ↦ λ e. refl
    ] refl

-- a core guards whole lines
pub guards-lines : (bus : Bus) → IsCoherent bus → (k a b : ℕ) → View.line_of bus.shape a ≡ View.line_of bus.shape b
    → (view_of bus).guarded k a ≡ true → (view_of bus).guarded k b ≡ true
guards-lines bus h k a b same guarded = sym (guarded-line bus k (line_of bus.line_length b) a (same-line bus h a b same)) ∙ guarded

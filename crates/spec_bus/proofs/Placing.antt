-- The bus of places keeps the store rule as it is seen by addresses.
use Rattle.std.proofs.Common.{◌≡◌, ℕ, ◌/◌, ◌%◌, ◌*◌, ◌<◌, ◌≤◌, ◌+◌, Bool, true, false, min, List, Option, None, Some, is_some, true≢false, slice_index, length, refl, sym, ap, subst, ◌∙◌, arith, inl, inr}
use Rattle.memory_bytes.specs.Bytes.{IsWidth}
use Rattle.rv32_image.specs.declared.apart.Apart.{Apart}
use Rattle.rv32_image.specs.Image.{LoadedImage}
use Rattle.rv32_image.specs.Machine.{IsMachineFor}
use Rattle.rv32_image.specs.declared.machine.Machine.{Machine}
use Rattle.rv32_image.specs.Places.{place, of_places}
use Rattle.rv32_image.proofs.Places.{place-none, place-one, place-inside, place-past, place-word, place-aligned, place-found}
use Rattle.violations.specs.declared.step.Step.{Step}
use Rattle.violations.specs.declared.step.Step.TheVariants.{Done, Wait}
use Rattle.violations.specs.Answers.{MatchStep}
use Rattle.violations.specs.CoreSet.{is_in}
use Rattle.violations.specs.Relabelled.{relabelled, IsRelabelling, OwnsBytes}
use Rattle.violations.specs.Rule.{IsFresh, Begins, Ends, Loads, Stores, Publishes, LoadsStraight, StoresStraight}
use Rattle.violations.specs.View.{Shape, StoreView, IsCommitted, IsSettled, IsLoad, Runs, MayBegin, MayPublish, attempt_of}
use Rattle.violations.proofs.Relabelling
use Rattle.bus_states.specs.Bus.{Bus, line_of, offset_of}
use Rattle.bus_states.specs.Coherent.{speculates}
use Rattle.bus_states.specs.Views.{view_of}
use Rattle.bus_states.proofs.Addresses.{line-aligned, line-inside, offset-aligned}
use Rattle.bus_states.proofs.InLine.{lies-in_line}
use Rattle.bus_states.proofs.AttemptRules.{IsOpened, opened-coherent, opened-is_fresh, opened-ordered}
use Rattle.bus_states.proofs.Ordered.{runs-there, settled}
use Rattle.spec_bus.specs.declared.bus_core.Core.{Core}
use Rattle.spec_bus.specs.declared.parts.Parts.{Parts}
use Rattle.spec_bus.specs.Cached.{CachedView, shape_over, seen}
use Rattle.spec_bus.specs.CachedInside as inside
use Rattle.spec_bus.specs.CachedInside.{IsBus, ArePlaces}
use Rattle.spec_bus.specs.Fresh.{fresh_bus, by_places, AreIdle}
use Rattle.spec_bus.specs.Parts.{bus_in, bus_of, IsAccessIn, IsStraightIn}
use Rattle.spec_bus.proofs.Idle.{fresh_is, fresh_opened}
use Rattle.spec_bus.proofs.Laying.{by_places-byte, by_places-length, of_places-fits}

-- the shape of the store over this bus, and its places
abbrev pub shape_of : ℕ → Option Apart → Parts → Shape
shape_of size apart parts = shape_over size apart (bus_in parts).shape

abbrev pub place_in : ℕ → Option Apart → Parts → ℕ → ℕ
place_in size apart parts a = place (shape_of size apart parts).machine size a

-- one past memory counts as its end
abbrev pub place_at : ℕ → Option Apart → Parts → ℕ → ℕ
place_at size apart parts a = place_in size apart parts (min a size)

pub at_address : (size : ℕ) (apart : Option Apart) (parts : Parts) (a : ℕ) → a < size → place_at size apart parts a ≡ place_in size apart parts a
at_address size apart parts a lt = let same : min a size ≡ a = omega arith in ap (place_in size apart parts) same

-- the parts as contracts see them
abbrev pub shown : ℕ → Option Apart → Parts → CachedView
shown size apart parts = inside.view_of (record { parts = parts; size = size; apart = apart })

pub relabels : (size : ℕ) (apart : Option Apart) (parts : Parts) → IsBus parts → ArePlaces size apart parts
    → IsRelabelling (place_in size apart parts) (shape_of size apart parts) (bus_in parts).shape
relabels size apart parts b p = record {
  one = λ x y. place-one (shape_of size apart parts).machine size x y p.fits;
  word = λ address width i wide aligned lt.
      place-word (shape_of size apart parts).machine size width address i p.fits (record { wide = wide; aligned = aligned; inside = lt });
  aligned = λ address width wide aligned. place-aligned (shape_of size apart parts).machine size width address p.fits wide aligned;
  inside = λ x lt. subst (λ n. place_in size apart parts x < n) (sym p.long) (place-inside (shape_of size apart parts).machine size x p.fits lt);
  past = λ x le. subst (λ n. n ≤ place_in size apart parts x) (sym p.long) (place-past (shape_of size apart parts).machine size x p.fits le);
  line = λ x. ap (λ q. parts.machine.line_length * (q / parts.machine.line_length))
      (place-none parts.machine (length parts.memory.items) (place_in size apart parts x) b.coherent.of_places);
  cores = refl;
  buffer_lines = refl;
  found = λ q. place-found (shape_of size apart parts).machine size q p.fits;
}

-- an access of memory, at its place
pub access_at : (size : ℕ) (apart : Option Apart) (parts : Parts) (address width : ℕ) → IsBus parts → ArePlaces size apart parts
    → IsLoad (shape_of size apart parts) address width → IsLoad (bus_in parts).shape (place_in size apart parts address) width
access_at size apart parts address width b p access =
    Relabelling.load-at_place (place_in size apart parts) (shape_of size apart parts) (bus_in parts).shape (relabels size apart parts b p) address width access

pub access_within : (shape : Shape) (address width : ℕ) → IsLoad shape address width → address < shape.size
access_within shape address width access = pick width access.wide access.within
  where
    pick : (width : ℕ) → IsWidth width → address + width ≤ shape.size → address < shape.size
    pick width (inl one) within = omega arith
    pick width (inr (inl two)) within = omega arith
    pick width (inr (inr four)) within = omega arith

-- the same, of the place that the code has found
pub access_under : (size : ℕ) (apart : Option Apart) (parts : Parts) (address width p : ℕ) → IsBus parts → ArePlaces size apart parts
    → IsLoad (shape_of size apart parts) address width → p ≡ place_at size apart parts address → IsLoad (bus_in parts).shape p width
access_under size apart parts address width p b places access is =
    subst (λ q. IsLoad (bus_in parts).shape q width)
    (sym (is ∙ at_address size apart parts address (access_within (shape_of size apart parts) address width access)))
    (access_at size apart parts address width b places access)

-- it lies in its line
pub ends_in_line : (parts : Parts) (p width : ℕ) → IsBus parts → IsLoad (bus_in parts).shape p width
    → offset_of parts.machine.line_length p + width ≤ parts.machine.line_length
ends_in_line parts p width b access = (lies-in_line parts.machine.line_length (bus_in parts).shape p width b.coherent.length_is b.coherent.whole_lines access).ends

-- its line is one of memory
line_inside : (parts : Parts) (p width line : ℕ) → IsBus parts → IsLoad (bus_in parts).shape p width
    → line ≡ line_of parts.machine.line_length p → line + parts.machine.line_length ≤ length parts.memory.items
line_inside parts p width line b access is =
    subst (λ l. l + parts.machine.line_length ≤ length parts.memory.items) (sym is)
    (line-inside parts.machine.line_length (length parts.memory.items) p b.coherent.length_is b.coherent.whole_lines
    (access_within (bus_in parts).shape p width access))

pub access_in : (parts : Parts) (core p width line : ℕ) → IsBus parts → core < length parts.cores.items → IsLoad (bus_in parts).shape p width
    → line ≡ line_of parts.machine.line_length p → IsAccessIn parts core line (offset_of parts.machine.line_length p) width
access_in parts core p width line b there access is = record {
  there = there;
  line = ap (λ l. l % parts.machine.line_length) is ∙ line-aligned parts.machine.line_length p b.coherent.length_is;
  coherent = b.coherent;
  inside = line_inside parts p width line b access is;
  in_line = ends_in_line parts p width b access;
  wide = access.wide;
  aligned = offset-aligned parts.machine.line_length p width b.coherent.length_is access.wide access.aligned;
}

-- and a core whose attempt is straight doesn't speculate
pub straight_in : (parts : Parts) (core p width line : ℕ) → IsBus parts → Runs (view_of (bus_in parts)) core true
    → IsLoad (bus_in parts).shape p width → line ≡ line_of parts.machine.line_length p
    → IsStraightIn parts core line (offset_of parts.machine.line_length p) width
straight_in parts core p width line b runs access is =
    record {
      access = access_in parts core p width line b (runs-there (bus_in parts) core (attempt_of runs.epoch true) b.coherent runs.is) access is;
      straight = ap speculates runs.is;
    }

-- what a call asks of the store, it asks of the bus
pub runs_under : (size : ℕ) (apart : Option Apart) (parts : Parts) (core : ℕ) (straight : Bool) → Runs (seen size apart (view_of (bus_in parts))) core straight
    → Runs (view_of (bus_in parts)) core straight
runs_under size apart parts core straight r = record { epoch = r.epoch; is = r.is }

pub begin_under : (size : ℕ) (apart : Option Apart) (parts : Parts) (core epoch : ℕ) → MayBegin (seen size apart (view_of (bus_in parts))) core epoch
    → MayBegin (view_of (bus_in parts)) core epoch
begin_under size apart parts core epoch m = record { there = m.there; idle = m.idle; new = m.new; after_straight = m.after_straight }

pub publish_under : (size : ℕ) (apart : Option Apart) (parts : Parts) (core : ℕ) → MayPublish (seen size apart (view_of (bus_in parts))) core
    → MayPublish (view_of (bus_in parts)) core
publish_under size apart parts core m = record { epoch = m.epoch; is = m.is; first = m.first }

pub seen_settled : (size : ℕ) (apart : Option Apart) (parts : Parts) → IsBus parts → ArePlaces size apart parts → IsSettled (seen size apart (view_of (bus_in parts)))
seen_settled size apart parts b p =
    Relabelling.settled-at (place_in size apart parts) (shape_of size apart parts) (view_of (bus_in parts)) (relabels size apart parts b p)
    (settled (bus_in parts) b.coherent b.ordered)

-- the place of a byte of memory lies on the bus
pub place_inside : (size : ℕ) (apart : Option Apart) (parts : Parts) (a : ℕ) → ArePlaces size apart parts → a < size
    → place_at size apart parts a < length parts.memory.items
place_inside size apart parts a p lt =
    subst (λ n. place_at size apart parts a < n) (sym p.long)
    (subst (λ q. q < place_in size apart parts size) (sym (at_address size apart parts a lt)) (place-inside (shape_of size apart parts).machine size a p.fits lt))

pub none_is : (apart : Option Apart) → is_some apart ≡ false → apart ≡ None
none_is None e = refl
none_is (Some x) e = absurd (true≢false e)

-- committed memory, where places are addresses, and read at the places of its bytes
pub committed_as_is : (size : ℕ) (apart : Option Apart) (parts : Parts) (bytes : List ℕ) → ArePlaces size apart parts → apart ≡ None
    → IsCommitted (view_of (bus_in parts)) bytes → IsCommitted (seen size apart (view_of (bus_in parts))) bytes
committed_as_is size apart parts bytes p none is =
    let at : (a : ℕ) → place_in size apart parts a ≡ a = λ a. place-none (shape_of size apart parts).machine size a none in
    let long : length parts.memory.items ≡ size = p.long ∙ at size in record {
      long = is.long ∙ long;
      byte = λ a lt. is.byte a (subst (λ n. a < n) (sym long) lt) ∙ ap (view_of (bus_in parts)).committed (sym (at a));
    }

pub committed_apart : (size : ℕ) (apart : Option Apart) (parts : Parts) (places bytes : List ℕ) → ArePlaces size apart parts
    → IsCommitted (view_of (bus_in parts)) places → length bytes ≡ size
    → ((a : ℕ) → a < size → slice_index bytes a ≡ slice_index places (place_at size apart parts a)) → IsCommitted (seen size apart (view_of (bus_in parts))) bytes
committed_apart size apart parts places bytes p is long each = record {
  long = long;
  byte = λ a lt.
      each a lt
      ∙ (is.byte (place_at size apart parts a) (place_inside size apart parts a p lt)
      ∙ ap (view_of (bus_in parts)).committed (at_address size apart parts a lt));
}

-- ---- after a call

module _ (size : ℕ) (apart : Option Apart) (old new : Parts) (b : IsBus old) (p : ArePlaces size apart old) where
  abbrev before : StoreView
  before = view_of (bus_in old)

  abbrev after : StoreView
  after = view_of (bus_in new)

  abbrev at : ℕ → ℕ
  at = place_in size apart old

  abbrev shape : Shape
  shape = shape_of size apart old

  labels : IsRelabelling at shape before.shape
  labels = relabels size apart old b p

  settled_after : IsBus new → IsSettled after
  settled_after c = settled (bus_in new) c.coherent c.ordered

  -- the places are as they were
  keeps : after.shape ≡ before.shape → OwnsBytes at after → ArePlaces size apart new
  keeps same owns = record {
    fits = subst (λ (s : Shape). IsMachineFor size (shape_over size apart s).machine) (sym same) p.fits;
    small = p.small;
    long = subst (λ (s : Shape). s.size ≡ place (shape_over size apart s).machine size size) (sym same) p.long;
    bytes = subst (λ (s : Shape). OwnsBytes (place (shape_over size apart s).machine size) after) (sym same) owns;
  }

  carried : (R : StoreView → Type 0) → after.shape ≡ before.shape → R (relabelled at shape after) → R (seen size apart after)
  carried R same r = subst (λ (s : Shape). R (relabelled (place (shape_over size apart s).machine size) (shape_over size apart s) after)) (sym same) r

  pub seen-begins : (core epoch : ℕ) → Begins before after core epoch → Begins (seen size apart before) (seen size apart after) core epoch
  seen-begins core epoch r =
      carried (λ w. Begins (seen size apart before) w core epoch) r.shape (Relabelling.begins-at at shape before after core epoch r)

  pub begun-places : (core epoch : ℕ) → Begins before after core epoch → ArePlaces size apart new
  begun-places core epoch r = keeps r.shape (Relabelling.owns-begun at before after core epoch p.bytes r)

  pub seen-ends : (core : ℕ) → Ends before after core → Ends (seen size apart before) (seen size apart after) core
  seen-ends core r = carried (λ w. Ends (seen size apart before) w core) r.shape (Relabelling.ends-at at shape before after core r)

  pub ended-places : (core : ℕ) → Ends before after core → ArePlaces size apart new
  ended-places core r = keeps r.shape (Relabelling.owns-ended at before after core p.bytes r)

  pub seen-publishes : (core : ℕ) (hurt : ℕ → Bool) → Publishes before after core hurt → Publishes (seen size apart before) (seen size apart after) core hurt
  seen-publishes core hurt r =
      carried (λ w. Publishes (seen size apart before) w core hurt) r.shape (Relabelling.publishes-at at shape before after labels p.bytes core hurt r)

  pub published-places : (core : ℕ) (hurt : ℕ → Bool) → IsBus new → Publishes before after core hurt → ArePlaces size apart new
  published-places core hurt c r = keeps r.shape (Relabelling.owns-published at before after core hurt p.bytes (settled_after c) r)

  module _ (core address width : ℕ) (access : IsLoad shape address width) where
    pub seen-loads : (step : Step) → MatchStep step (λ value hurt. Loads before after core (at address) width value hurt) (new ≡ old)
        → MatchStep step (λ value hurt. Loads (seen size apart before) (seen size apart after) core address width value hurt) (shown size apart new ≡ shown size apart old)
    seen-loads (Done value hurt) r =
        carried (λ w. Loads (seen size apart before) w core address width value (is_in hurt)) r.shape
        (Relabelling.loads-at at shape before after labels p.bytes core address width access value (is_in hurt) r)
    seen-loads (Wait cause) same = ap (shown size apart) same

    pub loaded-places : (step : Step) → IsBus new → MatchStep step (λ value hurt. Loads before after core (at address) width value hurt) (new ≡ old) → ArePlaces size apart new
    loaded-places (Done value hurt) c r = keeps r.shape (Relabelling.owns-loaded at before after core (at address) width value (is_in hurt) p.bytes (settled_after c) r)
    loaded-places (Wait cause) c same = subst (λ (parts : Parts). ArePlaces size apart parts) (sym same) p

    pub seen-stores : (step : Step) (value : ℕ)
        → MatchStep step (λ answer hurt. (answer ≡ 0) × Stores before after core (at address) width value hurt) (new ≡ old)
        → MatchStep step (λ answer hurt. (answer ≡ 0) × Stores (seen size apart before) (seen size apart after) core address width value hurt) (shown size apart new ≡ shown size apart old)
    seen-stores (Done answer hurt) value r = (
      r.0,
      carried (λ w. Stores (seen size apart before) w core address width value (is_in hurt)) r.1.shape
          (Relabelling.stores-at at shape before after labels p.bytes core address width access value (is_in hurt) r.1),
    )
    seen-stores (Wait cause) value same = ap (shown size apart) same

    pub stored-places : (step : Step) (value : ℕ) → IsBus new
        → MatchStep step (λ answer hurt. (answer ≡ 0) × Stores before after core (at address) width value hurt) (new ≡ old) → ArePlaces size apart new
    stored-places (Done answer hurt) value c r =
        keeps r.1.shape (Relabelling.owns-stored at shape before after core address width value (is_in hurt) labels access p.bytes (settled_after c) r.1)
    stored-places (Wait cause) value c same = subst (λ (parts : Parts). ArePlaces size apart parts) (sym same) p

    pub seen-loads_straight : (value : ℕ) (hurt : ℕ → Bool) → LoadsStraight before after core (at address) width value hurt
        → LoadsStraight (seen size apart before) (seen size apart after) core address width value hurt
    seen-loads_straight value hurt r =
        carried (λ w. LoadsStraight (seen size apart before) w core address width value hurt) r.shape
        (Relabelling.loads_straight-at at shape before after labels p.bytes core address width access value hurt r)

    pub loaded_straight-places : (value : ℕ) (hurt : ℕ → Bool) → IsBus new → Runs before core true → LoadsStraight before after core (at address) width value hurt → ArePlaces size apart new
    loaded_straight-places value hurt c runs r =
        keeps r.shape (Relabelling.owns-loaded_straight at before after core (at address) width value hurt p.bytes (settled_after c) runs r)

    pub seen-stores_straight : (value : ℕ) (hurt : ℕ → Bool) → StoresStraight before after core (at address) width value hurt
        → StoresStraight (seen size apart before) (seen size apart after) core address width value hurt
    seen-stores_straight value hurt r =
        carried (λ w. StoresStraight (seen size apart before) w core address width value hurt) r.shape
        (Relabelling.stores_straight-at at shape before after labels p.bytes core address width access value hurt r)

    pub stored_straight-places : (value : ℕ) (hurt : ℕ → Bool) → IsBus new → Runs before core true → StoresStraight before after core (at address) width value hurt → ArePlaces size apart new
    stored_straight-places value hurt c runs r =
        keeps r.shape (Relabelling.owns-stored_straight at before after core (at address) width value hurt p.bytes (settled_after c) runs r)

-- ---- a new bus

module _ (image : LoadedImage) (cores : ℕ) (fits : IsMachineFor image.size image.machine) (long : length image.bytes ≡ image.size) where
  abbrev made_bus : Bus
  made_bus = fresh_bus (by_places image) cores

  pub fresh-opened : IsOpened made_bus (by_places image) cores
  fresh-opened = fresh_opened (by_places image) cores (of_places-fits image.machine image.size fits) refl

  -- idle cores, and the image's memory by places
  pub fresh-made : (code : ℕ) (machine : Machine) (idle : List Core) (memory : List ℕ) → length idle ≡ cores → AreIdle (of_places machine) idle
      → memory ≡ (by_places image).bytes → code ≡ image.code → machine ≡ image.machine → bus_of code (of_places machine) idle memory ≡ made_bus
  fresh-made code machine idle memory count are_idle bytes code_is is =
      fresh_is (by_places image) cores code (of_places machine) idle memory count (ap length bytes ∙ by_places-length image fits long) code_is
      (ap of_places is) bytes (subst (λ (m : Machine). AreIdle m idle) (ap of_places is) are_idle)

  -- its store is new
  pub fresh-seen : (size : ℕ) (apart : Option Apart) (bus : Bus) → size ≡ image.size → apart ≡ image.machine.apart → bus ≡ made_bus
      → IsFresh image cores (seen size apart (view_of bus))
  fresh-seen size apart bus size_is apart_is is =
      let new = opened-is_fresh made_bus (by_places image) cores fresh-opened in
      subst (λ n. IsFresh image cores (seen n apart (view_of bus))) (sym size_is)
      (subst (λ (a : Option Apart). IsFresh image cores (seen image.size a (view_of bus))) (sym apart_is)
      (subst (λ (b : Bus). IsFresh image cores (seen image.size image.machine.apart (view_of b))) (sym is) (record {
        shape = refl;
        committed = λ a. new.committed (place image.machine image.size a) ∙ by_places-byte image fits long a;
        idle = new.idle;
      })))

  in_places : image.size ≤ 1048576 → (parts : Parts) → bus_in parts ≡ made_bus → ArePlaces image.size image.machine.apart parts
  in_places small parts is =
      let new = opened-is_fresh made_bus (by_places image) cores fresh-opened in
      let keeps = settled made_bus (opened-coherent made_bus (by_places image) cores fresh-opened) (opened-ordered made_bus (by_places image) cores fresh-opened) in record {
        fits = subst (λ (b : Bus). IsMachineFor image.size (shape_over image.size image.machine.apart b.shape).machine) (sym is) fits;
        small = small;
        long = subst (λ (b : Bus). b.shape.size ≡ place (shape_over image.size image.machine.apart b.shape).machine image.size image.size) (sym is) refl;
        bytes =
            subst (λ (b : Bus). OwnsBytes (place (shape_over image.size image.machine.apart b.shape).machine image.size) (view_of b)) (sym is)
            (record { none = λ k p none. (keeps.idle k (new.idle k)).own p });
      }

  pub fresh-places : image.size ≤ 1048576 → (size : ℕ) (apart : Option Apart) (parts : Parts) → size ≡ image.size
      → apart ≡ image.machine.apart → bus_in parts ≡ made_bus → ArePlaces size apart parts
  fresh-places small size apart parts size_is apart_is is =
      subst (λ n. ArePlaces n apart parts) (sym size_is)
      (subst (λ (a : Option Apart). ArePlaces image.size a parts) (sym apart_is) (in_places small parts is))

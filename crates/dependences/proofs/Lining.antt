-- One epoch and the lines of the caches: in which it stores, and which it reads in which others have stored.
use Rattle.std.proofs.Common.{◌≡◌, ◌≢◌, ◌⊎◌, ℕ, zero, suc, ◌+◌, ◌-◌, ◌/◌, ◌==◌, ◌<◌, ◌≤◌, Bool, true, false, cond, List, length, slice_index, Option, Some, None, refl, sym, ap, subst, ◌∙◌, inl, inr, arith, add-one}
use Rattle.std.proofs.lemmas.Bool.{cases_eq, cases_lt}
use Rattle.std.proofs.lemmas.Bool.Decides.{nat_tests}
use Rattle.rv32_image.specs.Image.{LoadedImage}
use Rattle.memory_bytes.specs.Bytes.{number_at, with_number}
use Rattle.memory_bytes.specs.Maps.{first_of, joined, nothing, stored}
use Rattle.memory_bytes.proofs.Bytes.{stored_within}
use Rattle.rv32_exec.specs.declared.stop.Stop.TheVariants as stop
use Rattle.rv32_exec.specs.Hart.{HartState, start_of, stepped}
use Rattle.rv32_exec.specs.NextEvent.{next_event}
use Rattle.rv32_exec.specs.Arrival.{after_number}
use Rattle.rv32_exec.specs.Sequential.{after_stop}
use Rattle.rv32_exec.specs.Laws.{HasStopped}
use Rattle.spec_history.specs.Conflict.{line_number}
use Rattle.spec_history.proofs.OneEntry.Accesses.{load_counts}
use Rattle.epoch_paths.specs.Paths.{ReadsOutside, Stores}
use Rattle.epoch_paths.specs.InOrder.{IsInOrder}
use Rattle.dependences.specs.Conflict.{LineConflictInOrder, first_beside, run_memory}
use Rattle.dependences.specs.KeptOwn.{AreLong, HasStored}
use Rattle.dependences.specs.KeptLines.{AreLinesKept, AreStored, IsLastOf, LastTwo, Lines, MeetsLine, MeetsNone, StoresInLine, other_before}
use Rattle.dependences.specs.KeptWatch.{InLines}
use Rattle.epoch_paths.proofs.Paths.{at_start, covered, either, load_after, neither, past_load, past_store, path_stores, reads_there, start_after, store_after}
use Rattle.epoch_paths.proofs.Following.{all_loaded, all_stored, outside}
use Rattle.epoch_paths.proofs.Outside.{OnPath, read_by_load, read_by_store, seen_now}
use Rattle.dependences.proofs.SmallFacts.{either_some}

-- ---- who stored in a line last

writer_other_by : (b : Bool) (last before epoch : ℕ) → (last == epoch + 1) ≡ b → last ≢ epoch + 1 → cond b before last ≡ last
writer_other_by true last before epoch is other = absurd (grind (arith, nat_tests))
writer_other_by false last before epoch is other = refl

pub writer_other : (s : LastTwo) (epoch line : ℕ) → slice_index s.last line ≢ epoch + 1 → other_before s epoch line ≡ slice_index s.last line
writer_other s epoch line other = writer_other_by (slice_index s.last line == epoch + 1) (slice_index s.last line) (slice_index s.before line) epoch refl other

pub last_low : (P : ℕ → Type 0) (epoch w : ℕ) → IsLastOf P epoch w → w ≤ epoch
last_low P epoch zero is = omega arith
last_low P epoch (suc d) is = let low = is.0 in omega (arith, low)

-- one from `first` on
pub some_from : (P : ℕ → Type 0) (epoch w first : ℕ) → IsLastOf P epoch w → first < w → (d : ℕ) × (first ≤ d) × (d < epoch) × P d
some_from P epoch zero first is less = absurd (omega (arith, less))
some_from P epoch (suc d) first is less = (d, omega (arith, less), is.0, is.1)

pub none_from : (P : ℕ → Type 0) (epoch w first : ℕ) → IsLastOf P epoch w → w ≤ first → (d : ℕ) → first ≤ d → d < epoch → P d → ⊥
none_from P epoch zero first is most d from low p = is d low p
none_from P epoch (suc e) first is most d from low p = let last = is.2 d low p in omega (arith, last, most, from)

pub last_now : (P : ℕ → Type 0) (epoch w : ℕ) → w ≡ epoch + 1 → P epoch → IsLastOf P (epoch + 1) w
last_now P epoch w is p =
    subst (λ n. IsLastOf P (epoch + 1) n) (sym (is ∙ add-one epoch)) (omega arith, p, λ d low q. omega (arith, low))

pub last_still : (P : ℕ → Type 0) (epoch w : ℕ) → IsLastOf P epoch w → (P epoch → ⊥) → IsLastOf P (epoch + 1) w
last_still P epoch zero is none = λ d low p. elim (cases_eq d epoch) [
  | inl e ↦ none (subst P e p)
  | inr other ↦ is d (omega (arith, low, other)) p
]
last_still P epoch (suc w) is none =
    let less = is.0 in (
      omega (arith, less),
      is.1,
      λ d low p. elim (cases_eq d epoch) [
        | inl e ↦ absurd (none (subst P e p))
        | inr other ↦ is.2 d (omega (arith, low, other)) p
      ],
    )

-- whether a line is that of one of these bytes
pub among : (image : LoadedImage) (l address width : ℕ) → ((i : ℕ) × (i < width) × (l ≡ line_number image (address + i))) ⊎ ((i : ℕ) → i < width → l ≢ line_number image (address + i))
among image l address zero = inr (λ i low. absurd (omega (arith, low)))
among image l address (suc width) = elim (cases_eq l (line_number image (address + width))) [
  | inl e ↦ inl (width, omega arith, e)
  | inr other ↦ elim (among image l address width) [
    | inl one ↦ (let low = one.1 in inl (one.0, omega (arith, low), one.2))
    | inr none ↦ inr (λ i low. elim (cases_eq i width) [
      | inl e ↦ subst (λ n. l ≢ line_number image (address + n)) (sym e) other
      | inr less ↦ none i (omega (arith, low, less))
    ])
  ]
]

-- ---- while the epoch runs

not_noted : (image : LoadedImage) (cores epoch line : ℕ) (s : Lines) → AreLinesKept image cores epoch s → slice_index s.two.last line ≢ epoch + 1
not_noted image cores epoch line s kept = let low = last_low (StoresInLine image cores line) epoch (slice_index s.two.last line) (kept.writer line) in omega (arith, low)

pub lines_start : (image : LoadedImage) (cores epoch : ℕ) (memory : List ℕ) (s : Lines) → length memory ≡ image.size → AreLinesKept image cores epoch s
    → InLines image cores epoch memory memory s (start_of image epoch)
lines_start image cores epoch memory s long kept = record {
  stored = nothing;
  at = at_start image epoch memory long;
  is = start_after image epoch memory long;
  own_long = kept.own;
  lines = kept.lines;
  mine = λ a byte is written. absurd cc;
  others = λ a none has. let owner = kept.owner (a / 16) in let same = has.0 in omega (arith, owner, same);
  owner = λ block. let low = kept.owner block in omega (arith, low);
  writer = λ line.
      subst (λ w. IsLastOf (StoresInLine image cores line) epoch w) (sym (writer_other s.two epoch line (not_noted image cores epoch line s kept))) (kept.writer line);
  noted = λ line is. absurd (not_noted image cores epoch line s kept is);
  all = λ a byte is. absurd cc;
  none = λ a d reads before. absurd (omega (arith, before));
}

module _ (image : LoadedImage) (cores epoch : ℕ) (memory now : List ℕ) (s : Lines) (h : HartState) (x : InLines image cores epoch memory now s h) where
  -- ---- a load

  foreign : (a : ℕ) → (HasStored s.own epoch a → ⊥) → first_beside cores epoch < other_before s.two epoch (line_number image a) → (o : Option ℕ) → x.stored a ≡ o → x.stored a ≡ None
  foreign a other written (Some byte) is = absurd (other (x.mine a byte is written))
  foreign a other written None is = is

  conflict_by : (address width : ℕ) (signed : Bool) (rd : ℕ) → (next_event image h).at ≡ stop.Load address width signed rd → memory ≡ run_memory image cores epoch
      → epoch < image.epochs → IsInOrder image (first_beside cores epoch) → (m : MeetsLine image s epoch (first_beside cores epoch) address width)
      → (d : ℕ) × (first_beside cores epoch ≤ d) × (d < epoch) × StoresInLine image cores (line_number image (address + m.i)) d
      → (c : LineConflictInOrder image cores) × (c.later ≡ epoch)
  conflict_by address width signed rd is same within starts m (d, from, low, p) =
      let inside = m.within in
      let none = foreign (address + m.i) m.foreign m.written (x.stored (address + m.i)) refl in (
        record {
          earlier = d;
          later = epoch;
          written = p.at;
          read = address + m.i;
          beside = record { from = from; before = low; within = within; starts = starts };
          same = p.in_line;
          stores = p.stores;
          reads = subst (λ n. ReadsOutside image epoch n (address + m.i)) same
              (reads_there image epoch memory h x.stored x.at address width signed rd (address + m.i) is (omega arith) (omega (arith, inside)) none);
        },
        refl,
      )

  pub line_conflict : (address width : ℕ) (signed : Bool) (rd : ℕ) → (next_event image h).at ≡ stop.Load address width signed rd → memory ≡ run_memory image cores epoch
      → epoch < image.epochs → IsInOrder image (first_beside cores epoch) → MeetsLine image s epoch (first_beside cores epoch) address width
      → (c : LineConflictInOrder image cores) × (c.later ≡ epoch)
  line_conflict address width signed rd is same within starts m =
      conflict_by address width signed rd is same within starts m
      (some_from (StoresInLine image cores (line_number image (address + m.i))) epoch _ (first_beside cores epoch) (x.writer (line_number image (address + m.i))) m.written)

  unmet_by : (address width a d : ℕ) → (MeetsLine image s epoch (first_beside cores epoch) address width → ⊥) → (address ≤ a) × (a < address + width) × (x.stored a ≡ None)
      → first_beside cores epoch ≤ d → d < epoch → StoresInLine image cores (line_number image a) d → ⊥
  unmet_by address width a d unmet (from, below, none) first low p =
      let place : address + (a - address) ≡ a = omega (arith, from) in
      let most : other_before s.two epoch (line_number image a) ≤ first_beside cores epoch = elim (cases_lt (first_beside cores epoch) (other_before s.two epoch (line_number image a))) [
        | inl less ↦ absurd (unmet (record {
          i = a - address;
          within = omega (arith, from, below);
          foreign = subst (λ b. HasStored s.own epoch b → ⊥) (sym place) (x.others a none);
          written = subst (λ b. first_beside cores epoch < other_before s.two epoch (line_number image b)) (sym place) less;
        }))
        | inr most ↦ most
      ] in none_from (StoresInLine image cores (line_number image a)) epoch _ (first_beside cores epoch) (x.writer (line_number image a)) most d first low p

  pub lines_load : (address width : ℕ) (signed : Bool) (rd value : ℕ) → (next_event image h).at ≡ stop.Load address width signed rd
      → number_at (λ a. slice_index now a) address width ≡ value → (MeetsLine image s epoch (first_beside cores epoch) address width → ⊥)
      → InLines image cores epoch memory now s (after_number (next_event image h).now (next_event image h).at value)
  lines_load address width signed rd value is number unmet =
      let seen = seen_now image epoch memory now h x.stored x.at x.is address width value number in
      let count = load_counts image h address width signed rd value is in record {
        stored = x.stored;
        at = past_load image epoch memory h x.stored address width signed rd value x.at is seen;
        is = load_after image epoch memory h x.stored address width signed rd value x.at is seen ∙ x.is;
        own_long = x.own_long;
        lines = x.lines;
        mine = x.mine;
        others = x.others;
        owner = x.owner;
        writer = x.writer;
        noted = x.noted;
        all = x.all;
        none = λ a d reads before first low p. elim (read_by_load image epoch memory h x.stored x.at address width signed rd a is reads (omega (arith, before, count))) [
          | inl early ↦ x.none a d reads early first low p
          | inr here ↦ unmet_by address width a d unmet here first low p
        ];
      }

  -- ---- a store

  module _ (s' : Lines) (address width value : ℕ) (are : AreStored image s s' epoch (first_beside cores epoch) address width) where
    own_still : (a : ℕ) → HasStored s.own epoch a → HasStored s'.own epoch a
    own_still a was = elim are.own [
      | inl same ↦ rw same was
      | inr own ↦ own.still a was
    ]

    own_others : (a : ℕ) → stored address width value a ≡ None → HasStored s'.own epoch a → HasStored s.own epoch a
    own_others a none has = elim are.own [
      | inl same ↦ rw (← same) has
      | inr own ↦ own.others a (outside address width value a none) has
    ]

    own_owner : (block : ℕ) → slice_index s'.own.by block ≤ epoch + 1
    own_owner block = elim are.own [
      | inl same ↦ rw same (x.owner block)
      | inr own ↦ elim (own.by block) [
        | inl before ↦ (let low = x.owner block in omega (arith, before, low))
        | inr now ↦ omega (arith, now)
      ]
    ]

    own_long : AreLong s'.own image.size
    own_long = elim are.own [
      | inl same ↦ rw same x.own_long
      | inr own ↦ record { by = own.by_long ∙ x.own_long.by; bits = own.bits_long ∙ x.own_long.bits }
    ]

    mine_by : (a byte : ℕ) → (o : Option ℕ) → stored address width value a ≡ o → ((b : ℕ) × (stored address width value a ≡ Some b)) ⊎ (x.stored a ≡ Some byte)
        → first_beside cores epoch < other_before s.two epoch (line_number image a) → HasStored s'.own epoch a
    mine_by a byte (Some b) is either written =
        let within = covered address width value a b is in
        let from = within.0 in
        let below = within.1 in
        let place : address + (a - address) ≡ a = omega (arith, from) in
        let i_low : a - address < width = omega (arith, from, below) in
        let own = are.kept (a - address) i_low (subst (λ b'. first_beside cores epoch < other_before s.two epoch (line_number image b')) (sym place) written) in
        subst (HasStored s'.own epoch) place (own.here (a - address) i_low)
    mine_by a byte None is (inl now) written = let some = now.1 in absurd cc
    mine_by a byte None is (inr before) written = own_still a (x.mine a byte before written)

  all_by : (s' : Lines) (address width value a byte : ℕ) → AreStored image s s' epoch (first_beside cores epoch) address width
      → ((b : ℕ) × (stored address width value a ≡ Some b)) ⊎ (x.stored a ≡ Some byte) → slice_index s'.two.last (line_number image a) ≡ epoch + 1
  all_by s' address width value a byte are (inl now) =
      let within = covered address width value a now.0 now.1 in
      let from = within.0 in
      let below = within.1 in
      let place : address + (a - address) ≡ a = omega (arith, from) in
      subst (λ b. slice_index s'.two.last (line_number image b) ≡ epoch + 1) place (are.lines.here (a - address) (omega (arith, from, below)))
  all_by s' address width value a byte are (inr before) = elim (among image (line_number image a) address width) [
    | inl one ↦ ap (slice_index s'.two.last) one.2 ∙ are.lines.here one.0 one.1
    | inr none ↦ are.lines.others (line_number image a) none ∙ x.all a byte before
  ]

  noted_by : (s' : Lines) (address width value line : ℕ) → AreStored image s s' epoch (first_beside cores epoch) address width → slice_index s'.two.last line ≡ epoch + 1
      → (a : ℕ) × (byte : ℕ) × (line_number image a ≡ line) × (joined (stored address width value) x.stored a ≡ Some byte)
  noted_by s' address width value line are is = elim (among image line address width) [
    | inl one ↦
        (let low = one.1 in
        (address + one.0, _, sym one.2, ap (λ o. first_of o (x.stored (address + one.0))) (stored_within address width value (address + one.0) (omega arith) (omega (arith, low)))))
    | inr none ↦
        (let before = x.noted line (sym (are.lines.others line none) ∙ is) in
        let now = either_some (stored address width value before.0) (x.stored before.0) before.1 before.3 in (before.0, now.0, before.2, now.1))
  ]

  pub lines_store : (s' : Lines) (address width value : ℕ) → (next_event image h).at ≡ stop.Store address width value → AreStored image s s' epoch (first_beside cores epoch) address width
      → InLines image cores epoch memory (with_number now address width value) s' (stepped (next_event image h).now)
  lines_store s' address width value is are = record {
    stored = joined (stored address width value) x.stored;
    at = past_store image epoch memory h x.stored address width value x.at is;
    is = store_after image epoch memory h x.stored address width value x.at is ∙ ap (λ m. with_number m address width value) x.is;
    own_long = own_long s' address width value are;
    lines = record { last = are.lines.last_long ∙ x.lines.last; before = are.lines.before_long ∙ x.lines.before };
    mine = λ a byte some written.
        mine_by s' address width value are a byte (stored address width value a) refl (either (stored address width value a) (x.stored a) byte some) (rw (← are.lines.other (line_number image a)) written);
    others = λ a none.
        let parts = neither (stored address width value a) (x.stored a) none in
        λ has. x.others a parts.1 (own_others s' address width value are a parts.0 has);
    owner = own_owner s' address width value are;
    writer = λ line. rw (are.lines.other line) (x.writer line);
    noted = λ line noted. noted_by s' address width value line are noted;
    all = λ a byte some. all_by s' address width value a byte are (either (stored address width value a) (x.stored a) byte some);
    none = λ a d reads before. x.none a d reads (read_by_store image epoch memory h x.stored x.at address width value a is reads before);
  }

  -- ---- the end

  none_here : HasStopped (after_stop (next_event image h).now x.at.after (next_event image h).at) → memory ≡ run_memory image cores epoch → (line : ℕ)
      → slice_index s.two.last line ≢ epoch + 1 → (p : StoresInLine image cores line epoch) → (o : Option ℕ) → x.stored p.at ≡ o → ⊥
  none_here stopped same line other p (Some byte) is = other (sym (ap (slice_index s.two.last) p.in_line) ∙ x.all p.at byte is)
  none_here stopped same line other p None is =
      all_stored image epoch memory h x.stored x.at stopped p.at is (subst (λ n. Stores image epoch n p.at) (sym same) p.stores)

  writer_on : HasStopped (after_stop (next_event image h).now x.at.after (next_event image h).at) → memory ≡ run_memory image cores epoch → (line : ℕ)
      → IsLastOf (StoresInLine image cores line) (epoch + 1) (slice_index s.two.last line)
  writer_on stopped same line = elim (cases_eq (slice_index s.two.last line) (epoch + 1)) [
    | inl e ↦
        (let here = x.noted line e in
        last_now (StoresInLine image cores line) epoch (slice_index s.two.last line) e (record {
          at = here.0;
          in_line = here.2;
          stores = subst (λ n. Stores image epoch n here.0) same (path_stores x.at here.0 here.1 here.3);
        }))
    | inr other ↦ last_still (StoresInLine image cores line) epoch (slice_index s.two.last line)
        (subst (λ w. IsLastOf (StoresInLine image cores line) epoch w) (writer_other s.two epoch line other) (x.writer line))
        (λ p. none_here stopped same line other p (x.stored p.at) refl)
  ]

  pub lines_kept : HasStopped (after_stop (next_event image h).now x.at.after (next_event image h).at) → memory ≡ run_memory image cores epoch
      → AreLinesKept image cores (epoch + 1) s
  lines_kept stopped same = record { own = x.own_long; lines = x.lines; owner = x.owner; writer = λ line. writer_on stopped same line }

  pub meets_none : HasStopped (after_stop (next_event image h).now x.at.after (next_event image h).at) → memory ≡ run_memory image cores epoch → MeetsNone image cores epoch
  meets_none stopped same a d reads first low p =
      let here : ReadsOutside image epoch memory a = subst (λ n. ReadsOutside image epoch n a) (sym same) reads in
      x.none a d here (all_loaded image epoch memory h x.stored x.at stopped a here.step here.there) first low p

  pub lines_path : OnPath image epoch memory now h
  lines_path = record { own = x.stored; at = x.at; is = x.is }

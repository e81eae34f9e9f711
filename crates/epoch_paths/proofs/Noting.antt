-- The pieces in which an epoch stores, as they are noted.
use Rattle.std.proofs.Common.{◌≡◌, ◌⊎◌, ℕ, ◌+◌, ◌-◌, ◌<◌, Bool, List, [], ◌∷◌, ◌++◌, length, slice_index, Option, Some, None, Result, Ok, Err, OnOk, refl, sym, ap, subst, ◌∙◌, inl, inr, arith}
use Rattle.std.specs.List.{Contains}
use Rattle.std.proofs.lemmas.Bool.{cases_eq}
use Rattle.std.proofs.lemmas.List.{get_or-set_other}
use Rattle.std.proofs.lemmas.List.Elements.{Contains-append_left, Contains-push, Contains-push_cases}
use Rattle.std.proofs.Math.ListN.{set}
use Rattle.rv32_image.specs.Image.{LoadedImage}
use Rattle.memory_bytes.specs.Bytes.{number_at, with_number}
use Rattle.memory_bytes.specs.Maps.{first_of, joined, nothing, stored}
use Rattle.memory_bytes.proofs.Bytes.{stored_within}
use Rattle.rv32_exec.specs.declared.stop.Stop.TheVariants as stop
use Rattle.rv32_exec.specs.declared.sequential.End.TheVariants as end
use Rattle.rv32_exec.specs.Hart.{HartState, start_of, stepped}
use Rattle.rv32_exec.specs.NextEvent.{next_event}
use Rattle.rv32_exec.specs.Arrival.{after_number}
use Rattle.rv32_exec.specs.Sequential.{SequentialResult, after_stop, first_epochs}
use Rattle.rv32_exec.specs.Laws.{HasStopped}
use Rattle.epoch_paths.specs.Paths.{Stores}
use Rattle.epoch_paths.specs.InOrder.{IsInOrder, memory_before, AreAll}
use Rattle.epoch_paths.specs.KeptPieces.{AreBefore, AreMore, AreNoted, IsPieceOf}
use Rattle.epoch_paths.specs.Stored.{AreStores, StoresInOrder}
use Rattle.epoch_paths.proofs.Following.{all_stored}
use Rattle.epoch_paths.proofs.Outside.{OnPath, seen_now}
use Rattle.epoch_paths.specs.Kept.{IsAt}
use Rattle.epoch_paths.proofs.Paths.{at_start, covered, either, load_after, past_load, past_store, path_stores, start_after, store_after}

-- ---- a piece

pub noted_now : (epoch piece : ℕ) (last : List ℕ) (list : List (ℕ × ℕ)) → AreNoted epoch last list → AreNoted epoch (set last piece (epoch + 1)) (list ++ (piece, epoch) ∷ [])
noted_now epoch piece last list noted p is = elim (cases_eq p piece) [
  | inl e ↦ subst (λ n. Contains (list ++ (piece, epoch) ∷ []) (n, epoch)) (sym e) (Contains-push list (piece, epoch))
  | inr other ↦ Contains-append_left list ((piece, epoch) ∷ []) (p, epoch) (noted p (sym (get_or-set_other last piece p (epoch + 1) 0 other) ∙ is))
]

pub more_now : (epoch piece : ℕ) (list : List (ℕ × ℕ)) → AreMore epoch (λ p. p ≡ piece) list (list ++ (piece, epoch) ∷ [])
more_now epoch piece list = record {
  kept = λ x in_it. Contains-append_left list ((piece, epoch) ∷ []) x in_it;
  only = λ x in_it. elim (Contains-push_cases list (piece, epoch) x in_it) [
    | inl before ↦ inl before
    | inr same ↦ inr (sym (ap (λ (y : ℕ × ℕ). y.1) same), sym (ap (λ (y : ℕ × ℕ). y.0) same))
  ];
  all = λ p is. subst (λ n. Contains (list ++ (piece, epoch) ∷ []) (n, epoch)) (sym is) (Contains-push list (piece, epoch));
}

pub noted_by : {T E : Type 0} (r : Result T E) (epoch piece : ℕ) (last : List ℕ) (list new : List (ℕ × ℕ)) → OnOk r (new ≡ list ++ (piece, epoch) ∷ []) → AreNoted epoch last list
    → OnOk r (AreNoted epoch (set last piece (epoch + 1)) new)
noted_by (Ok x) epoch piece last list new is noted = subst (AreNoted epoch (set last piece (epoch + 1))) (sym is) (noted_now epoch piece last list noted)
noted_by (Err e) epoch piece last list new is noted = tt

pub more_by : {T E : Type 0} (r : Result T E) (epoch piece : ℕ) (list new : List (ℕ × ℕ)) → OnOk r (new ≡ list ++ (piece, epoch) ∷ []) → OnOk r (AreMore epoch (λ p. p ≡ piece) list new)
more_by (Ok x) epoch piece list new is = subst (AreMore epoch (λ p. p ≡ piece) list) (sym is) (more_now epoch piece list)
more_by (Err e) epoch piece list new is = tt

-- ---- the pieces of an access

wider : (piece_of : ℕ → ℕ) (address i p : ℕ) → IsPieceOf piece_of address i p → IsPieceOf piece_of address (i + 1) p
wider piece_of address i p x = record { i = x.i; below = omega (arith, x.below); is = x.is }

pub more_byte : (piece_of : ℕ → ℕ) (epoch address i : ℕ) (old mid new : List (ℕ × ℕ)) → AreMore epoch (IsPieceOf piece_of address i) old mid → AreMore epoch (λ p. p ≡ piece_of (address + i)) mid new
    → AreMore epoch (IsPieceOf piece_of address (i + 1)) old new
more_byte piece_of epoch address i old mid new was now = record {
  kept = λ x in_it. now.kept x (was.kept x in_it);
  only = λ x in_it. elim (now.only x in_it) [
    | inl before ↦ elim (was.only x before) [
      | inl first ↦ inl first
      | inr of_it ↦ inr (of_it.0, wider piece_of address i x.0 of_it.1)
    ]
    | inr of_it ↦ inr (of_it.0, record { i = i; below = omega arith; is = sym of_it.1 })
  ];
  all = λ p is. elim (cases_eq is.i i) [
    | inl e ↦ now.all p (sym is.is ∙ ap (λ n. piece_of (address + n)) e)
    | inr other ↦ now.kept (p, epoch) (was.all p (record { i = is.i; below = omega (arith, is.below, other); is = is.is }))
  ];
}

-- ---- an epoch

-- it has stored a byte of this piece
pub record OwnsIn (piece_of : ℕ → ℕ) (own : ℕ → Option ℕ) (piece : ℕ) : Type 0 where
  pub a : ℕ
  pub byte : ℕ
  pub has : own a ≡ Some byte
  pub is : piece_of a ≡ piece

-- the epoch runs over memory, and the list has what those before it store, and what it has stored so far
pub record Storing (image : LoadedImage) (piece_of : ℕ → ℕ) (epoch : ℕ) (now : List ℕ) (h : HartState) (list : List (ℕ × ℕ)) : Type 0 where
  pub own : ℕ → Option ℕ
  pub at : IsAt image epoch (memory_before image epoch) h own
  pub is : at.after ≡ now
  pub each : (x : ℕ × ℕ) → Contains list x → ((x.1 < epoch) × StoresInOrder image piece_of x.1 x.0) ⊎ ((x.1 ≡ epoch) × OwnsIn piece_of own x.0)
  pub all : (d piece : ℕ) → d < epoch → StoresInOrder image piece_of d piece → Contains list (piece, d)
  pub mine : (a byte : ℕ) → own a ≡ Some byte → Contains list (piece_of a, epoch)

pub storing_start : (image : LoadedImage) (piece_of : ℕ → ℕ) (epoch : ℕ) (memory : List ℕ) (list : List (ℕ × ℕ)) → length memory ≡ image.size
    → first_epochs image epoch ≡ record { end = end.Done epoch; bytes = memory } → AreBefore image piece_of epoch list → Storing image piece_of epoch memory (start_of image epoch) list
storing_start image piece_of epoch memory list long done before =
    let bytes : memory_before image epoch ≡ memory = ap (λ (r : SequentialResult). r.bytes) done in
    let long' : length (memory_before image epoch) ≡ image.size = ap (λ m. length m) bytes ∙ long in record {
      own = nothing;
      at = at_start image epoch (memory_before image epoch) long';
      is = start_after image epoch (memory_before image epoch) long' ∙ bytes;
      each = λ x in_it. inl (before.each x in_it);
      all = before.all;
      mine = λ a byte is. absurd cc;
    }

pub storing_load : (image : LoadedImage) (piece_of : ℕ → ℕ) (epoch : ℕ) (now : List ℕ) (h : HartState) (list : List (ℕ × ℕ)) → Storing image piece_of epoch now h list
    → (address width : ℕ) (signed : Bool) (rd value : ℕ) → (next_event image h).at ≡ stop.Load address width signed rd → number_at (λ a. slice_index now a) address width ≡ value
    → Storing image piece_of epoch now (after_number (next_event image h).now (next_event image h).at value) list
storing_load image piece_of epoch now h list x address width signed rd value is number =
    let seen = seen_now image epoch (memory_before image epoch) now h x.own x.at x.is address width value number in record {
      own = x.own;
      at = past_load image epoch (memory_before image epoch) h x.own address width signed rd value x.at is seen;
      is = load_after image epoch (memory_before image epoch) h x.own address width signed rd value x.at is seen ∙ x.is;
      each = x.each;
      all = x.all;
      mine = x.mine;
    }

still_owns : (first : Option ℕ) (second : Option ℕ) (byte : ℕ) → second ≡ Some byte → (b : ℕ) × (first_of first second ≡ Some b)
still_owns None second byte is = (byte, is)
still_owns (Some b) second byte is = (b, refl)

owns_more : (piece_of : ℕ → ℕ) (first own : ℕ → Option ℕ) (piece : ℕ) → OwnsIn piece_of own piece → OwnsIn piece_of (joined first own) piece
owns_more piece_of first own piece x = let still = still_owns (first x.a) (own x.a) x.byte x.has in record { a = x.a; byte = still.0; has = still.1; is = x.is }

owns_stored : (piece_of : ℕ → ℕ) (address width value : ℕ) (own : ℕ → Option ℕ) (piece : ℕ) → IsPieceOf piece_of address width piece → OwnsIn piece_of (joined (stored address width value) own) piece
owns_stored piece_of address width value own piece x = record {
  a = address + x.i;
  byte = _;
  has = ap (λ o. first_of o (own (address + x.i))) (stored_within address width value (address + x.i) (omega arith) (omega (arith, x.below)));
  is = x.is;
}

pub storing_store : (image : LoadedImage) (piece_of : ℕ → ℕ) (epoch : ℕ) (now : List ℕ) (h : HartState) (list list' : List (ℕ × ℕ)) → Storing image piece_of epoch now h list
    → (address width value : ℕ) → (next_event image h).at ≡ stop.Store address width value → AreMore epoch (IsPieceOf piece_of address width) list list'
    → Storing image piece_of epoch (with_number now address width value) (stepped (next_event image h).now) list'
storing_store image piece_of epoch now h list list' x address width value is more = record {
  own = joined (stored address width value) x.own;
  at = past_store image epoch (memory_before image epoch) h x.own address width value x.at is;
  is = store_after image epoch (memory_before image epoch) h x.own address width value x.at is ∙ ap (λ m. with_number m address width value) x.is;
  each = λ y in_it. elim (more.only y in_it) [
    | inl before ↦ elim (x.each y before) [
      | inl earlier ↦ inl earlier
      | inr of_it ↦ inr (of_it.0, owns_more piece_of (stored address width value) x.own y.0 of_it.1)
    ]
    | inr of_it ↦ inr (of_it.0, owns_stored piece_of address width value x.own y.0 of_it.1)
  ];
  all = λ d piece low there. more.kept (piece, d) (x.all d piece low there);
  mine = λ a byte some. elim (either (stored address width value a) (x.own a) byte some) [
    | inl here ↦ let within = covered address width value a here.0 here.1 in
        more.all (piece_of a) (record { i = a - address; below = omega (arith, within.0, within.1); is = ap piece_of (omega (arith, within.0)) })
    | inr before ↦ more.kept (piece_of a, epoch) (x.mine a byte before)
  ];
}

pub on_path : (image : LoadedImage) (piece_of : ℕ → ℕ) (epoch : ℕ) (now : List ℕ) (h : HartState) (list : List (ℕ × ℕ)) → Storing image piece_of epoch now h list → OnPath image epoch (memory_before image epoch) now h
on_path image piece_of epoch now h list x = record { own = x.own; at = x.at; is = x.is }

-- at its end all is there that it stores
module _ (image : LoadedImage) (piece_of : ℕ → ℕ) (epoch : ℕ) (now : List ℕ) (h : HartState) (list : List (ℕ × ℕ)) (x : Storing image piece_of epoch now h list) (within : epoch < image.epochs)
    (order : IsInOrder image epoch) (stopped : HasStopped (after_stop (next_event image h).now x.at.after (next_event image h).at)) where
  stored_here : (o : Option ℕ) (a : ℕ) → x.own a ≡ o → Stores image epoch (memory_before image epoch) a → Contains list (piece_of a, epoch)
  stored_here (Some byte) a is stores = x.mine a byte is
  stored_here None a is stores = absurd (all_stored image epoch (memory_before image epoch) h x.own x.at stopped a is stores)

  pub stored_before : AreBefore image piece_of (epoch + 1) list
  stored_before = record {
    each = λ y in_it. elim (x.each y in_it) [
      | inl earlier ↦ (omega (arith, earlier.0), earlier.1)
      | inr of_it ↦ (
        omega (arith, of_it.0),
        subst (λ d. StoresInOrder image piece_of d y.0) (sym of_it.0)
            (record { within = within; in_order = order; byte = of_it.1.a; of_piece = of_it.1.is; stores = path_stores x.at of_it.1.a of_it.1.byte of_it.1.has }),
      )
    ];
    all = λ d piece low there. elim (cases_eq d epoch) [
      | inl e ↦ (let here : StoresInOrder image piece_of epoch piece = subst (λ n. StoresInOrder image piece_of n piece) e there in
          subst (λ n. Contains list (piece, n)) (sym e)
          (subst (λ p. Contains list (p, epoch)) here.of_piece (stored_here (x.own here.byte) here.byte refl here.stores)))
      | inr other ↦ x.all d piece (omega (arith, low, other)) there
    ];
  }

-- ---- all epochs

pub none_stored : (image : LoadedImage) (piece_of : ℕ → ℕ) (list : List (ℕ × ℕ)) → list ≡ [] → AreBefore image piece_of 0 list
none_stored image piece_of list none = record {
  each = λ x in_it. absurd (omega (arith, in_it.1, ap length none));
  all = λ d piece low there. absurd (omega (arith, low));
}

pub all_are_stores : (image : LoadedImage) (piece_of : ℕ → ℕ) (ran : ℕ) (list : List (ℕ × ℕ)) → AreAll image ran → AreBefore image piece_of ran list → AreStores image piece_of list
all_are_stores image piece_of ran list all before = record {
  each = λ x in_it. (before.each x in_it).1;
  all = λ epoch piece there. before.all epoch piece (all.no_more epoch there.within there.in_order) there;
}

-- What the code keeps of each core is what the history leads to, and so is which cores are held.
use Rattle.std.proofs.Common.{◌≡◌, ℕ, ◌==◌, ◌&&◌, ◌||◌, not, is_none, nat_le, Bool, true, false, cond, List, [], ◌∷◌, ◌++◌, length, take, drop, get_or, slice_set, All, ◌+◌, ◌-◌, ◌<◌, ◌≤◌, Option, Some, None, option_map, refl, sym, ap, subst, ◌∙◌, inl, inr, arith, eq-eqb, eqb-true, ne_eqb, true≢false}
use Rattle.std.specs.List.{list_any}
use Rattle.std.proofs.Math.Dec.{eqb-suc-zero}
use Rattle.std.proofs.Math.Path.{fun_ext}
use Rattle.std.proofs.lemmas.List.{drop_all, drop_more, get_or-replicate, get_or-set_other, get_or-set_same, length-drop, get_or_past, take-append-drop, nil_from_length}
use Rattle.std.proofs.lemmas.List.Elements.{All-drop, All-head, All-tail, All-weaker}
use Rattle.std.proofs.Math.Seq.{take-append_seam, take-length}
use Rattle.std.proofs.Math.ListN.{replicate, length-replicate}
use native.Mathlib.Decide.{dec_lt}
use Rattle.std.proofs.lemmas.Bool.{and_parts, cases_eq, and_right}
use Rattle.std.proofs.lemmas.Option.{same_Some}
use Rattle.rv32_image.specs.Image.{LoadedImage}
use Rattle.rv32_exec.specs.declared.stop.Stop.{Stop}
use Rattle.rv32_exec.specs.declared.stop.Stop.TheVariants as stop
use Rattle.rv32_exec.specs.Hart.{HartState}
use Rattle.spec_history.specs.declared.entry.Entry.{Entry}
use Rattle.spec_history.specs.declared.entry.What.{What}
use Rattle.spec_history.specs.declared.entry.What.TheVariants.{Start, Load, Store, Hurt, Cancel, Restart, Publish, Commit, Fault}
use Rattle.spec_history.specs.Effect.{effect, effect_idle, effect_on, hurt_at, idle_at}
use Rattle.spec_history.specs.FlatState.{CoreState, FlatState, first_state}
use Rattle.spec_history.specs.Refusal.{refusal_of}
use Rattle.spec_history.specs.Replay.{replay, replay_from}
use Rattle.spec_history.proofs.Replay.Replays.{effect-idle, effect-on, legal_by}
use Rattle.spec_history.proofs.Searches.Tests.{all_fail}
use Rattle.homefree.specs.BookView.{BookView}
use Rattle.homefree.specs.Driven.{arrival_of}
use Rattle.even_speed.specs.declared.seats.Seat.{Seat}
use Rattle.even_speed.specs.Kept.{is_held_in}
use Rattle.even_speed.specs.Held.{Holding, are_held, epoch_run, held_in, is_held, is_stored, own_run, reads_stored, waits_by}
use Rattle.even_speed.specs.Holds.{HoldsNone, HoldsView, has_stores, holding_of, holds_none}
use Rattle.even_speed.specs.Owns.{Owned, none_own, owns_after}
use Rattle.even_speed.proofs.Owning.{owned_all}
use Rattle.even_speed.specs.Seats.{epoch_kept, hurt_seat, left_seat, none_seated, noted_by, noted_idle, noted_on, seat_at, seat_of, seats_after, seats_of}

-- ---- an entry

map_cond : (b : Bool) (x y : Option CoreState) → option_map seat_of (cond b x y) ≡ cond b (option_map seat_of x) (option_map seat_of y)
map_cond true x y = refl
map_cond false x y = refl

same_seat : (s : FlatState) (by : ℕ) (c x : CoreState) → s.cores by ≡ Some c → seat_of x ≡ seat_of c → (k : ℕ) → option_map seat_of (cond (k == by) (Some x) (s.cores k)) ≡ option_map seat_of (s.cores k)
same_seat s by c x at same k = elim (cases_eq k by) [
  | inl e ↦ ap (λ b. option_map seat_of (cond b (Some x) (s.cores k))) (eq-eqb k by e) ∙ (ap Some same ∙ ap (option_map seat_of) (sym at ∙ ap s.cores (sym e)))
  | inr other ↦ ap (λ b. option_map seat_of (cond b (Some x) (s.cores k))) (ne_eqb k by other)
]

hurt_same : (epoch : ℕ) (o : Option CoreState) → option_map seat_of (hurt_at epoch o) ≡ hurt_seat epoch (option_map seat_of o)
hurt_same epoch None = refl
hurt_same epoch (Some c) = refl

left_same : (epoch : ℕ) (o : Option CoreState) → option_map seat_of (idle_at epoch o) ≡ left_seat epoch (option_map seat_of o)
left_same epoch None = refl
left_same epoch (Some c) = map_cond (c.epoch == epoch) None (Some c)

on_seats : (image : LoadedImage) (s : FlatState) (by : ℕ) (c : CoreState) (what : What) → s.cores by ≡ Some c → (k : ℕ) → seats_of (effect_on image s by c what) k ≡ noted_on (seats_of s) by (seat_of c) what k
on_seats image s by c (Start epoch) at k = refl
on_seats image s by c (Load address width value) at k = same_seat s by c _ at refl k
on_seats image s by c (Store address width value) at k = same_seat s by c _ at refl k
on_seats image s by c (Hurt epoch) at k = hurt_same epoch (s.cores k)
on_seats image s by c (Cancel epoch) at k = left_same epoch (s.cores k)
on_seats image s by c Restart at k = map_cond (k == by) _ (s.cores k)
on_seats image s by c Publish at k = same_seat s by c _ at refl k
on_seats image s by c Commit at k = map_cond (k == by) None (s.cores k)
on_seats image s by c (Fault cause pc) at k = refl

idle_seats : (image : LoadedImage) (s : FlatState) (by : ℕ) (what : What) (k : ℕ) → seats_of (effect_idle image s by what) k ≡ noted_idle (seats_of s) by what k
idle_seats image s by (Start epoch) k = map_cond (k == by) _ (s.cores k)
idle_seats image s by (Load address width value) k = refl
idle_seats image s by (Store address width value) k = refl
idle_seats image s by (Hurt epoch) k = refl
idle_seats image s by (Cancel epoch) k = refl
idle_seats image s by Restart k = refl
idle_seats image s by Publish k = refl
idle_seats image s by Commit k = refl
idle_seats image s by (Fault cause pc) k = refl

one_noted : (image : LoadedImage) (s : FlatState) (by : ℕ) (what : What) (own : Option CoreState) → s.cores by ≡ own → (k : ℕ)
    → seats_of (effect image s (record { by = by; what = what })) k ≡ noted_by (option_map seat_of own) (seats_of s) by what k
one_noted image s by what None at k = ap (λ (x : FlatState). seats_of x k) (effect-idle image s by what at) ∙ idle_seats image s by what k
one_noted image s by what (Some c) at k = ap (λ (x : FlatState). seats_of x k) (effect-on image s by what c at) ∙ on_seats image s by c what at k

-- ---- entries

seats_after-none : (seats : ℕ → Option Seat) → seats_after seats [] ≡ seats
unfolding seats_after
seats_after-none seats = refl

seats_after-more : (seats : ℕ → Option Seat) (e : Entry) (entries : List Entry) → seats_after seats (e ∷ entries) ≡ seats_after (noted_by (seats e.by) seats e.by e.what) entries
unfolding seats_after
seats_after-more seats e entries = refl

pub seats_after-append : (seats : ℕ → Option Seat) (xs ys : List Entry) → seats_after seats (xs ++ ys) ≡ seats_after (seats_after seats xs) ys
seats_after-append seats [] ys = ap (λ f. seats_after f ys) (sym (seats_after-none seats))
seats_after-append seats (e ∷ xs) ys =
    seats_after-more seats e (xs ++ ys) ∙ (seats_after-append (noted_by (seats e.by) seats e.by e.what) xs ys ∙ ap (λ f. seats_after f ys) (sym (seats_after-more seats e xs)))

seated_from : (image : LoadedImage) (count : ℕ) (entries : List Entry) (s last : FlatState) → replay_from image count s entries ≡ Some last → (k : ℕ)
    → seats_of last k ≡ seats_after (seats_of s) entries k
unfolding replay_from
seated_from image count [] s last replays k = ap (λ (x : FlatState). seats_of x k) (sym (same_Some s last replays)) ∙ sym (ap (λ f. f k) (seats_after-none (seats_of s)))
seated_from image count (e ∷ entries) s last replays k =
    legal_by image count s e entries last (refusal_of image count s e) refl replays
    (λ legal rest. seated_from image count entries (effect image s e) last rest k
    ∙ (ap (λ f. seats_after f entries k) (fun_ext (λ j. one_noted image s e.by e.what (s.cores e.by) refl j)) ∙ sym (ap (λ f. f k) (seats_after-more (seats_of s) e entries))))

seated : (image : LoadedImage) (count : ℕ) (entries : List Entry) (s : FlatState) → replay image count entries ≡ Some s → (k : ℕ) → seats_of s k ≡ seats_after none_seated entries k
unfolding replay
seated image count entries s replays k = seated_from image count entries (first_state image) s replays k

-- ---- who is held

epoch_same : (o : Option CoreState) → epoch_kept (option_map seat_of o) ≡ epoch_run o
epoch_same None = refl
epoch_same (Some c) = refl

none_stored : (holds : Holding) → ((d piece : ℕ) → holds.stores d piece ≡ false) → (homefree epoch piece : ℕ) → is_stored holds homefree epoch piece ≡ false
none_stored holds none homefree epoch piece =
    all_fail epoch (λ d. nat_le homefree d && holds.stores d piece) (λ d below. ap (λ b. nat_le homefree d && b) (none d piece) ∙ and_right (nat_le homefree d) false refl)

none_read : (holds : Holding) → ((d piece : ℕ) → holds.stores d piece ≡ false) → (homefree epoch : ℕ) (own : ℕ → Option ℕ) (address width : ℕ) → reads_stored holds homefree epoch own address width ≡ false
none_read holds none homefree epoch own address width =
    all_fail width (λ i. is_none (own (address + i)) && is_stored holds homefree epoch (holds.piece (address + i)))
    (λ i below. ap (λ b. is_none (own (address + i)) && b) (none_stored holds none homefree epoch (holds.piece (address + i))) ∙ and_right (is_none (own (address + i))) false refl)

-- where no load waits for stores, it doesn't matter what a core owns
waits_same : (holds : Holding) → ((d piece : ℕ) → holds.stores d piece ≡ false) → (homefree epoch pc : ℕ) (own own' : ℕ → Option ℕ) (at : Stop) → waits_by holds homefree epoch own pc at ≡ waits_by holds homefree epoch own' pc at
waits_same holds none homefree epoch pc own own' (stop.Load address width signed rd) =
    ap (λ b. holds.places pc || b) (none_read holds none homefree epoch own address width ∙ sym (none_read holds none homefree epoch own' address width))
waits_same holds none homefree epoch pc own own' (stop.Store address width value) = refl
waits_same holds none homefree epoch pc own own' stop.Ended = refl
waits_same holds none homefree epoch pc own own' (stop.Fault cause at) = refl

held_same : (holds : Holding) → ((d piece : ℕ) → holds.stores d piece ≡ false) → (image : LoadedImage) (homefree : ℕ) (epoch : Option ℕ) (own own' : ℕ → Option ℕ) (hand : Option HartState)
    → is_held holds image homefree epoch own hand ≡ is_held holds image homefree epoch own' hand
held_same holds none image homefree None own own' hand = refl
held_same holds none image homefree (Some epoch) own own' None = refl
held_same holds none image homefree (Some epoch) own own' (Some hart) =
    ap (λ b. not (epoch == homefree) && b) (waits_same holds none homefree epoch (arrival_of image hart).now.pc own own' (arrival_of image hart).at)

-- what an idle core owns doesn't matter
own_same : (holds : Holding) (image : LoadedImage) (homefree : ℕ) (core : Option CoreState) (own : ℕ → Option ℕ) (hand : Option HartState) → ((c : CoreState) → core ≡ Some c → own ≡ c.own)
    → is_held holds image homefree (epoch_run core) own hand ≡ is_held holds image homefree (epoch_run core) (own_run core) hand
own_same holds image homefree None own hand same = refl
own_same holds image homefree (Some c) own hand same = ap (λ o. is_held holds image homefree (epoch_run (Some c)) o hand) (same c refl)

no_pairs : (xs : List (ℕ × ℕ)) → not (length xs == 0) ≡ false → xs ≡ []
no_pairs [] none = refl
no_pairs (x ∷ xs) none = absurd (true≢false (sym (ap not (eqb-suc-zero (length xs))) ∙ none))

no_stores : (v : HoldsView) → has_stores v ≡ false → (d piece : ℕ) → (holding_of v).stores d piece ≡ false
no_stores v none d piece = ap (list_any (λ (s : ℕ × ℕ). (s.0 == piece) && (s.1 == d))) (no_pairs v.stores none)

own_by : (v : HoldsView) (image : LoadedImage) (homefree : ℕ) (core : Option CoreState) (own : ℕ → Option ℕ) (hand : Option HartState) (some : Bool) → has_stores v ≡ some
    → (has_stores v ≡ true → (c : CoreState) → core ≡ Some c → own ≡ c.own)
    → is_held (holding_of v) image homefree (epoch_run core) own hand ≡ is_held (holding_of v) image homefree (epoch_run core) (own_run core) hand
own_by v image homefree core own hand true is same = own_same (holding_of v) image homefree core own hand (same is)
own_by v image homefree core own hand false is same = held_same (holding_of v) (no_stores v is) image homefree (epoch_run core) own (own_run core) hand

pub held_by_seat : {S : Type 0} (b : BookView S) (v : HoldsView) (hands : ℕ → Option HartState) (s : FlatState) (k homefree : ℕ) (seat : Option Seat) (own : Owned) → replay b.image b.cores b.history ≡ Some s
    → homefree ≡ s.homefree → seat ≡ seats_after none_seated b.history k → (has_stores v ≡ true → own ≡ owns_after none_own b.history k)
    → is_held (holding_of v) b.image homefree (epoch_kept seat) own.bytes (hands k) ≡ held_in (holding_of v) b hands k
held_by_seat b v hands s k homefree seat own replays home kept owned =
    ap (λ h. is_held (holding_of v) b.image h (epoch_kept seat) own.bytes (hands k)) home
    ∙ (ap (λ e. is_held (holding_of v) b.image s.homefree e own.bytes (hands k)) (ap epoch_kept (kept ∙ sym (seated b.image b.cores b.history s replays k)) ∙ epoch_same (s.cores k))
    ∙ (own_by v b.image s.homefree (s.cores k) own.bytes (hands k) (has_stores v) refl
    (λ some c at. ap (λ (o : Owned). o.bytes) (owned some ∙ owned_all b.image b.cores b.history s replays k c at))
    ∙ ap (λ r. are_held (holding_of v) b.image r hands k) (sym replays)))

none_waiting : (holds : Holding) → ((pc : ℕ) → holds.places pc ≡ false) → ((d piece : ℕ) → holds.stores d piece ≡ false) → (homefree epoch pc : ℕ) (own : ℕ → Option ℕ) (at : Stop)
    → waits_by holds homefree epoch own pc at ≡ false
none_waiting holds places none homefree epoch pc own (stop.Load address width signed rd) =
    ap (λ b. b || reads_stored holds homefree epoch own address width) (places pc) ∙ none_read holds none homefree epoch own address width
none_waiting holds places none homefree epoch pc own (stop.Store address width value) = refl
none_waiting holds places none homefree epoch pc own stop.Ended = refl
none_waiting holds places none homefree epoch pc own (stop.Fault cause at) = refl

none_held : (holds : Holding) → ((pc : ℕ) → holds.places pc ≡ false) → ((d piece : ℕ) → holds.stores d piece ≡ false) → (image : LoadedImage) (homefree : ℕ) (epoch : Option ℕ) (own : ℕ → Option ℕ)
    (hand : Option HartState) → is_held holds image homefree epoch own hand ≡ false
none_held holds places none image homefree None own hand = refl
none_held holds places none image homefree (Some epoch) own None = refl
none_held holds places none image homefree (Some epoch) own (Some hart) =
    ap (λ b. not (epoch == homefree) && b) (none_waiting holds places none homefree epoch (arrival_of image hart).now.pc own (arrival_of image hart).at) ∙ and_right (not (epoch == homefree)) false refl

pub no_cores_held : (holds : Holding) → ((pc : ℕ) → holds.places pc ≡ false) → ((d piece : ℕ) → holds.stores d piece ≡ false) → (image : LoadedImage) (state : Option FlatState) (hands : ℕ → Option HartState) (k : ℕ)
    → are_held holds image state hands k ≡ false
no_cores_held holds places none image None hands k = refl
no_cores_held holds places none image (Some s) hands k = none_held holds places none image s.homefree (epoch_run (s.cores k)) (own_run (s.cores k)) (hands k)

-- where no load waits no core is held
-- the test says so
none_in : (v : HoldsView) → holds_none v ≡ true → HoldsNone v
none_in v is =
    let both = and_parts (length v.places == 0) (length v.stores == 0) is in
    record { places = nil_from_length v.places (eqb-true (length v.places) 0 both.0); stores = nil_from_length v.stores (eqb-true (length v.stores) 0 both.1) }

pub held_in_none : {S : Type 0} (b : BookView S) (v : HoldsView) (hands : ℕ → Option HartState) (k : ℕ) → holds_none v ≡ true → held_in (holding_of v) b hands k ≡ false
held_in_none b v hands k is =
    let none = none_in v is in
    no_cores_held (holding_of v) (λ pc. ap (list_any (λ a. a == pc)) none.places) (λ d piece. ap (list_any (λ (s : ℕ × ℕ). (s.0 == piece) && (s.1 == d))) none.stores) b.image
    (replay b.image b.cores b.history) hands k

-- ---- the entries that have been noted

-- nothing has been noted yet
none_yet : (n k : ℕ) → seat_at (replicate n None) k ≡ None
none_yet n k = elim (dec_lt k n) [
  | yes there ↦ get_or-replicate n k None None there
  | no past ↦ get_or_past (replicate n None) k None (rw length-replicate (omega (arith, past)))
]

pub first_seats : (n : ℕ) (history : List Entry) (k : ℕ) → seat_at (replicate n None) k ≡ seats_after none_seated (take 0 history) k
first_seats n history k = none_yet n k ∙ sym (ap (λ f. f k) (seats_after-none none_seated))

-- a turn has added some
pub seats_before : (seats : ℕ → Option Seat) (old entries new : List Entry) (place : ℕ) → new ≡ old ++ entries → place ≡ length old → ((k : ℕ) → seats k ≡ seats_after none_seated old k) → (k : ℕ)
    → seats k ≡ seats_after none_seated (take place new) k
seats_before seats old entries new place grown at kept k =
    let before : take place new ≡ old = ap (λ n. take n new) at ∙ (ap (take (length old)) grown ∙ take-append_seam old entries) in
    kept k ∙ ap (λ l. seats_after none_seated l k) (sym before)

-- and these are noted
pub seats_noted : (seats seats' : ℕ → Option Seat) (place : ℕ) (history : List Entry) → ((k : ℕ) → seats k ≡ seats_after none_seated (take place history) k)
    → ((k : ℕ) → seats' k ≡ seats_after seats (drop place history) k) → (k : ℕ) → seats' k ≡ seats_after none_seated history k
seats_noted seats seats' place history before noted k =
    noted k ∙ (ap (λ f. seats_after f (drop place history) k) (fun_ext before)
    ∙ (sym (ap (λ f. f k) (seats_after-append none_seated (take place history) (drop place history))) ∙ ap (λ l. seats_after none_seated l k) (take-append-drop place history)))

-- one entry more
pub notes_more : (start : ℕ → Option Seat) (entries : List Entry) (i : ℕ) (d : Entry) (before after : ℕ → Option Seat) → i < length entries
    → ((k : ℕ) → after k ≡ noted_by (before (get_or entries i d).by) before (get_or entries i d).by (get_or entries i d).what k)
    → ((k : ℕ) → seats_after before (drop i entries) k ≡ seats_after start entries k) → (k : ℕ) → seats_after after (drop (i + 1) entries) k ≡ seats_after start entries k
notes_more start entries i d before after there noted rest k =
    ap (λ f. seats_after f (drop (i + 1) entries) k) (fun_ext noted)
    ∙ (sym (ap (λ f. f k) (seats_after-more before (get_or entries i d) (drop (i + 1) entries))) ∙ (ap (λ l. seats_after before l k) (sym (drop_more entries i d there)) ∙ rest k))

pub by_more : (entries : List Entry) (i : ℕ) (d : Entry) → i < length entries → All (λ e. e.by < 16) (drop i entries) → ((get_or entries i d).by < 16) × All (λ e. e.by < 16) (drop (i + 1) entries)
by_more entries i d there by = parts (subst (All (λ e. e.by < 16)) (drop_more entries i d there) by)
  where
    parts : All (λ e. e.by < 16) (get_or entries i d ∷ drop (i + 1) entries) → ((get_or entries i d).by < 16) × All (λ e. e.by < 16) (drop (i + 1) entries)
    parts all = (All-head (λ (e : Entry). e.by < 16) _ _ all, All-tail (λ (e : Entry). e.by < 16) _ _ all)

-- it is set whether one is held
pub one_set : (held : List Bool) (core : ℕ) (now : Bool) → core < length held → (k : ℕ) → is_held_in (slice_set held core now) k ≡ cond (k == core) now (is_held_in held k)
one_set held core now there k = elim (cases_eq k core) [
  | inl e ↦ ap (is_held_in (slice_set held core now)) e ∙ (get_or-set_same held core now false there ∙ ap (λ b. cond b now (is_held_in held k)) (sym (eq-eqb k core e)))
  | inr other ↦ get_or-set_other held core k now false other ∙ ap (λ b. cond b now (is_held_in held k)) (sym (ne_eqb k core other))
]

-- one core more
pub held_more : (core : ℕ) (now : Bool) (old new want : ℕ → Bool) → ((k : ℕ) → new k ≡ cond (k == core) now (old k)) → now ≡ want core → ((k : ℕ) → k < core → old k ≡ want k) → (k : ℕ) → k < core + 1
    → new k ≡ want k
held_more core now old new want set here before k below = elim (cases_eq k core) [
  | inl e ↦ set k ∙ (ap (λ b. cond b now (old k)) (eq-eqb k core e) ∙ (here ∙ ap want (sym e)))
  | inr other ↦ set k ∙ (ap (λ b. cond b now (old k)) (ne_eqb k core other) ∙ before k (omega (arith, below, other)))
]

-- none is held
pub none_waits : (n k : ℕ) → is_held_in (replicate n false) k ≡ false
none_waits n k = elim (dec_lt k n) [
  | yes there ↦ get_or-replicate n k false false there
  | no past ↦ get_or_past (replicate n false) k false (rw length-replicate (omega (arith, past)))
]

-- the entries that follow are of the cores too
pub few_by : (cores place : ℕ) (history : List Entry) → cores ≤ 16 → All (λ e. e.by < cores) history → All (λ e. e.by < 16) (drop place history)
few_by cores place history few by =
    All-drop (λ (e : Entry). e.by < 16) place history (All-weaker (λ (e : Entry). e.by < cores) (λ (e : Entry). e.by < 16) (λ e below. omega (arith, below, few)) history by)

-- all that is left of a list
pub rest_is : (n : ℕ) (xs : List Entry) → take (length xs - n) (drop n xs) ≡ drop n xs
rest_is n xs = ap (λ m. take m (drop n xs)) (sym (length-drop n xs)) ∙ take-length (drop n xs)

-- no entry is left
pub notes_end : (seats start : ℕ → Option Seat) (entries : List Entry) (i : ℕ) → length entries ≤ i → ((k : ℕ) → seats_after seats (drop i entries) k ≡ seats_after start entries k) → (k : ℕ)
    → seats k ≡ seats_after start entries k
notes_end seats start entries i past rest k =
    sym (ap (λ f. f k) (seats_after-none seats)) ∙ (ap (λ l. seats_after seats l k) (sym (drop_all i entries past)) ∙ rest k)

-- What the code keeps of the stores of each core is what the history leads to.
use Rattle.std.proofs.Common.{◌≡◌, ℕ, ◌==◌, not, true, cond, is_some, nat_lt, List, [], ◌∷◌, ◌++◌, length, take, drop, get_or, All, ◌+◌, ◌<◌, ◌≤◌, Option, Some, None, Result, Ok, Err, OnOk, refl, sym, ap, subst, ◌∙◌, inl, inr, arith, eq-eqb, ne_eqb}
use Rattle.std.proofs.Math.Path.{fun_ext}
use Rattle.std.proofs.lemmas.Bool.{cases_eq, and_parts}
use Rattle.std.proofs.lemmas.List.{drop_all, drop_more, take-append-drop}
use Rattle.std.proofs.lemmas.List.Elements.{All-cons, All-drop, All-head, All-nil, All-tail}
use Rattle.std.proofs.Math.Seq.{take-append_seam}
use Rattle.std.proofs.lemmas.Option.{same_Some, none-some}
use Rattle.rv32_image.specs.Image.{IsImage, LoadedImage}
use Rattle.spec_history.specs.declared.entry.Entry.{Entry}
use Rattle.spec_history.specs.declared.entry.What.{What}
use Rattle.spec_history.specs.declared.entry.What.TheVariants.{Start, Load, Store, Hurt, Cancel, Restart, Publish, Commit, Fault}
use Rattle.spec_history.specs.Effect.{effect, effect_idle, effect_on, hurt_at}
use Rattle.spec_history.specs.FlatState.{CoreState, FlatState, first_state}
use Rattle.spec_history.specs.Machine.{IsInMemory}
use Rattle.spec_history.specs.Refusal.{is_there, refusal_of}
use Rattle.spec_history.specs.Replay.{replay, replay_from}
use Rattle.spec_history.proofs.OneEntry.Legal.{legal_entry, next_in_memory}
use Rattle.spec_history.proofs.Replay.Replays.{effect-idle, effect-on, legal_by}
use Rattle.spec_history.proofs.OneEntry.Entries.{still_runs}
use Rattle.even_speed.specs.Owns.{IsNotable, IsSmall, Owned, none_own, none_owned, own_of, owned_by, owns_after, with_own, with_store}

-- each core that runs an epoch owns what is kept of it
abbrev AreOwn : (ℕ → Option CoreState) → (ℕ → Owned) → Type 0
AreOwn cores owns = (k : ℕ) (c : CoreState) → cores k ≡ Some c → owns k ≡ own_of c

-- ---- an entry

-- one core changes
one_set : (cores : ℕ → Option CoreState) (owns : ℕ → Owned) (by : ℕ) (x : CoreState) (now : Owned) → now ≡ own_of x → AreOwn cores owns → AreOwn (λ k. cond (k == by) (Some x) (cores k)) (with_own owns by now)
one_set cores owns by x now is own k c at = elim (cases_eq k by) [
  | inl e ↦ rw (eq-eqb k by e) (is ∙ ap own_of (same_Some x c (sym (ap (λ b. cond b (Some x) (cores k)) (eq-eqb k by e)) ∙ at)))
  | inr other ↦ rw (ne_eqb k by other) (own k c (sym (ap (λ b. cond b (Some x) (cores k)) (ne_eqb k by other)) ∙ at))
]

-- one core changes, and what it owns stays
one_kept : (cores : ℕ → Option CoreState) (owns : ℕ → Owned) (by : ℕ) (was x : CoreState) → cores by ≡ Some was → own_of x ≡ own_of was → AreOwn cores owns → AreOwn (λ k. cond (k == by) (Some x) (cores k)) owns
one_kept cores owns by was x runs same own k c at = elim (cases_eq k by) [
  | inl e ↦ own k was (ap cores e ∙ runs) ∙ (sym same ∙ ap own_of (same_Some x c (sym (ap (λ b. cond b (Some x) (cores k)) (eq-eqb k by e)) ∙ at)))
  | inr other ↦ own k c (sym (ap (λ b. cond b (Some x) (cores k)) (ne_eqb k by other)) ∙ at)
]

-- one core leaves
one_left : (cores : ℕ → Option CoreState) (owns : ℕ → Owned) (by : ℕ) → AreOwn cores owns → AreOwn (λ k. cond (k == by) None (cores k)) owns
one_left cores owns by own k c at = elim (cases_eq k by) [
  | inl e ↦ absurd (none-some c (sym (ap (λ b. cond b None (cores k)) (eq-eqb k by e)) ∙ at))
  | inr other ↦ own k c (sym (ap (λ b. cond b None (cores k)) (ne_eqb k by other)) ∙ at)
]

-- an idle core has an entry
idle_set : (cores : ℕ → Option CoreState) (owns : ℕ → Owned) (by : ℕ) (now : Owned) → cores by ≡ None → AreOwn cores owns → AreOwn cores (with_own owns by now)
idle_set cores owns by now idle own k c at = elim (cases_eq k by) [
  | inl e ↦ absurd (none-some c (sym idle ∙ (ap cores (sym e) ∙ at)))
  | inr other ↦ rw (ne_eqb k by other) (own k c at)
]

hurt_by : (epoch : ℕ) (o : Option CoreState) (c : CoreState) → hurt_at epoch o ≡ Some c → (was : CoreState) × (o ≡ Some was) × (own_of was ≡ own_of c)
hurt_by epoch None c at = absurd cc
hurt_by epoch (Some was) c at = (was, refl, ap own_of (same_Some _ c at))

idle_owned : (image : LoadedImage) (s : FlatState) (owns : ℕ → Owned) (by : ℕ) (what : What) → s.cores by ≡ None → AreOwn s.cores owns
    → AreOwn (effect_idle image s by what).cores (owned_by owns by what)
idle_owned image s owns by (Start epoch) idle own = one_set s.cores owns by _ none_owned refl own
idle_owned image s owns by (Load address width value) idle own = own
idle_owned image s owns by (Store address width value) idle own = idle_set s.cores owns by _ idle own
idle_owned image s owns by (Hurt epoch) idle own = own
idle_owned image s owns by (Cancel epoch) idle own = own
idle_owned image s owns by Restart idle own = idle_set s.cores owns by _ idle own
idle_owned image s owns by Publish idle own = idle_set s.cores owns by _ idle own
idle_owned image s owns by Commit idle own = own
idle_owned image s owns by (Fault cause pc) idle own = own

on_owned : (image : LoadedImage) (s : FlatState) (owns : ℕ → Owned) (by : ℕ) (c : CoreState) (what : What) → s.cores by ≡ Some c → ((epoch : ℕ) → what ≡ Start epoch → ⊥) → AreOwn s.cores owns
    → AreOwn (effect_on image s by c what).cores (owned_by owns by what)
on_owned image s owns by c (Start epoch) runs never own = absurd (never epoch refl)
on_owned image s owns by c (Load address width value) runs never own = one_kept s.cores owns by c _ runs refl own
on_owned image s owns by c (Store address width value) runs never own = one_set s.cores owns by _ _ (ap (with_store address width value) (own by c runs)) own
on_owned image s owns by c (Hurt epoch) runs never own = λ k d at. let was = hurt_by epoch (s.cores k) d at in own k was.0 was.1 ∙ was.2
on_owned image s owns by c (Cancel epoch) runs never own = λ k d at. own k d (still_runs epoch (s.cores k) d at)
on_owned image s owns by c Restart runs never own = one_set s.cores owns by _ none_owned refl own
on_owned image s owns by c Publish runs never own = one_set s.cores owns by _ _ refl own
on_owned image s owns by c Commit runs never own = one_left s.cores owns by own
on_owned image s owns by c (Fault cause pc) runs never own = own

-- a core that runs an epoch starts none
never_starts : (image : LoadedImage) (count : ℕ) (s : FlatState) (e : Entry) (c : CoreState) → refusal_of image count s e ≡ None → s.cores e.by ≡ Some c → (epoch : ℕ) → e.what ≡ Start epoch → ⊥
never_starts image count s e c legal runs epoch is = some_idle (s.cores e.by) runs (and_parts (nat_lt e.by count) (not (is_some (s.cores e.by))) there).1
  where
    there : is_there count s e.by (Start epoch) ≡ true
    there = subst (λ w. is_there count s e.by w ≡ true) is (legal_entry image count s e legal).there

    some_idle : (o : Option CoreState) → o ≡ Some c → not (is_some o) ≡ true → ⊥
    some_idle None at idle = cc
    some_idle (Some x) at idle = cc

one_owned : (image : LoadedImage) (count : ℕ) (s : FlatState) (owns : ℕ → Owned) (e : Entry) (own_core : Option CoreState) → s.cores e.by ≡ own_core → refusal_of image count s e ≡ None → AreOwn s.cores owns
    → AreOwn (effect image s e).cores (owned_by owns e.by e.what)
one_owned image count s owns e None at legal own =
    subst (λ (x : FlatState). AreOwn x.cores (owned_by owns e.by e.what)) (sym (effect-idle image s e.by e.what at)) (idle_owned image s owns e.by e.what at own)
one_owned image count s owns e (Some c) at legal own =
    subst (λ (x : FlatState). AreOwn x.cores (owned_by owns e.by e.what)) (sym (effect-on image s e.by e.what c at))
    (on_owned image s owns e.by c e.what at (never_starts image count s e c legal at) own)

-- ---- entries

owns_after-none : (owns : ℕ → Owned) → owns_after owns [] ≡ owns
unfolding owns_after
owns_after-none owns = refl

owns_after-more : (owns : ℕ → Owned) (e : Entry) (entries : List Entry) → owns_after owns (e ∷ entries) ≡ owns_after (owned_by owns e.by e.what) entries
unfolding owns_after
owns_after-more owns e entries = refl

owns_after-append : (owns : ℕ → Owned) (xs ys : List Entry) → owns_after owns (xs ++ ys) ≡ owns_after (owns_after owns xs) ys
owns_after-append owns [] ys = ap (λ f. owns_after f ys) (sym (owns_after-none owns))
owns_after-append owns (e ∷ xs) ys =
    owns_after-more owns e (xs ++ ys) ∙ (owns_after-append (owned_by owns e.by e.what) xs ys ∙ ap (λ f. owns_after f ys) (sym (owns_after-more owns e xs)))

owned_from : (image : LoadedImage) (count : ℕ) (entries : List Entry) (owns : ℕ → Owned) (s last : FlatState) → replay_from image count s entries ≡ Some last → AreOwn s.cores owns
    → AreOwn last.cores (owns_after owns entries)
unfolding replay_from
owned_from image count [] owns s last replays own =
    subst (λ (x : FlatState). AreOwn x.cores (owns_after owns [])) (same_Some s last replays) (subst (AreOwn s.cores) (sym (owns_after-none owns)) own)
owned_from image count (e ∷ entries) owns s last replays own =
    legal_by image count s e entries last (refusal_of image count s e) refl replays
    (λ legal rest. subst (AreOwn last.cores) (sym (owns_after-more owns e entries))
    (owned_from image count entries (owned_by owns e.by e.what) (effect image s e) last rest (one_owned image count s owns e (s.cores e.by) refl legal own)))

pub owned_all : (image : LoadedImage) (count : ℕ) (entries : List Entry) (s : FlatState) → replay image count entries ≡ Some s → AreOwn s.cores (owns_after none_own entries)
unfolding replay
owned_all image count entries s replays = owned_from image count entries none_own (first_state image) s replays (λ k c at. absurd (none-some c at))

-- ---- stores lie in memory

small_of : (size : ℕ) (what : What) → size ≤ 1048576 → IsInMemory size what → IsSmall what
small_of size (Start epoch) few is = tt
small_of size (Load address width value) few is = tt
small_of size (Store address width value) few is = omega (arith, is.1, few)
small_of size (Hurt epoch) few is = tt
small_of size (Cancel epoch) few is = tt
small_of size Restart few is = tt
small_of size Publish few is = tt
small_of size Commit few is = tt
small_of size (Fault cause pc) few is = tt

small_from : (image : LoadedImage) (count : ℕ) (entries : List Entry) (s last : FlatState) → image.size ≤ 1048576 → replay_from image count s entries ≡ Some last → All (λ e. IsSmall e.what) entries
unfolding replay_from
small_from image count [] s last few replays = All-nil (λ (e : Entry). IsSmall e.what)
small_from image count (e ∷ entries) s last few replays =
    legal_by image count s e entries last (refusal_of image count s e) refl replays
    (λ legal rest. All-cons (λ (x : Entry). IsSmall x.what) e entries
    (small_of image.size e.what few (next_in_memory image s e.by e.what (legal_entry image count s e legal).next)) (small_from image count entries (effect image s e) last few rest))

small_all : (image : LoadedImage) (count : ℕ) (entries : List Entry) (s : FlatState) → IsImage image → replay image count entries ≡ Some s → All (λ e. IsSmall e.what) entries
unfolding replay
small_all image count entries s is_image replays = small_from image count entries (first_state image) s is_image.size_most replays

-- the entries from a place on can be noted of so many cores
pub notable : (image : LoadedImage) (count n place : ℕ) (history : List Entry) (s : FlatState) → IsImage image → replay image count history ≡ Some s → n ≡ count → All (λ e. e.by < count) history
    → All (IsNotable n) (drop place history)
notable image count n place history s is_image replays same by =
    let small = small_all image count history s is_image replays in
    All-drop (IsNotable n) place history (λ k d below. record { by = omega (arith, by k d below, same); small = small k d below })

-- ---- the entries that have been noted

-- nothing has been noted yet
pub first_owned : (owns : ℕ → Owned) (history : List Entry) → ((k : ℕ) → owns k ≡ none_own k) → (k : ℕ) → owns k ≡ owns_after none_own (take 0 history) k
first_owned owns history none k = none k ∙ sym (ap (λ f. f k) (owns_after-none none_own))

-- a turn has added some
pub owns_before : (owns : ℕ → Owned) (old entries new : List Entry) (place : ℕ) → new ≡ old ++ entries → place ≡ length old → ((k : ℕ) → owns k ≡ owns_after none_own old k) → (k : ℕ)
    → owns k ≡ owns_after none_own (take place new) k
owns_before owns old entries new place grown at kept k =
    let before : take place new ≡ old = ap (λ n. take n new) at ∙ (ap (take (length old)) grown ∙ take-append_seam old entries) in
    kept k ∙ ap (λ l. owns_after none_own l k) (sym before)

-- and these are noted
pub owns_noted : (owns owns' : ℕ → Owned) (place : ℕ) (history : List Entry) → ((k : ℕ) → owns k ≡ owns_after none_own (take place history) k)
    → ((k : ℕ) → owns' k ≡ owns_after owns (drop place history) k) → (k : ℕ) → owns' k ≡ owns_after none_own history k
owns_noted owns owns' place history before noted k =
    noted k ∙ (ap (λ f. owns_after f (drop place history) k) (fun_ext before)
    ∙ (sym (ap (λ f. f k) (owns_after-append none_own (take place history) (drop place history))) ∙ ap (λ l. owns_after none_own l k) (take-append-drop place history)))

-- one entry more
pub owns_more : (start : ℕ → Owned) (entries : List Entry) (i : ℕ) (d : Entry) (before after : ℕ → Owned) → i < length entries
    → ((k : ℕ) → after k ≡ owned_by before (get_or entries i d).by (get_or entries i d).what k)
    → ((k : ℕ) → owns_after before (drop i entries) k ≡ owns_after start entries k) → (k : ℕ) → owns_after after (drop (i + 1) entries) k ≡ owns_after start entries k
owns_more start entries i d before after there noted rest k =
    ap (λ f. owns_after f (drop (i + 1) entries) k) (fun_ext noted)
    ∙ (sym (ap (λ f. f k) (owns_after-more before (get_or entries i d) (drop (i + 1) entries))) ∙ (ap (λ l. owns_after before l k) (sym (drop_more entries i d there)) ∙ rest k))

-- no entry is left
pub owns_end : (owns start : ℕ → Owned) (entries : List Entry) (i : ℕ) → length entries ≤ i → ((k : ℕ) → owns_after owns (drop i entries) k ≡ owns_after start entries k) → (k : ℕ)
    → owns k ≡ owns_after start entries k
owns_end owns start entries i past rest k =
    sym (ap (λ f. f k) (owns_after-none owns)) ∙ (ap (λ l. owns_after owns l k) (sym (drop_all i entries past)) ∙ rest k)

pub notable_more : (n : ℕ) (entries : List Entry) (i : ℕ) (d : Entry) → i < length entries → All (IsNotable n) (drop i entries) → IsNotable n (get_or entries i d) × All (IsNotable n) (drop (i + 1) entries)
notable_more n entries i d there all = parts (subst (All (IsNotable n)) (drop_more entries i d there) all)
  where
    parts : All (IsNotable n) (get_or entries i d ∷ drop (i + 1) entries) → IsNotable n (get_or entries i d) × All (IsNotable n) (drop (i + 1) entries)
    parts all = (All-head (IsNotable n) _ _ all, All-tail (IsNotable n) _ _ all)

pub on_ok : {T E : Type 0} {P Q : Type 0} (r : Result T E) → OnOk r P → (P → Q) → OnOk r Q
on_ok (Ok x) is more = more is
on_ok (Err e) is more = tt

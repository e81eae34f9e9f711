-- A text is noted in a set, and every text so far still stands there once.
use Rattle.std.proofs.Common.{◌≡◌, ◌≢◌, inl, inr, ℕ, ◌+◌, ◌<◌, Bool, true, false, List, [], ◌∷◌, ◌++◌, ◌⊎◌, All, AllPairs, length, get_or, Some, Vec, refl, sym, ap, subst, ◌∙◌, arith, add-zero}
use Rattle.std.specs.declared.alloc.Global.{Global}
use Rattle.std.specs.List.{Contains}
use Rattle.std.specs.BTreeSet.{BTreeSet, insert_key}
use Rattle.std.specs.Cmp.Lexicographic.{slice_cmp}
use Rattle.std.specs.declared.cmp.Ordering.{Ordering}
use Rattle.std.specs.declared.cmp.Ordering.TheVariants.{Less, Equal, Greater}
use Rattle.std.specs.List.Sorted.{IsStrictlySortedBy}
use Rattle.std.specs.Ordering.{match_ordering, nat_cmp}
use Rattle.std.proofs.lemmas.Cmp.{nat_list_cmp_total, tied_itself}
use Rattle.std.proofs.lemmas.List.{get_or-map, length-map}
use Rattle.std.proofs.lemmas.List.Elements.{All-cons, All-map, All-nil, All-push, All-weaker, Contains-append_left, Contains-append_right, Contains-get_or, Contains-push, All-contains, All-contains_itself}
use Rattle.std.proofs.lemmas.Map.Keys.{Less-from_sorted}
use Rattle.std.proofs.lemmas.Map.Lookups.{exact_bytes}
use Rattle.std.proofs.lemmas.Map.Views.{All-insert_key}
use Rattle.replay_command.specs.declared.survey.Extreme.{Extreme}
use Rattle.replay_command.specs.declared.survey.Survey.{Survey}
use Rattle.all_schedules.specs.Schedules.{lists_of}
use Rattle.replay_command.specs.Adding.{Adds, IsNoted, greater, lesser}
use Rattle.replay_command.specs.Survey.{AreEachOnce}

-- of none there is none
pub none_noted : AreEachOnce [] []
none_noted = record {
  different = λ i j d before below. absurd (omega (arith, below));
  there = All-nil (Contains []);
  every = All-nil (Contains []);
}

-- a text more
pub noted : (all old new : List (List ℕ)) (text : List ℕ) → AreEachOnce all old → IsNoted old new text → AreEachOnce (all ++ text ∷ []) new
noted all old new text so is =
    let known : (x : List ℕ) → Contains old x → Contains all x = λ x there. All-contains (Contains all) old x so.there there in record {
      different = is.different;
      there = All-weaker (λ x. Contains old x ⊎ (x ≡ text)) (Contains (all ++ text ∷ []))
          (λ x one. elim one [
            | inl there ↦ Contains-append_left all (text ∷ []) x (known x there)
            | inr same ↦ subst (Contains (all ++ text ∷ [])) (sym same) (Contains-push all text)
          ]) new is.no_other;
      every = All-push (Contains new) all text
          (All-weaker (Contains old) (Contains new) (λ x there. All-contains (Contains new) old x is.kept there) all so.every) is.there;
    }

-- ---- in vectors

abbrev items_of : Vec ℕ Global → List ℕ
items_of v = v.items

-- vectors are in the order of their bytes
abbrev pub by_bytes : Vec ℕ Global → Vec ℕ Global → Ordering
by_bytes v w = slice_cmp nat_cmp v.items w.items

head_there : (x : List ℕ) (xs : List (List ℕ)) → Contains (x ∷ xs) x
head_there x xs = Contains-append_left (x ∷ []) xs x (Contains-push [] x)

tail_there : (x y : List ℕ) (xs : List (List ℕ)) → Contains xs y → Contains (x ∷ xs) y
tail_there x y xs there = Contains-append_right (x ∷ []) xs y there

module _ (k : Vec ℕ Global) where
  put : List (Vec ℕ Global) → List (Vec ℕ Global)
  put vs = insert_key by_bytes vs k

  put_by : (v : Vec ℕ Global) (vs more : List (Vec ℕ Global)) (o : Ordering) → by_bytes k v ≡ o → Contains (lists_of more) k.items
      → Contains (lists_of (match_ordering o (k ∷ v ∷ vs) (v ∷ vs) (v ∷ more))) k.items
  put_by v vs more Less is there = head_there k.items (lists_of (v ∷ vs))
  put_by v vs more Equal is there = subst (Contains (lists_of (v ∷ vs))) (sym (exact_bytes k.items v.items is)) (head_there v.items (lists_of vs))
  put_by v vs more Greater is there = tail_there v.items k.items (lists_of more) there

  put_there : (vs : List (Vec ℕ Global)) → Contains (lists_of (insert_key by_bytes vs k)) k.items
  put_there [] = Contains-push [] k.items
  put_there (v ∷ vs) = put_by v vs (insert_key by_bytes vs k) (by_bytes k v) refl (put_there vs)

  keep_by : (v : Vec ℕ Global) (vs more : List (Vec ℕ Global)) (o : Ordering) → All (Contains (lists_of more)) (lists_of vs)
      → All (Contains (lists_of (match_ordering o (k ∷ v ∷ vs) (v ∷ vs) (v ∷ more)))) (lists_of (v ∷ vs))
  keep_by v vs more Less kept =
      All-weaker (Contains (lists_of (v ∷ vs))) (Contains (lists_of (k ∷ v ∷ vs))) (λ x there. tail_there k.items x (lists_of (v ∷ vs)) there)
      (lists_of (v ∷ vs)) (All-contains_itself (lists_of (v ∷ vs)))
  keep_by v vs more Equal kept = All-contains_itself (lists_of (v ∷ vs))
  keep_by v vs more Greater kept =
      let new = lists_of (v ∷ more) in
      All-cons (Contains new) v.items (lists_of vs) (head_there v.items (lists_of more))
      (All-weaker (Contains (lists_of more)) (Contains new) (λ x there. tail_there v.items x (lists_of more) there) (lists_of vs) kept)

  all_kept : (vs : List (Vec ℕ Global)) → All (Contains (lists_of (insert_key by_bytes vs k))) (lists_of vs)
  all_kept [] = All-nil (Contains (k.items ∷ []))
  all_kept (v ∷ vs) = keep_by v vs (insert_key by_bytes vs k) (by_bytes k v) (all_kept vs)

  no_other : (vs : List (Vec ℕ Global)) → All (λ x. Contains (lists_of vs) x ⊎ (x ≡ k.items)) (lists_of (insert_key by_bytes vs k))
  no_other vs =
      let P : List ℕ → Type 0 = λ x. Contains (lists_of vs) x ⊎ (x ≡ k.items) in
      let old : All (λ (v : Vec ℕ Global). P v.items) vs = λ i v below.
      subst P (get_or-map items_of vs i v [] below) (inl (Contains-get_or (lists_of vs) i [] (omega (arith, below, length-map vs items_of)))) in
      All-map P items_of (insert_key by_bytes vs k) (All-insert_key by_bytes k (λ v. P v.items) vs old (inr refl))

-- in order no two have the same bytes
apart : (vs : List (Vec ℕ Global)) → IsStrictlySortedBy by_bytes vs → AllPairs (λ a b. a ≢ b) (lists_of vs)
apart [] sorted = λ i j d before below. absurd (omega (arith, below))
apart (v ∷ vs) sorted = λ i j d before below same.
    let all = v ∷ vs in
    let within : j < length all = omega (arith, below, length-map all items_of) in
    let less = Less-from_sorted by_bytes all i j v sorted before within in
    let one : (get_or all i v).items ≡ (get_or all j v).items =
    sym (get_or-map items_of all i v d (omega (arith, before, within))) ∙ (same ∙ get_or-map items_of all j v d within) in
    let tied : by_bytes (get_or all i v) (get_or all j v) ≡ Equal =
    ap (λ (x : List ℕ). slice_cmp nat_cmp (get_or all i v).items x) (sym one) ∙ tied_itself nat_list_cmp_total (get_or all i v).items in
    absurd cc

pub is_noted : (old new : List (Vec ℕ Global)) (k : Vec ℕ Global) → new ≡ insert_key by_bytes old k → IsStrictlySortedBy by_bytes new
    → IsNoted (lists_of old) (lists_of new) k.items
is_noted old new k is sorted =
    subst (λ (vs : List (Vec ℕ Global)). IsStrictlySortedBy by_bytes vs → IsNoted (lists_of old) (lists_of vs) k.items) (sym is)
    (λ s. record { there = put_there k old; kept = all_kept k old; no_other = no_other k old; different = apart (insert_key by_bytes old k) s }) sorted

-- ---- a survey

module _ (place restarts : ℕ) (trace : List ℕ) (old mid new : Survey) where
  abbrev found : Extreme
  found = record { place = place; restarts = restarts }

  pub adds_over : (is_over : Bool) → is_over ≡ true → mid.over ≡ old.over + 1 → mid.traces ≡ old.traces → mid.least ≡ Some (lesser old.least found)
      → mid.most ≡ Some (greater old.most found) → new.over ≡ mid.over → new.least ≡ mid.least → new.most ≡ mid.most
      → IsNoted (lists_of mid.traces.keys) (lists_of new.traces.keys) trace → Adds place is_over restarts trace old new
  adds_over is_over so over traces least most over_is least_is most_is noted =
      subst (λ (b : Bool). Adds place b restarts trace old new) (sym so) (record {
        over = over_is ∙ over;
        traces = subst (λ (t : BTreeSet (Vec ℕ Global)). IsNoted (lists_of t.keys) (lists_of new.traces.keys) trace) traces noted;
        least = least_is ∙ least;
        most = most_is ∙ most;
      })

  pub adds_open : (is_over : Bool) → is_over ≡ false → mid ≡ old → new.over ≡ mid.over → new.least ≡ mid.least → new.most ≡ mid.most
      → IsNoted (lists_of mid.traces.keys) (lists_of new.traces.keys) trace → Adds place is_over restarts trace old new
  adds_open is_over so same over_is least_is most_is noted =
      subst (λ (b : Bool). Adds place b restarts trace old new) (sym so) (record {
        over = over_is ∙ (ap (λ (s : Survey). s.over) same ∙ sym (add-zero old.over));
        traces = subst (λ (s : Survey). IsNoted (lists_of s.traces.keys) (lists_of new.traces.keys) trace) same noted;
        least = least_is ∙ ap (λ (s : Survey). s.least) same;
        most = most_is ∙ ap (λ (s : Survey). s.most) same;
      })

-- the same run, told in other words
pub adds_as : (place : ℕ) (b b' : Bool) (r r' : ℕ) (t t' : List ℕ) (old new : Survey) → b ≡ b' → r ≡ r' → t ≡ t' → Adds place b r t old new → Adds place b' r' t' old new
adds_as place b b' r r' t t' old new eb er et adds =
    subst (λ (x : Bool). Adds place x r' t' old new) eb
    (subst (λ (x : ℕ). Adds place b x t' old new) er (subst (λ (x : List ℕ). Adds place b r x old new) et adds))

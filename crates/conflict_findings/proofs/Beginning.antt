-- Within a run no other begins.
use Rattle.std.proofs.Common.{◌≡◌, ℕ, zero, suc, ◌+◌, ◌-◌, ◌<◌, ◌≤◌, ◌==◌, ◌&&◌, not, Bool, true, false, nat_lt, List, Option, Some, None, option_and_then, option_map, unwrap_or, if◌then◌else◌, refl, sym, ap, ◌∙◌, inl, inr, arith, ne_eqb, eqb-true, ltb-true, lt-ltb}
use Rattle.std.specs.Option.{option_or}
use Rattle.std.proofs.lemmas.Bool.{cases_eq, eq-eqb, and_parts, not-true}
use Rattle.rv32_image.specs.Image.{LoadedImage}
use Rattle.spec_history.specs.declared.entry.Entry.{Entry}
use Rattle.spec_history.specs.declared.kind.Kind.{Kind}
use Rattle.spec_history.specs.declared.kind.Kind.TheVariants.{SilentStore}
use Rattle.spec_history.specs.Searches.{first_below, last_below}
use Rattle.conflicts.specs.Blame.{Violation, after, blamed_range, blamed_store, goes_with, is_alike, is_place, range_around, read_at}
use Rattle.spec_history.specs.Conflict.{is_shared}
use Rattle.conflicts.proofs.Blaming.{either_way}
use Rattle.conflicts.proofs.Finding.{same_place}
use Rattle.conflicts.proofs.Nearing.{all_three}
use Rattle.conflict_findings.specs.declared.run.Run.{Run}
use Rattle.conflict_findings.specs.Runs.{is_below_end, only, run_at, run_from, run_with}

-- ---- a range of neighbours

-- the last of so many numbers that passes is one of them
after_most : (n : ℕ) (test : ℕ → Bool) → after (last_below n test) ≤ n
unfolding last_below
after_most zero test = omega arith
after_most (suc n) test = either_way (test n) (after (last_below (suc n) test) ≤ suc n)
    (λ is. rw is (omega arith))
    (λ isnt. rw isnt (omega (arith, after_most n test)))

-- a range that goes up to a byte begins there, if the byte below isn't in it
begins : (n : ℕ) (alike : ℕ → Bool) → alike n ≡ not (after (last_below (suc n) (λ a. not (alike a))) == suc n)
unfolding last_below
begins n alike = either_way (alike n) (alike n ≡ not (after (last_below (suc n) (λ a. not (alike a))) == suc n))
    (λ is. rw is (sym (ap not (ne_eqb (after (last_below n (λ a. not (alike a)))) (suc n) (λ same. omega (arith, same, after_most n (λ a. not (alike a))))))))
    (λ isnt. rw isnt (sym (ap not (eq-eqb (n + 1) (suc n) (omega arith)))))

-- none below the first that passes does
abbrev pub IsLeast : ℕ → (ℕ → Bool) → Option ℕ → Type 0
IsLeast n test None = (k : ℕ) → k < n → test k ≡ false
IsLeast n test (Some found) = (k : ℕ) → k < found → test k ≡ false

one_more : (n : ℕ) (test : ℕ → Bool) (found : Option ℕ) → IsLeast n test found → IsLeast (suc n) test (option_or found (if test n then Some n else None))
one_more n test (Some found) was = was
one_more n test None was = either_way (test n) (IsLeast (suc n) test (if test n then Some n else None))
    (λ is. rw is was)
    (λ isnt. rw isnt (λ k below. elim (cases_eq k n) [
      | inl e ↦ ap test e ∙ isnt
      | inr other ↦ was k (omega (arith, below, other))
    ]))

pub is_least : (n : ℕ) (test : ℕ → Bool) → IsLeast n test (first_below n test)
unfolding first_below
is_least zero test = λ k below. absurd (omega (arith, below))
is_least (suc n) test = one_more n test (first_below n test) (is_least n test)

before_end : (n : ℕ) (test : ℕ → Bool) (found : Option ℕ) (k : ℕ) → IsLeast n test found → k < unwrap_or found n → test k ≡ false
before_end n test None k was below = was k below
before_end n test (Some found) k was below = was k below

not_either : (above alike : Bool) → above ≡ true → (above && not alike) ≡ false → alike ≡ true
not_either true true is fails = refl
not_either true false is fails = absurd cc
not_either false alike is fails = absurd cc

-- the bytes above one, up to the end of the range around it, pass
in_range : (size : ℕ) (alike : ℕ → Bool) (a j : ℕ) → a < j → j < (range_around size alike a).first + (range_around size alike a).length → alike j ≡ true
in_range size alike a j above below =
    let test : ℕ → Bool = λ x. nat_lt a x && not (alike x) in
    let inside : j < unwrap_or (first_below size test) size = omega (arith, above, below, after_most a (λ x. not (alike x))) in
    not_either (nat_lt a j) (alike j) (lt-ltb a j above) (before_end size test (first_below size test) j (is_least size test) inside)

-- ---- a run

place_is : (found : Option ℕ) (place : ℕ) → is_place found place ≡ true → found ≡ Some place
place_is None place is = absurd cc
place_is (Some other) place is = ap Some (eqb-true other place is)

-- a run goes on below a byte, if the byte below met alike
goes_on : (image : LoadedImage) (entries : List Entry) (v : Violation) (load store a : ℕ) → 0 < a
    → is_alike image entries v load store a (a - 1) ≡ not ((blamed_range image entries v load store a).first == a)
goes_on image entries v load store zero above = absurd (omega (arith, above))
goes_on image entries v load store (suc n) above = ap (is_alike image entries v load store (suc n)) (omega arith) ∙ begins n (is_alike image entries v load store (suc n))

-- of a silent store, it doesn't matter which byte is blamed
same_for : (image : LoadedImage) (entries : List Entry) (v : Violation) (load store a b x : ℕ) → v.kind ≡ SilentStore
    → is_alike image entries v load store a x ≡ is_alike image entries v load store b x
same_for image entries v load store a b x kind =
    ap (λ (k : Kind). goes_with image k v.bytes a x && (is_place (read_at entries v x) load && is_place (blamed_store image entries v x) store)) kind
    ∙ sym (ap (λ (k : Kind). goes_with image k v.bytes b x && (is_place (read_at entries v x) load && is_place (blamed_store image entries v x) store)) kind)

none_from : (image : LoadedImage) (entries : List Entry) (v : Violation) (load store j : ℕ) → read_at entries v j ≡ Some load → blamed_store image entries v j ≡ Some store
    → ((blamed_range image entries v load store j).first == j) ≡ false → run_from image entries v j ≡ None
none_from image entries v load store j reads stores other =
    ap (λ (o : Option ℕ). only (λ run. run.bytes.first == j) (option_and_then (λ l. option_map (run_with image entries v l j) (blamed_store image entries v j)) o)) reads
    ∙ (ap (λ (o : Option ℕ). only (λ run. run.bytes.first == j) (option_map (run_with image entries v load j) o)) stores
    ∙ ap (λ (b : Bool). if b then Some (run_with image entries v load j store) else None) other)

-- none begins above the byte, up to the end of its run
within : (image : LoadedImage) (entries : List Entry) (v : Violation) (load store a j : ℕ) → v.kind ≡ SilentStore → is_shared v.bytes a ≡ true
    → read_at entries v a ≡ Some load → blamed_store image entries v a ≡ Some store → a < j
    → j < (blamed_range image entries v load store a).first + (blamed_range image entries v load store a).length → run_from image entries v j ≡ None
within image entries v load store a j kind shared reads stores above below =
    let alike : ℕ → Bool = is_alike image entries v load store a in
    let here = and_parts (goes_with image v.kind v.bytes a j) (is_place (read_at entries v j) load && is_place (blamed_store image entries v j) store) (in_range image.size alike a j above below) in
    let both = and_parts (is_place (read_at entries v j) load) (is_place (blamed_store image entries v j) store) here.1 in
    let itself : alike a ≡ true =
    ap (λ (k : Kind). goes_with image k v.bytes a a && (is_place (read_at entries v a) load && is_place (blamed_store image entries v a) store)) kind
    ∙ all_three (is_shared v.bytes a) (is_place (read_at entries v a) load) (is_place (blamed_store image entries v a) store) shared (same_place _ load reads) (same_place _ store stores) in
    let lower : alike (j - 1) ≡ true = elim (cases_eq a (j - 1)) [
      | inl e ↦ sym (ap alike e) ∙ itself
      | inr other ↦ in_range image.size alike a (j - 1) (omega (arith, above, other)) (omega (arith, above, below))
    ] in
    none_from image entries v load store j (place_is _ load both.0) (place_is _ store both.1)
    (not-true _ (sym (goes_on image entries v load store j (omega (arith, above))) ∙ (sym (same_for image entries v load store a j (j - 1) kind) ∙ lower)))

goes_past : (image : LoadedImage) (entries : List Entry) (v : Violation) (a j : ℕ) (read stored : Option ℕ) → v.kind ≡ SilentStore → is_shared v.bytes a ≡ true → a < j
    → read_at entries v a ≡ read → blamed_store image entries v a ≡ stored
    → is_below_end (option_and_then (λ load. option_map (run_with image entries v load a) stored) read) j ≡ true → run_from image entries v j ≡ None
goes_past image entries v a j None stored kind shared above reads stores is = absurd cc
goes_past image entries v a j (Some load) None kind shared above reads stores is = absurd cc
goes_past image entries v a j (Some load) (Some store) kind shared above reads stores is =
    within image entries v load store a j kind shared reads stores above (ltb-true j _ is)

pub none_within : (image : LoadedImage) (entries : List Entry) (v : Violation) (a j : ℕ) (run : Option Run) → v.kind ≡ SilentStore → is_shared v.bytes a ≡ true → a < j
    → run ≡ run_at image entries v a → is_below_end run j ≡ true → run_from image entries v j ≡ None
none_within image entries v a j run kind shared above told is =
    goes_past image entries v a j (read_at entries v a) (blamed_store image entries v a) kind shared above refl refl (sym (ap (λ (o : Option Run). is_below_end o j) told) ∙ is)

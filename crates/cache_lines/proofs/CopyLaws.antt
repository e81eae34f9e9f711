-- What the calls do to the copies of a cache as the protocol sees them.
use Rattle.std.proofs.Common.{◌≡◌, ℕ, ◌%◌, ◌<◌, ◌==◌, ◌&&◌, Bool, true, false, cond, IfSome, IfNone, option_map, Option, Some, None, refl, sym, ap, subst, ◌∙◌, arith}
use Rattle.std.proofs.Math.Path.{fun_ext}
use Rattle.std.proofs.lemmas.Nat.{pow_pos}
use Rattle.std.proofs.lemmas.Bool.{false_from_ne_true}
use Rattle.std.proofs.lemmas.Bool.Decides.{nat_tests}
use Rattle.spec_states.specs.declared.line.LineState.{LineState}
use Rattle.spec_states.specs.declared.line.Marks.{Marks}
use Rattle.spec_states.specs.declared.next.Next.{Next}
use Rattle.spec_states.specs.Copies.{LineCopy, copy_of, no_copy, merged_line, IsUpToDate}
use Rattle.spec_states.specs.States.{is_valid, is_speculative}
use Rattle.spec_states.specs.Tables.{violation, settlement}
use Rattle.spec_states.proofs.CopyLaws.{IsUpToDate-gone, violation-keeps, settlement-publishes}
use Rattle.spec_states.proofs.RowLaws.{violation-rolls_back, settlement-settles}
use Rattle.cache_lines.specs.declared.line.Line.{Line}
use Rattle.cache_lines.specs.Cells.{cell_of, with_number, line_with_number}
use Rattle.cache_lines.specs.Changes.{changed_line, rolled_back_line, published_line, with_each_line, IsFound, IsAbsent, CopiesAreFilled, CopiesChange, CopiesAllChange}
use Rattle.cache_lines.specs.Lines.{Contents, line_in, with_line, is_copy_of, way_at, held_line}
use Rattle.cache_lines.specs.Placed.{IsPlaced, MayStand}
use Rattle.cache_lines.specs.Protocol.{IsInPlace, copy_of_line, copy_or_none, copy_at, changed_copy, rolled_back_copy, published_copy, copy_with_number}
use Rattle.cache_lines.proofs.LineLaws.{IsPlaced-once, by_way, held_none, is_copy_of-true, is_copy_of-own, held_line-own, held_line-with_line}
use Rattle.cache_lines.proofs.WholeCache.{changed_held, held_line-each, KeepsAddresses, KeepsAddresses-rolled_back, KeepsAddresses-published}

-- ---- one copy

-- a valid line is the cache's copy at its own address
pub copy_at-line : (cache : Contents) → IsPlaced cache → (addr way other : ℕ) → way < cache.geometry.ways
    → is_copy_of (line_in cache addr way) other ≡ true → copy_at cache other ≡ copy_of_line (line_in cache addr way)
copy_at-line cache h addr way other way_way e = ap copy_or_none (held_line-own cache h addr way other way_way e)

pub copy_at-own : (cache : Contents) → IsPlaced cache → (addr way : ℕ) → way < cache.geometry.ways
    → is_valid (line_in cache addr way).state ≡ true
    → copy_at cache (line_in cache addr way).addr ≡ copy_of_line (line_in cache addr way)
copy_at-own cache h addr way way_way v =
    copy_at-line cache h addr way (line_in cache addr way).addr way_way (is_copy_of-own (line_in cache addr way) v)

-- ---- where one line is replaced

-- by any line that may stand there
pub copies-filled : (cache : Contents) (way : ℕ) (line : Line) → IsPlaced cache → way < cache.geometry.ways
    → MayStand cache line.addr way line → CopiesAreFilled cache (with_line cache line.addr way line) way line
copies-filled cache way line h way_way may other =
    ap copy_or_none (held_line-with_line cache line.addr way line h way_way may other)
    ∙ shown (is_copy_of line other) (is_copy_of (line_in cache line.addr way) other) (held_line cache other)
  where
    shown : (b d : Bool) (held : Option Line)
        → copy_or_none (cond b (Some line) (cond d None held)) ≡ cond b (copy_of_line line) (cond d no_copy (copy_or_none held))
    shown true d held = refl
    shown false true held = refl
    shown false false held = refl

-- a line as a copy
abbrev pub shown_line : Line → LineCopy
shown_line line = cond (is_valid line.state) (copy_of_line line) no_copy

-- by a line of its address, if that is valid only where it was, and is the changed copy
pub copies-changed : (cache : Contents) (addr way : ℕ) (line : Line) (change : LineCopy → LineCopy) → IsPlaced cache
    → way < cache.geometry.ways → MayStand cache addr way line → line.addr ≡ (line_in cache addr way).addr
    → (is_valid line.state ≡ true → is_valid (line_in cache addr way).state ≡ true)
    → (is_valid (line_in cache addr way).state ≡ true → shown_line line ≡ change (copy_of_line (line_in cache addr way)))
    → CopiesChange cache (with_line cache addr way line) addr way change
copies-changed cache addr way line change h way_way may same no_revival is_changed other =
    ap copy_or_none (held_line-with_line cache addr way line h way_way may other)
    ∙ elim (is_copy_of before other) as (λ b. is_copy_of before other ≡ b → copy_or_none (cond (is_copy_of line other) (Some line) (cond b None (held_line cache other))) ≡ cond b (change (copy_at cache other)) (copy_at cache other)) [
      | true ↦ λ e. replaced e
      | false ↦ λ e. rw (false_from_ne_true (is_copy_of line other) (λ t. stays e t)) refl
    ] refl
  where
    before : Line
    before = line_in cache addr way

    kept : (b : Bool) → is_valid line.state ≡ b → copy_or_none (cond b (Some line) None) ≡ shown_line line
    kept true e = rw e refl
    kept false e = rw e refl

    test : (v : Bool) (m n x : ℕ) → m ≡ n → n ≡ x → (v && (m == x)) ≡ v
    test v m n x e f = grind (arith, nat_tests)

    replaced : is_copy_of before other ≡ true
        → copy_or_none (cond (is_copy_of line other) (Some line) None) ≡ change (copy_at cache other)
    replaced e =
        let p = is_copy_of-true before other e in
        rw (test (is_valid line.state) line.addr before.addr other same p.1)
        (kept (is_valid line.state) refl ∙ (is_changed p.0 ∙ ap change (sym (copy_at-line cache h addr way other way_way e))))

    stays : is_copy_of before other ≡ false → is_copy_of line other ≡ true → ⊥
    stays e t =
        let p = is_copy_of-true line other t in
        let own : is_copy_of before before.addr ≡ true = is_copy_of-own before (no_revival p.0) in
        let own' : is_copy_of before other ≡ true = subst (λ (a : ℕ). is_copy_of before a ≡ true) (sym same ∙ p.1) own in
        cc

-- by a line with the same state and marks, and with these bytes
shown_valid : (line before : Line) (cell : ℕ → ℕ) → line.state ≡ before.state → line.marks ≡ before.marks
    → ((x : ℕ) → cell_of line x ≡ cell x) → is_valid before.state ≡ true
    → shown_line line ≡ copy_of before.state before.marks cell
shown_valid line before cell same_state same_marks bytes valid =
    rw (same_state, valid, same_marks) (ap (λ (c : ℕ → ℕ). copy_of before.state before.marks c) (fun_ext bytes))

-- a store is written into the copy
pub copies-written : (cache new : Contents) (addr way offset width value : ℕ) (line : Line) → IsPlaced cache
    → way < cache.geometry.ways → MayStand cache addr way line
    → line ≡ line_with_number (line_in cache addr way) offset width value
    → ((x : ℕ) → cell_of line x ≡ with_number (cell_of (line_in cache addr way)) offset width value x)
    → new ≡ with_line cache addr way line → CopiesChange cache new addr way (copy_with_number offset width value)
copies-written cache new addr way offset width value line h way_way may is_written bytes is_new =
    subst (λ (c : Contents). CopiesChange cache c addr way (copy_with_number offset width value)) (sym is_new)
    (copies-changed cache addr way line (copy_with_number offset width value) h way_way may
    (ap (λ (l : Line). l.addr) is_written)
    (λ v. ap (λ (l : Line). is_valid l.state) (sym is_written) ∙ v)
    (shown_valid line (line_in cache addr way) (with_number (cell_of (line_in cache addr way)) offset width value)
    (ap (λ (l : Line). l.state) is_written) (ap (λ (l : Line). l.marks) is_written) bytes))

-- the state and the marks of a line changed
pub copies-marked : (cache new : Contents) (addr way : ℕ) (next : Next) → IsPlaced cache → way < cache.geometry.ways
    → (is_valid next.state ≡ true → is_valid (line_in cache addr way).state ≡ true)
    → MayStand cache addr way (changed_line (line_in cache addr way) next)
    → new ≡ with_line cache addr way (changed_line (line_in cache addr way) next)
    → CopiesChange cache new addr way (λ copy. changed_copy copy next)
copies-marked cache new addr way next h way_way held may is_new =
    subst (λ (c : Contents). CopiesChange cache c addr way (λ copy. changed_copy copy next)) (sym is_new)
    (copies-changed cache addr way (changed_line (line_in cache addr way) next) (λ copy. changed_copy copy next) h way_way may refl held (λ v. refl))

-- a change of a line, seen as one of its copy
pub record ChangesCopy (change : Line → Line) (shown : LineCopy → LineCopy) : Type 0 where
  pub keeps : KeepsAddresses change
  pub seen : (line : Line) → shown_line (change line) ≡ shown (copy_of_line line)
  pub none : no_copy ≡ shown no_copy

pub ChangesCopy-rolled_back : ChangesCopy rolled_back_line rolled_back_copy
ChangesCopy-rolled_back = record { keeps = KeepsAddresses-rolled_back; seen = λ line. refl; none = refl }

pub ChangesCopy-published : (alone : Bool) → ChangesCopy (published_line alone) (published_copy alone)
ChangesCopy-published alone =
    record { keeps = KeepsAddresses-published alone; seen = λ line. refl; none = refl }

-- each line is changed so
pub copies-each : (change : Line → Line) (shown : LineCopy → LineCopy) → ChangesCopy change shown
    → (cache : Contents) → IsPlaced cache → CopiesAllChange cache (with_each_line change cache) shown
copies-each change shown h cache placed addr =
    ap copy_or_none (held_line-each change h.keeps cache placed addr) ∙ one (held_line cache addr)
  where
    kept : (line : Line) (b : Bool) → is_valid line.state ≡ b → copy_or_none (cond b (Some line) None) ≡ shown_line line
    kept line true e = rw e refl
    kept line false e = rw e refl

    one : (held : Option Line) → copy_or_none (changed_held change held) ≡ shown (copy_or_none held)
    one None = h.none
    one (Some line) = kept (change line) (is_valid (change line).state) refl ∙ h.seen line

-- ---- what is found

-- the copy of a line is in its place
pub in_place : (cache : Contents) → IsPlaced cache → (addr : ℕ) → IsInPlace cache.line_length addr (copy_at cache addr)
in_place cache h addr =
    by_way cache addr (λ o. IsInPlace cache.line_length addr (copy_or_none (option_map (line_in cache addr) o)))
    (λ w lt copy.
    let p = is_copy_of-true (line_in cache addr w) addr copy in
    let fits = h.fits addr w lt p.0 in
    record {
      aligned = λ _. ap (λ a. a % cache.line_length) (sym p.1) ∙ h.aligned addr w lt p.0;
      mask = fits.mask;
      cells = fits.cells;
    })
    (λ none. record { aligned = λ valid. absurd cc; mask = pow_pos cache.line_length; cells = λ x _. refl })

-- the way of a line has its copy
pub way-found : (cache : Contents) → IsPlaced cache → (addr : ℕ) → IfSome (way_at cache addr) (IsFound cache addr)
way-found cache h addr =
    by_way cache addr (λ o. IfSome o (IsFound cache addr))
    (λ w lt copy.
    let p = is_copy_of-true (line_in cache addr w) addr copy in
    record {
      in_ways = lt;
      copy = copy_at-line cache h addr w addr lt copy;
      copy_of_it = λ other. rw (p.0, p.1) refl;
      once = λ v v_way apart. IsPlaced-once cache h addr w v lt v_way apart copy;
      aligned = ap (λ a. a % cache.line_length) (sym p.1) ∙ h.aligned addr w lt p.0;
    })
    (λ none. tt)

pub way-absent : (cache : Contents) (addr : ℕ) → IfNone (way_at cache addr) (IsAbsent cache addr)
way-absent cache addr =
    by_way cache addr (λ o. IfNone o (IsAbsent cache addr)) (λ w lt copy. tt)
    (λ none. record { nowhere = none; copy = ap copy_or_none (held_none cache addr none) })

-- ---- the copies after a violation and after a publish

-- a copy after a change that leaves no marks
unmarked_copy : (next : LineState) (marks : Marks) (cell : ℕ → ℕ) (b : Bool) → is_speculative next ≡ false
    → is_speculative (cond b (copy_of next marks cell) no_copy).state ≡ false
unmarked_copy next marks cell true e = e
unmarked_copy next marks cell false e = refl

pub unmarked-rolled_back : (copy : LineCopy) → is_speculative (rolled_back_copy copy).state ≡ false
unmarked-rolled_back copy =
    unmarked_copy (violation copy.state copy.marks).state (violation copy.state copy.marks).marks copy.cell _
    (violation-rolls_back copy.state copy.marks).unmarked

pub unmarked-published : (alone : Bool) (copy : LineCopy) → is_speculative (published_copy alone copy).state ≡ false
unmarked-published alone copy =
    unmarked_copy (settlement copy.state copy.marks alone).state (settlement copy.state copy.marks alone).marks copy.cell _
    (settlement-settles copy.state copy.marks alone).unmarked

up_to_date_copy : (copy : LineCopy) (committed : ℕ → ℕ) (b : Bool) → IsUpToDate copy committed
    → IsUpToDate (cond b copy no_copy) committed
up_to_date_copy copy committed true h = h
up_to_date_copy copy committed false h = IsUpToDate-gone (λ _. 0) committed

-- a copy that was up to date stays so, or goes
pub IsUpToDate-rolled_back : (copy : LineCopy) (committed : ℕ → ℕ) → IsUpToDate copy committed
    → IsUpToDate (rolled_back_copy copy) committed
IsUpToDate-rolled_back copy committed h =
    up_to_date_copy _ committed _ (violation-keeps copy.state copy.marks copy.cell committed h)

-- the copy is up to date with the line as the publish leaves it
pub IsUpToDate-published : (alone : Bool) (copy : LineCopy) (committed : ℕ → ℕ) → IsUpToDate copy committed
    → IsUpToDate (published_copy alone copy) (merged_line copy.marks.bytes copy.cell committed)
IsUpToDate-published alone copy committed h =
    up_to_date_copy _ _ _ (settlement-publishes copy.state copy.marks alone copy.cell committed h)

-- ---- at the way that `find` gives

-- the copy of its address changes, and no other
pub copies-found : (old new : Contents) (addr way : ℕ) (change : LineCopy → LineCopy) → IsFound old addr way
    → CopiesChange old new addr way change → (other : ℕ)
    → copy_at new other ≡ cond (addr == other) (change (copy_at old other)) (copy_at old other)
copies-found old new addr way change found changes other = rw (← found.copy_of_it other) (changes other)

-- a line of its address takes its place: it is the copy, or there is none where it is not valid
pub copies-refilled : (old new : Contents) (addr way : ℕ) (line : Line) → IsFound old addr way → line.addr ≡ addr
    → CopiesAreFilled old new way line → (other : ℕ)
    → copy_at new other ≡ cond (addr == other) (shown_line line) (copy_at old other)
copies-refilled old new addr way line found same filled other =
    filled other
    ∙ rw (same, found.copy_of_it other) (choice (is_valid line.state) (addr == other) (copy_at old other))
  where
    choice : (v b : Bool) (copy : LineCopy)
        → cond (v && b) (copy_of_line line) (cond b no_copy copy) ≡ cond b (cond v (copy_of_line line) no_copy) copy
    choice true true copy = refl
    choice true false copy = refl
    choice false true copy = refl
    choice false false copy = refl

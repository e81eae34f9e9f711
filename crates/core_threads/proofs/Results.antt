-- The book that the lock gives back at the end of a run.
use Rattle.std.proofs.Common.{◌≡◌, ℕ, ◌+◌, ◌<◌, Bool, true, cond, List, [], ◌∷◌, All, Option, Some, None, refl, sym, ap, ◌∙◌, arith}
use Rattle.std.proofs.lemmas.List.Elements.{All-head, All-tail, All-nil, All-cons}
use Rattle.std.proofs.lemmas.Bool.Decides.{nat_tests}
use Rattle.rv32_exec.specs.declared.sequential.End.{End}
use Rattle.run_ledger.specs.declared.counts.Counts.{Counts}
use Rattle.spec_history.specs.declared.entry.Entry.{Entry}
use Rattle.spec_history.specs.declared.entry.What.{What}
use Rattle.spec_history.proofs.Replay.Replays.{replayed}
use Rattle.violations.specs.View.{StoreView}
use Rattle.ticket_lock.specs.Past.{is_of, entries_of}
use Rattle.ticket_lock.specs.Known.{mine}
use Rattle.homefree.specs.declared.answer.StopCause.{StopCause}
use Rattle.homefree.specs.BookView.{BookView}
use Rattle.homefree.specs.InStep.{InStep}
use Rattle.homefree.specs.LockView.{loop_of, past_of}
use Rattle.homefree.proofs.Books.Drives.{in_order}
use Rattle.homefree.proofs.Violations.Knowing.{are_known}
use Rattle.core_threads.specs.declared.fault.RunFault.{RunFault}
use Rattle.core_threads.specs.Faults.{fault_of}
use Rattle.core_threads.specs.Passes.{Knows, IsCounted, counts_in}
use Rattle.core_threads.specs.Sentence.{Stands, Finishes, Halts, Explains}
use Rattle.core_threads.proofs.Counting.{counts-past}

-- ---- all entries are those of the last pass

past_below : (cores n : ℕ) → n ≡ cores + 1 → (history : List Entry) → All (λ (e : Entry). e.by < cores) history → All (λ (e : ℕ × What). e.0 < n) (past_of history)
past_below cores n more [] below = All-nil (λ (e : ℕ × What). e.0 < n)
past_below cores n more (e ∷ es) below =
    let lt : e.by < cores = All-head (λ (e : Entry). e.by < cores) e es below in
    All-cons (λ (e : ℕ × What). e.0 < n) (e.by, e.what) (past_of es) (omega (arith, lt, more)) (past_below cores n more es (All-tail (λ (e : Entry). e.by < cores) e es below))

all_of : (n : ℕ) (past : List (ℕ × What)) → All (λ e. e.0 < n) past → entries_of 0 n past ≡ past
all_of n [] below = refl
all_of n (x ∷ xs) below =
    let P : ℕ × What → Type 0 = λ e. e.0 < n in
    let lt : x.0 < n = All-head P x xs below in
    let in' : is_of 0 n x ≡ true = grind (arith, nat_tests) in
    ap (λ (t : Bool). cond t (x ∷ entries_of 0 n xs) (entries_of 0 n xs)) in' ∙ ap (λ (l : List (ℕ × What)). x ∷ l) (all_of n xs (All-tail P x xs below))

-- all shares together are the book's totals
pub all_counted : {S : Type 0} (view : S → StoreView) (p : Knows) (b : BookView S) (n : ℕ) (s : Counts) → p.lo ≡ 0 → p.hi ≡ n → n ≡ b.cores + 1
    → entries_of p.lo p.hi (past_of b.history) ≡ mine p → IsCounted p s → InStep view b → s ≡ b.totals
all_counted {S} view p b n s low high more own c i =
    let past = past_of b.history in
    let all : entries_of p.lo p.hi past ≡ past = (λ j. entries_of (low j) (high j) past) ∙ all_of n past (past_below b.cores n more b.history i.by_cores) in
    c.counted ∙ (ap (λ (l : List (ℕ × What)). counts_in l) (sym own ∙ all) ∙ (counts-past b.history ∙ sym i.counted))

-- ---- the sentence

module _ {S : Type 0} (view : S → StoreView) (b : BookView S) (i : InStep view b) where
  stands : Stands view b i.state
  stands =
      let p = (replayed b.image b.cores b.history i.state i.is_image i.replays).published in record {
        replays = i.replays;
        agrees = i.agrees;
        memory = p.memory;
        published = p.published;
        committed = record { long = p.holds.long; bytes = λ a. i.agrees.committed a ∙ p.holds.bytes a };
        totals = i.counted;
      }

  pub finishes : (end : End) (ended : Option End) (totals counted : Counts) → ended ≡ i.state.end → ended ≡ Some end → totals ≡ b.totals → counted ≡ b.totals → Finishes view (loop_of b) b end totals counted
  finishes end ended totals counted same is totals_are counted_are = record {
    loop = refl;
    state = i.state;
    stands = stands;
    over = sym same ∙ is;
    in_order = in_order view b end i (sym same ∙ is);
    totals_are = totals_are;
    counted_are = counted_are;
  }

  pub halts : (fault : RunFault) (ended : Option End) (stopped : Option StopCause) (counted : Counts) → ended ≡ i.state.end → ended ≡ None → stopped ≡ b.stopped → fault ≡ fault_of stopped → counted ≡ b.totals
      → Halts view (loop_of b) b fault counted
  halts fault ended stopped counted same is stops fault_is counted_are = record {
    loop = refl;
    state = i.state;
    stands = stands;
    going = sym same ∙ is;
    counted_are = counted_are;
    fault_is = fault_is ∙ ap (λ c. fault_of c) stops;
    full = i.full;
  }

  pub explains : Explains view b
  explains = record { caused = i.caused; known = are_known b.image b.cores b.history i.kinds; starts = i.starts; passes = i.passes; within = i.within }

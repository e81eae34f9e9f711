-- All turns of a drive, one after another: over the caches none violates an epoch.
use Rattle.std.proofs.Common.{◌≡◌, ◌≢◌, ℕ, nat_lt, Bool, true, false, cond, List, [], ◌∷◌, ◌++◌, Option, Some, None, Result, Ok, Err, option_map, refl, sym, ap, subst, ◌∙◌, append_assoc, append-nil, lt-ltb}
use Rattle.rv32_image.specs.Image.{LoadedImage, IsImage}
use Rattle.rv32_image.proofs.SmallFacts.{one_value}
use Rattle.rv32_exec.specs.declared.sequential.End.{End}
use Rattle.rv32_exec.specs.Hart.{HartState}
use Rattle.run_ledger.specs.Counts.{no_counts}
use Rattle.spec_history.specs.declared.entry.Entry.{Entry}
use Rattle.spec_history.specs.FlatState.{FlatState, first_state}
use Rattle.spec_history.specs.Replay.{replay}
use Rattle.spec_history.proofs.Replay.Reaching.{no_entries}
use Rattle.bus_states.specs.Bus.{Bus, no_core}
use Rattle.spec_bus.specs.Cached.{CachedView, store_view, waits}
use Rattle.spec_bus.specs.Fresh.{by_places, fresh_bus, idle_core}
use Rattle.spec_bus.specs.Laws.{Makes, Starts}
use Rattle.homefree.specs.declared.answer.Answer.{Answer}
use Rattle.homefree.specs.declared.answer.Answer.TheVariants.{Go, Again, Left, Over, Stopped}
use Rattle.homefree.specs.declared.book.Loop.{Loop}
use Rattle.homefree.specs.declared.fault.TurnFault.{TurnFault}
use Rattle.homefree.specs.BookView.{BookView}
use Rattle.homefree.specs.Driven.{Driven, Driver, EndsOrGoes, arrival_of, driver, held_after, with_held}
use Rattle.homefree.specs.Ending.{NoneStartsAfterCancel}
use Rattle.homefree.specs.InStep.{InStep}
use Rattle.homefree.specs.Retraced.{IsRetraced, book_over, turns_of}
use Rattle.homefree.proofs.Books.Following.{turn_grows}
use Rattle.dependences.specs.Conflict.{LineConflict}
use Rattle.dependences.specs.Laws.{NoneIsHurt}
use Rattle.dependences.specs.Shared.{SharedOverflow}
use Rattle.never_or_shown.proofs.Tidy.{IsTidy, none-fit}
use Rattle.never_or_shown.proofs.Lines.{Reads, Shares, Writes}
use Rattle.never_or_shown.proofs.Epochs.{IsSeen}
use Rattle.never_or_shown.proofs.Calm.{unhurt-none}
use Rattle.never_or_shown.proofs.Steps.{Node, Stepped, stepped}

abbrev GoesOn : Driver CachedView → Driver CachedView → List ℕ → Result (Option End) TurnFault → (ℕ → Option HartState) → ℕ → Answer → Type 0
GoesOn mid new xs result held core a = Driven Makes store_view waits (with_held held core (held_after a (held core))) mid xs result new

extends_by : (mid new : Driver CachedView) (answer : Result Answer TurnFault) (result : Result (Option End) TurnFault) (goes : Answer → Type 0)
    → ((a : Answer) → goes a → (rest : List Entry) × (new.book.history ≡ mid.book.history ++ rest)) → EndsOrGoes answer (λ r. (new ≡ mid) × (result ≡ r)) goes
    → (rest : List Entry) × (new.book.history ≡ mid.book.history ++ rest)
extends_by mid new (Ok (Over end)) result goes on (same, ends) = ([], ap (λ (d : Driver CachedView). d.book.history) same ∙ sym (append-nil mid.book.history))
extends_by mid new (Ok (Stopped cause)) result goes on (same, ends) = ([], ap (λ (d : Driver CachedView). d.book.history) same ∙ sym (append-nil mid.book.history))
extends_by mid new (Err fault) result goes on (same, ends) = ([], ap (λ (d : Driver CachedView). d.book.history) same ∙ sym (append-nil mid.book.history))
extends_by mid new (Ok (Go hart)) result goes on d = on (Go hart) d
extends_by mid new (Ok (Again cause)) result goes on d = on (Again cause) d
extends_by mid new (Ok Left) result goes on d = on Left d

-- the history of a drive grows
extends : (held : ℕ → Option HartState) (old new : Driver CachedView) (schedule : List ℕ) (result : Result (Option End) TurnFault)
    → Driven Makes store_view waits held old schedule result new → (rest : List Entry) × (new.book.history ≡ old.book.history ++ rest)
extends held old new [] result (same, ends) = ([], ap (λ (d : Driver CachedView). d.book.history) same ∙ sym (append-nil old.book.history))
extends held old new (core ∷ xs) result (mid, answer, turned, more) =
    let grows = turn_grows store_view waits old.book mid.book turned.state old.shares mid.shares core (option_map (arrival_of old.book.image) (held core)) answer turned.replays turned.turns.turned in
    let later = extends_by mid new answer result (GoesOn mid new xs result held core) (λ a d. extends (with_held held core (held_after a (held core))) mid new xs result d) more in
    (grows.entries ++ later.0, later.1 ∙ (ap (λ es. es ++ later.0) grows.history ∙ append_assoc old.book.history grows.entries later.0))

module _ (image : LoadedImage) (cores : ℕ) (is : IsImage image) (free : LineConflict image cores → ⊥) (room_left : SharedOverflow image cores → ⊥)
    (whole : List Entry) (starts : NoneStartsAfterCancel whole) (last : FlatState) (whole_replays : replay image cores whole ≡ Some last) where
  node_of : (b : BookView CachedView) (s state : FlatState) → replay b.image b.cores b.history ≡ Some state → Node image cores b s → Node image cores b state
  node_of b s state leads node =
      subst (λ (x : FlatState). Node image cores b x)
      (one_value (replay image cores b.history) s state node.replays (sym (λ i. replay (node.image_is i) (node.cores_is i) b.history) ∙ leads)) node

  ended : (mid new : Driver CachedView) → new ≡ mid → NoneIsHurt mid.book.history → NoneIsHurt new.book.history
  ended mid new same quiet = subst (λ (d : Driver CachedView). NoneIsHurt d.book.history) (sym same) quiet

  drive_unhurt : (held : ℕ → Option HartState) (old new : Driver CachedView) (schedule : List ℕ) (result : Option End) (s : FlatState) → Node image cores old.book s
      → whole ≡ new.book.history → Driven Makes store_view waits held old schedule (Ok result) new → NoneIsHurt new.book.history
  drive_unhurt held old new [] result s node is_whole (same, ends) = ended old new same node.unhurt
  drive_unhurt held old new (core ∷ xs) result s node is_whole (mid, answer, turned, more) =
      let later = extends_by mid new answer (Ok result) (GoesOn mid new xs (Ok result) held core) (λ a d. extends (with_held held core (held_after a (held core))) mid new xs (Ok result) d) more in
      let step = stepped image cores is free room_left whole starts last whole_replays old.book mid.book turned.state (node_of old.book s turned.state turned.replays node) old.shares mid.shares core
      (option_map (arrival_of old.book.image) (held core)) answer later.0 (is_whole ∙ later.1) (no_fault mid new answer result (GoesOn mid new xs (Ok result) held core) more) turned.turns.moves turned.turns.turned in
      by_answer mid new answer result (GoesOn mid new xs (Ok result) held core) step
      (λ a t n d. drive_unhurt (with_held held core (held_after a (held core))) mid new xs result t n is_whole d) more
    where
      no_fault : (mid new : Driver CachedView) (answer : Result Answer TurnFault) (result : Option End) (goes : Answer → Type 0)
          → EndsOrGoes answer (λ r. (new ≡ mid) × (Ok result ≡ r)) goes → (fault : TurnFault) → answer ≢ Err fault
      no_fault mid new (Ok a) result goes more fault e = cc
      no_fault mid new (Err f) result goes (same, ends) fault e = cc

      by_answer : (mid new : Driver CachedView) (answer : Result Answer TurnFault) (result : Option End) (goes : Answer → Type 0) → Stepped image cores mid.book answer
          → ((a : Answer) (t : FlatState) → Node image cores mid.book t → goes a → NoneIsHurt new.book.history)
          → EndsOrGoes answer (λ r. (new ≡ mid) × (Ok result ≡ r)) goes → NoneIsHurt new.book.history
      by_answer mid new (Ok (Over end)) result goes step on (same, ends) = ended mid new same step.unhurt
      by_answer mid new (Ok (Stopped cause)) result goes step on (same, ends) = ended mid new same step.unhurt
      by_answer mid new (Err fault) result goes step on (same, ends) = ended mid new same step.unhurt
      by_answer mid new (Ok (Go hart)) result goes step on d = let n = step.node (λ end e. cc) in on (Go hart) n.0 n.1 d
      by_answer mid new (Ok (Again cause)) result goes step on d = let n = step.node (λ end e. cc) in on (Again cause) n.0 n.1 d
      by_answer mid new (Ok Left) result goes step on d = let n = step.node (λ end e. cc) in on Left n.0 n.1 d

  -- ---- the first book

  idle_tidy : (R W H : ℕ → Type 0) (b : Bool) → IsTidy R W H (cond b (idle_core (by_places image).machine) no_core)
  idle_tidy R W H true = record {
    listed = λ a. refl;
    once = tt;
    share = λ a held. absurd cc;
    fit = λ a. none-fit (R a) (W a);
    unmarked = λ s a. refl;
  }
  idle_tidy R W H false = record {
    listed = λ a. refl;
    once = tt;
    share = λ a held. absurd cc;
    fit = λ a. none-fit (R a) (W a);
    unmarked = λ s a. refl;
  }

  idle_attempt : (b : Bool) → (cond b (idle_core (by_places image).machine) no_core).attempt ≡ None
  idle_attempt true = refl
  idle_attempt false = refl

  fresh_seen : IsSeen image cores (first_state image) (fresh_bus (by_places image) cores)
  fresh_seen = record {
    length = refl;
    attempt = λ k. idle_attempt (nat_lt k cores);
    limit = λ k below. ap (λ b. (cond b (idle_core (by_places image).machine) no_core).buffer.limit) (lt-ltb k cores below);
    own = λ k c a byte at owned. absurd cc;
    tidy = λ k. idle_tidy (Reads image cores _) (Writes image cores _) (Shares image cores _) (nat_lt k cores);
  }

  first_node : (b : BookView CachedView) → b.image ≡ image → b.cores ≡ cores → b.history ≡ [] → Starts image cores b.store → Node image cores b (first_state image)
  first_node b image_is cores_is empty starts_so = record {
    image_is = image_is;
    cores_is = cores_is;
    replays = ap (replay image cores) empty ∙ no_entries image cores;
    unhurt = subst (λ (es : List Entry). NoneIsHurt es) (sym empty) unhurt-none;
    seen = subst (λ (x : Bus). IsSeen image cores (first_state image) x) (sym starts_so.bus_is) fresh_seen;
    places = record { machine = ap (λ (x : Bus). x.shape.machine) starts_so.bus_is; size = starts_so.size; apart = starts_so.apart };
  }

-- over the caches, whatever turns have led to a book, no epoch is violated
pub none_is_hurt : (b : BookView CachedView) → InStep store_view b → IsRetraced Starts Makes store_view waits b → (LineConflict b.image b.cores → ⊥) → (SharedOverflow b.image b.cores → ⊥)
    → NoneIsHurt b.history
none_is_hurt b i back free room_left =
    let loop = back.is_new.loop in
    let image_is : back.first.image ≡ b.image = ap (λ (l : Loop). l.image) loop in
    let cores_is : back.first.cores ≡ b.cores = ap (λ (l : Loop). l.cores) loop in
    drive_unhurt b.image b.cores i.is_image free room_left b.history i.starts i.state i.replays (λ _. None) (driver back.first no_counts) (driver (book_over b back.store) back.shares)
    (turns_of b.cores b.history) back.result (first_state b.image)
    (first_node b.image b.cores i.is_image free room_left b.history i.starts i.state i.replays back.first image_is cores_is back.is_new.history back.is_new.started) refl back.drives

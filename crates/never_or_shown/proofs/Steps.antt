-- Any turn of a book over the caches: it violates no epoch, and the caches have what the history leads to then.
use Rattle.std.proofs.Common.{◌≡◌, ◌≢◌, ℕ, List, ◌++◌, Option, Some, None, Result, Ok, Err, sym, ap, subst, ◌∙◌, append_assoc}
use Rattle.rv32_image.specs.Image.{LoadedImage, IsImage}
use Rattle.rv32_exec.specs.declared.sequential.End.{End}
use Rattle.rv32_exec.specs.Arrival.{Arrival}
use Rattle.run_ledger.specs.declared.counts.Counts.{Counts}
use Rattle.spec_history.specs.declared.entry.Entry.{Entry}
use Rattle.spec_history.specs.FlatState.{FlatState}
use Rattle.spec_history.specs.Replay.{replay}
use Rattle.spec_history.proofs.Replay.Joining.{splits}
use Rattle.violations.specs.View.{StoreView}
use Rattle.violations.specs.Rule.{IsSameView}
use Rattle.bus_states.specs.Bus.{Bus}
use Rattle.bus_states.specs.Views.{view_of}
use Rattle.spec_bus.specs.Cached.{CachedView, bus, store_view, waits, seen as seen_by}
use Rattle.spec_bus.specs.Laws.{Makes}
use Rattle.homefree.specs.declared.answer.Answer.{Answer}
use Rattle.homefree.specs.declared.answer.Answer.TheVariants.{Over}
use Rattle.homefree.specs.declared.fault.TurnFault.{TurnFault}
use Rattle.homefree.specs.BookView.{BookView}
use Rattle.homefree.specs.Ending.{NoneStartsAfterCancel}
use Rattle.homefree.specs.Moves.{StoreMoves, TurnMoves, standing_of}
use Rattle.homefree.specs.Turned as turn
use Rattle.homefree.specs.Turned.{Outcome, Turn, Turned, turn_at}
use Rattle.dependences.specs.Conflict.{LineConflict}
use Rattle.dependences.specs.Laws.{NoneIsHurt}
use Rattle.dependences.specs.Shared.{SharedOverflow}
use Rattle.never_or_shown.proofs.Epochs.{IsSeen}
use Rattle.never_or_shown.proofs.Calls.{HasPlaces, places_after, reserve_same}
use Rattle.never_or_shown.proofs.Calm.{IsCalm}
use Rattle.never_or_shown.proofs.BusTurning.{Keeps, calm_at}
use Rattle.never_or_shown.proofs.Turns.{early_turn, load_turn, none_turn, restart_turn, start_turn, store_turn, told_turn, wait_turn}
use Rattle.never_or_shown.proofs.Homefree.{commit_turn, exit_turn, fault_turn, straight_load_turn, straight_store_turn}

-- ---- a turn

module _ (t : Turn) (is : IsImage t.image) (free : LineConflict t.image t.cores → ⊥) (room_left : SharedOverflow t.image t.cores → ⊥) (whole : List Entry) (starts : NoneStartsAfterCancel whole)
    (last : FlatState) (whole_replays : replay t.image t.cores whole ≡ Some last) (h : List Entry) (replays : replay t.image t.cores h ≡ Some t.state) (unhurt : NoneIsHurt h)
    (goes_on : t.state.end ≡ None) (calm : IsCalm t.image t.cores t.state) (r : CachedView) (places : HasPlaces t.image r) (seen : IsSeen t.image t.cores t.state (bus r)) (waits_are : waits r ≡ t.waits)
    (v : StoreView) (same : IsSameView (store_view r) v) (w : CachedView) (moves : TurnMoves Makes store_view (standing_of t) r w)
    (out : Outcome) (rest : List Entry) (is_whole : whole ≡ (h ++ out.entries) ++ rest) where
  follows_keep : turn.Follows t v (store_view w) out → Keeps t h w out
  follows_keep (turn.loads l) = load_turn t is free room_left whole starts last whole_replays h replays unhurt goes_on calm r places seen waits_are v same w moves out rest is_whole l
  follows_keep (turn.stores l) = store_turn t is free room_left whole starts last whole_replays h replays unhurt goes_on calm r places seen waits_are v same w moves out rest is_whole l
  follows_keep (turn.waits l) = wait_turn t is free room_left whole starts last whole_replays h replays unhurt goes_on calm r places seen waits_are v same w moves out rest is_whole l
  follows_keep (turn.loads_straight l) = straight_load_turn t is free room_left whole starts last whole_replays h replays unhurt goes_on calm r places seen waits_are v same w moves out rest is_whole l
  follows_keep (turn.stores_straight l) = straight_store_turn t is free room_left whole starts last whole_replays h replays unhurt goes_on calm r places seen waits_are v same w moves out rest is_whole l
  follows_keep (turn.is_early l) = early_turn t is free room_left whole starts last whole_replays h replays unhurt goes_on calm r places seen waits_are v same w moves out rest is_whole l
  follows_keep (turn.commits l) = commit_turn t is free room_left whole starts last whole_replays h replays unhurt goes_on calm r places seen waits_are v same w moves out rest is_whole l
  follows_keep (turn.exits_loop l) = exit_turn t is free room_left whole starts last whole_replays h replays unhurt goes_on calm r places seen waits_are v same w moves out rest is_whole l
  follows_keep (turn.faults l) = fault_turn t is free room_left whole starts last whole_replays h replays unhurt goes_on calm r places seen waits_are v same w moves out rest is_whole l

  pub acts_keep : turn.Acts t v (store_view w) out → Keeps t h w out
  acts_keep (turn.starts l) = start_turn t is free room_left whole starts last whole_replays h replays unhurt goes_on calm r places seen waits_are v same w moves out rest is_whole l
  acts_keep (turn.finds_none l) = none_turn t is free room_left whole starts last whole_replays h replays unhurt goes_on calm r places seen waits_are v same w moves out rest is_whole l
  acts_keep (turn.restarts l) = restart_turn t is free room_left whole starts last whole_replays h replays unhurt goes_on calm r places seen waits_are v same w moves out rest is_whole l
  acts_keep (turn.is_told l) = told_turn t is free room_left whole starts last whole_replays h replays unhurt goes_on calm r places seen waits_are v same w moves out rest is_whole l
  acts_keep (turn.follows l) = follows_keep l

-- ---- books

-- a book of this loop without a violation, and its caches have what its history leads to
pub record Node (image : LoadedImage) (cores : ℕ) (b : BookView CachedView) (s : FlatState) : Type 0 where
  pub image_is : b.image ≡ image
  pub cores_is : b.cores ≡ cores
  pub replays : replay image cores b.history ≡ Some s
  pub unhurt : NoneIsHurt b.history
  pub seen : IsSeen image cores s (bus b.store)
  pub places : HasPlaces image b.store

-- what a turn comes to
pub record Stepped (image : LoadedImage) (cores : ℕ) (b : BookView CachedView) (answer : Result Answer TurnFault) : Type 0 where
  pub unhurt : NoneIsHurt b.history
  pub node : ((end : End) → answer ≢ Ok (Over end)) → (s : FlatState) × Node image cores b s

module _ (image : LoadedImage) (cores : ℕ) (is : IsImage image) (free : LineConflict image cores → ⊥) (room_left : SharedOverflow image cores → ⊥)
    (whole : List Entry) (starts : NoneStartsAfterCancel whole) (last : FlatState) (whole_replays : replay image cores whole ≡ Some last) where
  module _ (old new : BookView CachedView) (s : FlatState) (node : Node image cores old s) (shares shares' : Counts) (core : ℕ) (next : Option Arrival) (answer : Result Answer TurnFault) where
    abbrev here : Turn
    here = record { image = image; cores = cores; waits = waits old.store; state = s; core = core; next = next }

    turn_is : turn_at waits old s core next ≡ here
    turn_is = λ i. record { image = node.image_is i; cores = node.cores_is i; waits = waits old.store; state = s; core = core; next = next }

    stays : new ≡ old → Stepped image cores new answer
    stays same = subst (λ (b : BookView CachedView). Stepped image cores b answer) (sym same) (record { unhurt = node.unhurt; node = λ going. (s, node) })

    module _ (rest : List Entry) (is_whole : whole ≡ new.history ++ rest) (a : turn.Acting store_view waits old new s shares shares' core next answer)
        (m : StoreMoves Makes store_view waits (standing_of (turn_at waits old s core next)) old.store new.store) where
      reserved : CachedView
      reserved = m.reserved

      bus_is : bus m.reserved ≡ bus old.store
      bus_is = reserve_same old.store m.reserved m.reserves

      view_is : store_view m.reserved ≡ store_view old.store
      view_is = λ i. seen_by (m.reserves.after.places.size i) (m.reserves.after.places.apart i) (view_of (bus_is i))

      entries_are : whole ≡ (old.history ++ a.out.entries) ++ rest
      entries_are = is_whole ∙ ap (λ es. es ++ rest) a.grows.history

      calm : IsCalm image cores s
      calm = calm_at here is free room_left whole starts old.history (a.out.entries ++ rest) s (entries_are ∙ append_assoc old.history a.out.entries rest) node.unhurt node.replays a.may.going

      keeps : Keeps here old.history new.store a.out
      keeps = acts_keep here is free room_left whole starts last whole_replays old.history node.replays node.unhurt a.may.going calm m.reserved
          (places_after image old.store m.reserved node.places (ap (λ (b : Bus). b.shape) bus_is) m.reserves.after.places)
          (subst (λ (b : Bus). IsSeen image cores s b) (sym bus_is) node.seen) m.waits_are a.reserved
          (subst (λ (x : StoreView). IsSameView x a.reserved) (sym view_is) a.same) new.store
          (subst (λ (x : Turn). TurnMoves Makes store_view (standing_of x) m.reserved new.store) turn_is m.moves) a.out rest entries_are
          (subst (λ (x : Turn). turn.Acts x a.reserved (store_view new.store) a.out) turn_is a.acts)

      acted : Stepped image cores new answer
      acted =
          let parts = splits image cores new.history rest last (sym (ap (replay image cores) is_whole) ∙ whole_replays) in
          let quiet : NoneIsHurt new.history = subst (λ (es : List Entry). NoneIsHurt es) (sym a.grows.history) keeps.unhurt in record {
            unhurt = quiet;
            node = λ going.
                let after = keeps.after (λ end over. going end (a.answer_is ∙ ap Ok over)) parts.between (sym (ap (replay image cores) a.grows.history) ∙ parts.first_replays) in (
                  parts.between,
                  record {
                    image_is = a.grows.image ∙ node.image_is;
                    cores_is = a.grows.cores ∙ node.cores_is;
                    replays = parts.first_replays;
                    unhurt = quiet;
                    seen = after.0;
                    places = after.1;
                  },
                );
          }

    pub stepped : (rest : List Entry) → whole ≡ new.history ++ rest → ((fault : TurnFault) → answer ≢ Err fault)
        → ((given : Answer) → turn.MayAct old s → answer ≡ Ok given → StoreMoves Makes store_view waits (standing_of (turn_at waits old s core next)) old.store new.store)
        → Turned store_view waits old s shares core next answer new shares' → Stepped image cores new answer
    stepped rest is_whole no_fault moves (turn.over o same held) = stays same
    stepped rest is_whole no_fault moves (turn.stopped o same held) = stays same
    stepped rest is_whole no_fault moves (turn.full o same held) = stays same
    stepped rest is_whole no_fault moves (turn.no_memory may same grows refused) = absurd (no_fault _ refused)
    stepped rest is_whole no_fault moves (turn.acts a) = acted rest is_whole a (moves a.out.answer a.may a.answer_is)

use Rattle.std.proofs.Common.{◌≡◌, ◌++◌, ◌<◌, ◌≤◌, ℕ, length}
use Rattle.violations.specs.Plain.{PlainView, store_view}
use Rattle.turn_steps.specs.Kept.{ShowsKept}
use Rattle.turn_steps.specs.KeptCores.{AreKept, cores_changes, kept_in}
use Rattle.turn_steps.specs.Laws.{KeepsRows}
use Rattle.turn_steps.proofs.plain.PlainStoreShownStore.push_changes.Given as goal

-- the cores so far are told, the others are shown as they were
abbrev pub invariant-loop-core : goal.invariant-loop-core
invariant-loop-core l = record {
  size : l.shown.size ≡ l.initial.shown.size;
  long : length l.shown.cores.items ≡ length l.initial.shown.cores.items;
  others : (k : ℕ) → l.core ≤ k → kept_in l.shown.cores.items k ≡ kept_in l.initial.shown.cores.items k;
  text : (old : PlainView) → AreKept l.initial.shown.size l.initial.shown.cores.items old → KeepsRows (store_view old) (store_view l.self) l.fn._core l.added
      → l.text.items ≡ l.initial.text.items ++ cores_changes (store_view old) (store_view l.self) l.core;
  shown : (old : PlainView) → AreKept l.initial.shown.size l.initial.shown.cores.items old → KeepsRows (store_view old) (store_view l.self) l.fn._core l.added
      → (k : ℕ) → k < l.core → ShowsKept (store_view l.self) k (kept_in l.shown.cores.items k);
}

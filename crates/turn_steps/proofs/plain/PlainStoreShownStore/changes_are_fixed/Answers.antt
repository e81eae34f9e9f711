use Rattle.std.proofs.Common.{sym}
use Rattle.violations.specs.Plain.{store_view}
use Rattle.homefree.proofs.Fixed.Hurt.{one_view}
use Rattle.turn_steps.specs.KeptCores.{cores_changes}
use Rattle.turn_steps.proofs.plain.PlainStoreShownStore.changes_are_fixed.Goals as goal

pub returns : goal.returns
returns c = λ cores old now old' now' same_old same_now i.
    cores_changes (sym (one_view (store_view old) (store_view old') same_old.same) i) (sym (one_view (store_view now) (store_view now') same_now.same) i) cores

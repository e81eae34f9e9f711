-- What the plain store keeps.
use Rattle.std.specs.Prelude.{◌≡◌, length}
use Rattle.violations.specs.declared.plain.PlainStore.TheInside.{Inside}
use Rattle.violations.specs.Plain.{PlainView, IsFit, store_view}
use Rattle.violations.specs.View.{IsSettled}

abbrev pub view_of : Inside → PlainView
view_of i = record { code = i.code; machine = i.machine; committed = i.committed.items; states = i.states.items; budget = i.budget }

pub record IsPlain (i : Inside) : Type 0 where
  pub size : i.size ≡ length i.committed.items
  pub fit : IsFit (view_of i)
  pub settled : IsSettled (store_view (view_of i))

-- What the flat machine keeps.
use Rattle.spec_history.specs.declared.flat.Flat.TheInside.{Inside}
use Rattle.spec_history.specs.View.{FlatView, state_in, cores_in, IsReached}
use Rattle.spec_history.specs.Machine.{IsFit}

abbrev pub view_of : Inside → FlatView
view_of i = record {
  image = i.machine.image;
  committed = i.machine.committed.items;
  homefree = i.machine.homefree;
  published = i.machine.published;
  next_epoch = i.machine.next_epoch;
  end = i.machine.end;
  cores = i.machine.cores.items;
}

-- some history leads to it
pub record IsFlat (i : Inside) : Type 0 where
  pub reached : IsReached i.machine.image (cores_in (view_of i)) (state_in (view_of i))
  pub fit : IsFit i.machine

-- What an entry does to the state. It is total: what an entry that is refused would do is read by nothing.
use Rattle.std.specs.Prelude.{ℕ, ◌+◌, ◌==◌, ◌||◌, true, Option, Some, None, if◌then◌else◌}
use Rattle.rv32_exec.specs.declared.sequential.End.TheVariants as end
use Rattle.rv32_image.specs.Image.{LoadedImage}
use Rattle.rv32_exec.specs.Hart.{HartState, stepped}
use Rattle.rv32_exec.specs.NextEvent.{next_event}
use Rattle.rv32_exec.specs.Arrival.{after_number}
use Rattle.memory_bytes.specs.Maps.{nothing, joined, over, stored, read_outside}
use Rattle.spec_history.specs.declared.entry.Entry.{Entry}
use Rattle.spec_history.specs.declared.entry.What.{What}
use Rattle.spec_history.specs.declared.entry.What.TheVariants.{Start, Load, Store, Hurt, Cancel, Restart, Publish, Commit, Fault}
use Rattle.spec_history.specs.FlatState.{CoreState, FlatState, begun, end_after}

-- a value by what a core runs
abbrev pub by_core : {A : Type 0} → Option CoreState → A → (CoreState → A) → A
by_core None idle runs = idle
by_core (Some core) idle runs = runs core

-- one core changed
abbrev pub with_core : (ℕ → Option CoreState) → ℕ → Option CoreState → ℕ → Option CoreState
with_core cores by core k = if k == by then core else cores k

-- what one core runs changed; of a straight one all instructions are published
abbrev pub with_running : FlatState → ℕ → CoreState → FlatState
with_running s by core = record s {
  published = if core.straight then core.hart.done else s.published;
  cores = with_core s.cores by (Some core);
}

-- the core after a load, with its hart then: the bytes that are not its own are read from outside, unless it is straight
abbrev pub after_load : (ℕ → ℕ) → ℕ → ℕ → HartState → CoreState → CoreState
after_load committed address width hart core = record core {
  hart = hart;
  outside = if core.straight then core.outside else joined (read_outside address width core.own committed) core.outside;
}

-- the core after a store, with its hart then: the bytes are its own, unless it is straight
abbrev pub after_store : ℕ → ℕ → ℕ → HartState → CoreState → CoreState
after_store address width value hart core = record core {
  hart = hart;
  own = if core.straight then core.own else joined (stored address width value) core.own;
}

abbrev pub after_publish : CoreState → CoreState
after_publish core = record core { own = nothing; outside = nothing; straight = true }

-- the core that runs this epoch is hurt
abbrev pub hurt_at : ℕ → Option CoreState → Option CoreState
hurt_at epoch None = None
hurt_at epoch (Some core) = Some (record core { hurt = core.hurt || (core.epoch == epoch) })

-- the core that runs this epoch is idle
abbrev pub idle_at : ℕ → Option CoreState → Option CoreState
idle_at epoch None = None
idle_at epoch (Some core) = if core.epoch == epoch then None else Some core

-- an entry of a core that runs an epoch
abbrev pub effect_on : LoadedImage → FlatState → ℕ → CoreState → What → FlatState
effect_on image s by core (Load address width value) =
    let event = next_event image core.hart in
    with_running s by (after_load s.committed address width (after_number event.now event.at value) core)
effect_on image s by core (Store address width value) =
    let event = next_event image core.hart in
    with_running (record s { committed = if core.straight then over (stored address width value) s.committed else s.committed })
    by (after_store address width value (stepped event.now) core)
effect_on image s by core (Hurt epoch) = record s { cores = λ k. hurt_at epoch (s.cores k) }
effect_on image s by core (Cancel epoch) = record s { cores = λ k. idle_at epoch (s.cores k) }
effect_on image s by core Restart = with_running s by (begun image core.epoch)
effect_on image s by core Publish = with_running (record s { committed = over core.own s.committed }) by (after_publish core)
effect_on image s by core Commit = record s {
  committed = over core.own s.committed;
  homefree = s.homefree + 1;
  published = 0;
  end = end_after image (next_event image core.hart).now s.homefree;
  cores = with_core s.cores by None;
}
effect_on image s by core (Fault cause pc) = record s {
  committed = over core.own s.committed;
  published = (next_event image core.hart).now.done;
  end = Some (end.Fault core.epoch cause pc);
}
effect_on image s by core (Start epoch) = s

-- an entry of an idle core: it can only start
abbrev pub effect_idle : LoadedImage → FlatState → ℕ → What → FlatState
effect_idle image s by (Start epoch) = with_running (record s { next_epoch = s.next_epoch + 1 }) by (begun image epoch)
effect_idle image s by what = s

unfoldable pub effect : LoadedImage → FlatState → Entry → FlatState
effect image s entry = by_core (s.cores entry.by) (effect_idle image s entry.by entry.what) (λ core. effect_on image s entry.by core entry.what)

-- The lines of a store, from the terms of its runs.
use Rattle.std.proofs.Common.{ℕ, List, Result, Ok, Err, OnOk}
use Rattle.rv32_image.specs.Image.{LoadedImage}
use Rattle.trace_commands.specs.declared.store.Store.{Store}
use Rattle.replay_command.specs.Stores.{pieces_of}
use Rattle.gain.specs.declared.gains.Study.{Study}
use Rattle.gain.specs.declared.lines.Waiting.{Waiting}
use Rattle.gain.specs.Gains.{AddEvensOf, AddLinesOf, AddWaiting, AreWaiting}

pub lines_over : {T E : Type 0} (r : Result T E) (study : Study) (addresses : List ℕ) (image : LoadedImage) (store : Store) (word old mid new : List ℕ) (w : Waiting)
    → AreWaiting image addresses study (pieces_of store) w → AddWaiting w image store study.cores study.room word old mid
    → OnOk r (AddEvensOf study.even study addresses image store word mid new) → OnOk r (AddLinesOf study addresses image store word old new)
lines_over (Ok done) study addresses image store word old mid new w waiting lines evens = (w, waiting, mid, lines, evens)
lines_over (Err fault) study addresses image store word old mid new w waiting lines evens = evens

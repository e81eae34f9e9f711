-- What holds where `advance` stops.
use Rattle.std.proofs.Common.{◌≤◌, arith}
use Rattle.rv32_exec.specs.declared.stop.Stop.{Stop}
use Rattle.rv32_exec.specs.declared.stop.Stop.TheVariants.{Load, Store, Ended, Fault}
use Rattle.rv32_image.specs.Image.{LoadedImage}
use Rattle.rv32_exec.specs.Hart.{HartState}
use Rattle.rv32_exec.specs.Execute.{IsStopOf}
use Rattle.rv32_exec.specs.Arrival.{HasRoom}

-- at an access of an image within the limits there is room to count it
pub room_of_stop : (image : LoadedImage) (h : HartState) (at : Stop) → image.limit ≤ 1000000 → IsStopOf image h at → HasRoom h at
room_of_stop image h (Load address width signed rd) limit stop = (stop.wide, omega (arith, stop.room))
room_of_stop image h (Store address width value) limit stop = (stop.access.wide, omega (arith, stop.access.room))
room_of_stop image h Ended limit stop = tt
room_of_stop image h (Fault cause pc) limit stop = tt

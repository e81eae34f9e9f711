-- Where one run in order shows no conflict on so many cores, no paths conflict on these or on fewer; and over bytes no history has a
-- violation.
use Rattle.std.proofs.Common.{ℕ, ◌≤◌}
use Rattle.rv32_image.specs.Image.{LoadedImage, IsImage}
use Rattle.dependences.specs.Conflict.{ConflictInOrder, Overflow, path_memory}
use Rattle.dependences.specs.Shared.{AreApart}
use Rattle.dependences.specs.KeptTouches.{IsNever}
use Rattle.dependences.specs.Laws.{NeverOverBytes, NeverOverLines}
use Rattle.dependences.proofs.Caching.{never_buffers, never_lines}
use Rattle.dependences.proofs.Fewer.{bytes_on_fewer, lines_on_fewer, shared_on_fewer}
use Rattle.dependences.proofs.Showing.{bytes_shown, line_of}
use Rattle.dependences.proofs.Violations.{over_bytes, over_lines}

pub apart_on_fewer : (image : LoadedImage) (cores : ℕ) → IsImage image → IsNever image cores → (fewer : ℕ) → fewer ≤ cores → AreApart image fewer
apart_on_fewer image cores is never fewer few =
    let lines = never_lines image cores is never in record {
      lines = lines_on_fewer image fewer cores is few lines;
      buffers = shared_on_fewer image fewer cores is few (λ conflict. lines (line_of image cores (path_memory image cores) conflict)) (never_buffers image cores is never);
    }

pub never_lines_on_fewer : (image : LoadedImage) (cores : ℕ) → IsImage image → IsNever image cores → (fewer : ℕ) → fewer ≤ cores → (Overflow image fewer → ⊥) → NeverOverLines image fewer
never_lines_on_fewer image cores is never fewer few free history s replays starts known =
    over_lines image fewer history s is replays starts known (apart_on_fewer image cores is never fewer few).lines free

pub never_bytes_on_fewer : (image : LoadedImage) (cores : ℕ) → IsImage image → (ConflictInOrder image cores → ⊥) → (fewer : ℕ) → fewer ≤ cores → NeverOverBytes image fewer
never_bytes_on_fewer image cores is never fewer few history s replays starts meets =
    over_bytes image fewer history s is replays starts meets (bytes_on_fewer image fewer cores is few (bytes_shown image cores is never))

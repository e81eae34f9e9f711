-- The report of which conflicts rolled back: the violations in order, then the attempts that were cancelled or go on, then the sums.
-- Source: this project.
use Rattle.std.specs.Prelude.{◌≡◌, ℕ, ◌-◌, ◌*◌, ◌^◌, ◌==◌, List, [], ◌++◌, map, codes, Option, Some, None, nat_lt, if◌then◌else◌}
use Rattle.std.specs.BTreeMap.{BTreeMap}
use Rattle.std.specs.List.{flat_map}
use Rattle.rv32_image.specs.Image.{LoadedImage}
use Rattle.conflict_findings.specs.declared.ended.Ended.{Ended}
use Rattle.conflict_findings.specs.declared.ended.Ending.TheVariants.{Committed}
use Rattle.conflict_findings.specs.declared.ended.Running.{Running}
use Rattle.conflict_findings.specs.declared.finding.Finding.{Finding}
use Rattle.conflict_findings.specs.declared.finding.FurtherRun.{FurtherRun}
use Rattle.spec_history.specs.declared.kind.Kind.{Kind}
use Rattle.spec_history.specs.declared.kind.Kind.TheVariants.{TrueSharing, SilentStore, FalseSharing, FullBuffer, Unexplained}
use Rattle.conflict_findings.specs.declared.keys.Key.TheVariants.{Epoch, Line, Load, Store}
use Rattle.conflict_findings.specs.declared.kinds.CountsByKind.{CountsByKind}
use Rattle.conflict_findings.specs.declared.kinds.SumsByKind.{SumsByKind}
use Rattle.conflict_findings.specs.declared.pair_sums.Bounds.{Bounds}
use Rattle.conflict_findings.specs.declared.pair_sums.Fates.{Fates}
use Rattle.conflict_findings.specs.declared.pair_sums.PairSum.{PairSum}
use Rattle.conflict_findings.specs.declared.part.Part.TheVariants.{OfLine, Whole}
use Rattle.conflict_findings.specs.declared.rollback.Pair.{Pair}
use Rattle.conflict_findings.specs.declared.rollback.Rollback.{Rollback}
use Rattle.conflict_findings.specs.declared.sum.Sum.{Sum}
use Rattle.conflict_findings.specs.Keys.{AreSums, sum_at, sum_or}
use Rattle.conflict_findings.specs.Kinds.{counts_in, sums_in}
use Rattle.conflict_findings.specs.Order.{AreHeaviest, ArePairSums}
use Rattle.conflict_findings.specs.Roles.{in_both_roles}
use Rattle.conflict_findings.specs.Rollbacks.{rollback_of}
use Rattle.conflict_findings.specs.Sums.{sum_in}
use Rattle.conflict_findings.specs.Tallies.{done_in}
use Rattle.conflict_text.specs.Ends.{attempt_lines, rest_text}
use Rattle.conflict_text.specs.Lines.{address_or_dash, kind_name, labelled, named, told_lines}
use Rattle.trace_text.specs.Printing.{hex_word}

-- ---- parts of lines

unfoldable pub sum_text : ℕ → ℕ → List ℕ
sum_text rollbacks lost = named (codes " rollbacks ") rollbacks ++ named (codes " lost ") lost

-- how many are of each kind
unfoldable pub counts_text : CountsByKind → List ℕ
counts_text c =
    named (codes " true ") c.true_sharing ++ named (codes " silent ") c.silent_store
    ++ named (codes " false ") c.false_sharing ++ named (codes " buffer ") c.full_buffer

-- ---- lines

-- an epoch, and what its violations cost
unfoldable pub epoch_line : ℕ × Sum → List ℕ
epoch_line e = named (codes "epoch ") e.0 ++ sum_text e.1.count e.1.lost ++ codes "\n"

-- how many were stale, in vain, and came true later
unfoldable pub fates_text : Fates → List ℕ
fates_text f = named (codes " stale ") f.stale ++ named (codes " vain ") f.vain ++ named (codes " later ") f.came_true

-- by how many epochs the victims stood after the causers: the least, and the greatest
unfoldable pub distance_text : Option Bounds → List ℕ
distance_text None = codes " distance - -"
distance_text (Some b) = named (codes " distance ") b.least ++ named (codes " ") b.greatest

-- the bytes from the lowest at which they met to the highest: the address of the first, and how many they are
unfoldable pub range_text : Option Bounds → List ℕ
range_text None = codes " at - -"
range_text (Some b) = labelled (codes " at ") (hex_word b.least) ++ named (codes " ") (b.greatest - b.least)

-- the two instructions of a pair: for full buffers the access that asked for the line, and the store that held it
unfoldable pub pair_name : ℕ → Pair → List ℕ
pair_name full pair =
    if full == 0 then labelled (codes "pair store ") (hex_word pair.store) ++ labelled (codes " load ") (hex_word pair.load)
    else labelled (codes "pair asked ") (hex_word pair.store) ++ labelled (codes " held ") (hex_word pair.load)

-- a pair of instructions, and what the violations at which they met cost
unfoldable pub pair_line : PairSum → List ℕ
pair_line p =
    pair_name p.counts.full_buffer p.pair ++ sum_text p.sum.count p.sum.lost ++ counts_text p.counts
    ++ fates_text p.fates ++ distance_text p.distance ++ range_text p.bytes ++ codes "\n"

-- the address of the line that has this number
abbrev pub line_address : LoadedImage → ℕ → Option ℕ
line_address image line =
    let first = line * image.machine.line_length in
    if nat_lt first (2 ^ 32) then Some first else None

unfoldable pub line_text : LoadedImage → ℕ × Sum → CountsByKind → List ℕ
line_text image e counts =
    labelled (codes "line ") (address_or_dash (line_address image e.0)) ++ sum_text e.1.count e.1.lost ++ counts_text counts ++ codes "\n"

-- a line of the caches, and what the violations in it cost
abbrev pub line_line : LoadedImage → List Rollback → ℕ × Sum → List ℕ
line_line image rollbacks e = line_text image e (counts_in (OfLine e.0) rollbacks)

-- how many violations, and what they lost
unfoldable pub role_text : List ℕ → Sum → List ℕ
role_text name sum = named name sum.count ++ named (codes " ") sum.lost

unfoldable pub pc_text : ℕ → Sum → Sum → List ℕ
pc_text pc victim causer = labelled (codes "pc ") (hex_word pc) ++ role_text (codes " victim ") victim ++ role_text (codes " causer ") causer ++ codes "\n"

-- an instruction, and what the violations cost in which it was the blamed load, and the blamed store
abbrev pub pc_line : List Rollback → ℕ × Sum → List ℕ
pc_line rollbacks e = pc_text e.0 (sum_or (sum_at Load rollbacks e.0)) (sum_or (sum_at Store rollbacks e.0))

-- what the violations of a kind cost, if it occurs
unfoldable pub kind_text : Kind → Sum → List ℕ
kind_text kind sum =
    if sum.count == 0 then [] else labelled (codes "kind ") (kind_name kind) ++ sum_text sum.count sum.lost ++ codes "\n"

unfoldable pub kinds_text : SumsByKind → List ℕ
kinds_text sums =
    kind_text TrueSharing sums.true_sharing ++ kind_text SilentStore sums.silent_store ++ kind_text FalseSharing sums.false_sharing
    ++ kind_text FullBuffer sums.full_buffer ++ kind_text Unexplained sums.unexplained

-- the sums of the kinds that occur
abbrev pub kind_lines : List Rollback → List ℕ
kind_lines rollbacks = kinds_text (sums_in rollbacks)

unfoldable pub epochs_text : ℕ → List ℕ
epochs_text epochs = codes "total" ++ named (codes " epochs ") epochs

-- the epochs of the loop, those that committed, and what the attempts executed that did
unfoldable pub committed_text : ℕ → ℕ → ℕ → List ℕ
committed_text epochs committed useful = epochs_text epochs ++ named (codes " committed ") committed ++ named (codes " useful ") useful

unfoldable pub total_text : ℕ → ℕ → Sum → List Ended → List Running → List ℕ
total_text epochs committed sum ended running =
    committed_text epochs committed (done_in Committed ended) ++ sum_text sum.count sum.lost ++ rest_text ended running ++ codes "\n"

-- the epochs of the loop, those that committed, the sums of all violations, and how the attempts ended
abbrev pub total_line : LoadedImage → ℕ → List Rollback → List Ended → List Running → List ℕ
total_line image homefree rollbacks ended running = total_text image.epochs homefree (sum_in Whole rollbacks) ended running

-- ---- the report

-- the sums: epochs and instructions in ascending order, pairs and lines heaviest first
pub record IsSummary (image : LoadedImage) (homefree : ℕ) (rollbacks : List Rollback) (ended : List Ended) (running : List Running) (text : List ℕ) : Type 0 where
  pub epochs : BTreeMap ℕ Sum
  pub epochs_are : AreSums Epoch rollbacks epochs
  pub pairs : List PairSum
  pub pairs_are : ArePairSums rollbacks pairs
  pub lines : BTreeMap ℕ Sum
  pub lines_are : AreSums Line rollbacks lines
  pub ordered_lines : List (ℕ × Sum)
  pub lines_ordered : AreHeaviest lines ordered_lines
  -- the instructions that are in a pair, as its load or as its store
  pub instructions : BTreeMap ℕ Sum
  pub instructions_are : AreSums Load (in_both_roles rollbacks) instructions
  pub printed : text ≡ flat_map epoch_line epochs.entries ++ flat_map pair_line pairs ++ flat_map (line_line image rollbacks) ordered_lines
      ++ flat_map (pc_line rollbacks) instructions.entries ++ kind_lines rollbacks ++ total_line image homefree rollbacks ended running

-- the violations in order, each with its further runs, the attempts that were cancelled and those that go on, the lines that are wanted of all
-- attempts, and the sums
pub record IsPrinted (image : LoadedImage) (homefree : ℕ) (found : List (Finding × List FurtherRun)) (ended : List Ended) (running : List Running) (all text : List ℕ) : Type 0 where
  pub sums : List ℕ
  pub summed : IsSummary image homefree (map (λ (v : Finding × List FurtherRun). rollback_of v.0) found) ended running sums
  pub printed : text ≡ told_lines found ++ attempt_lines ended running ++ all ++ sums

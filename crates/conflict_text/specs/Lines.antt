-- The lines that tell of one violation: words and numbers parted by one space, a dash where there is no number.
-- Source: this project.
use Rattle.std.specs.Prelude.{ℕ, List, [], ◌++◌, codes, Bool, true, false, Option, Some, None, option_map}
use Rattle.std.specs.Fmt.{decimal}
use Rattle.std.specs.List.{flat_map}
use Rattle.spec_history.specs.declared.entry.What.{What}
use Rattle.spec_history.specs.declared.entry.What.TheVariants.{Load, Store, Hurt, Cancel, Publish, Commit, Fault}
use Rattle.conflicts.specs.declared.explanation.ByteRange.{ByteRange}
use Rattle.spec_history.specs.declared.kind.Kind.{Kind}
use Rattle.spec_history.specs.declared.kind.Kind.TheVariants.{TrueSharing, SilentStore, FalseSharing, FullBuffer, Unexplained}
use Rattle.conflict_findings.specs.declared.finding.Access.{Access}
use Rattle.conflict_findings.specs.declared.finding.Finding.{Finding}
use Rattle.conflict_findings.specs.declared.finding.FurtherRun.{FurtherRun}
use Rattle.conflict_findings.specs.Rollbacks.{pc_of}
use Rattle.trace_text.specs.Printing.{hex_word}

-- ---- words

-- a label, and what it labels
unfoldable pub labelled : List ℕ → List ℕ → List ℕ
labelled label word = label ++ word

abbrev pub named : List ℕ → ℕ → List ℕ
named label n = labelled label (decimal n)

abbrev pub number_or_dash : Option ℕ → List ℕ
number_or_dash None = codes "-"
number_or_dash (Some n) = decimal n

-- an address of eight hexadecimal digits
abbrev pub address_or_dash : Option ℕ → List ℕ
address_or_dash None = codes "-"
address_or_dash (Some n) = hex_word n

abbrev pub kind_name : Kind → List ℕ
kind_name TrueSharing = codes "true"
kind_name SilentStore = codes "silent"
kind_name FalseSharing = codes "false"
kind_name FullBuffer = codes "buffer"
kind_name Unexplained = codes "other"

-- what can be a cause
abbrev pub cause_name : Option What → List ℕ
cause_name (Some (Load address width value)) = codes "load"
cause_name (Some (Store address width value)) = codes "store"
cause_name (Some Publish) = codes "publish"
cause_name (Some Commit) = codes "commit"
cause_name (Some (Fault cause pc)) = codes "fault"
cause_name other = codes "-"

-- what undoes an attempt
abbrev pub undoing_name : What → List ℕ
undoing_name (Hurt epoch) = codes "hurt"
undoing_name (Cancel epoch) = codes "cancelled"
undoing_name what = codes "-"

-- ---- accesses

abbrev pub place_of : Option Access → Option ℕ
place_of access = option_map (λ (a : Access). a.place) access

-- what the report calls an access, its entry, and its instruction
unfoldable pub access_text : List ℕ → Option Access → List ℕ
access_text name access = labelled name (number_or_dash (place_of access)) ++ labelled (codes " ") (address_or_dash (pc_of access))

-- where two accesses met: the address of the first byte, and how many they are
unfoldable pub bytes_text : Option ByteRange → List ℕ
bytes_text None = codes " at - -"
bytes_text (Some bytes) = labelled (codes " at ") (hex_word bytes.first) ++ named (codes " ") bytes.length

-- the accesses of the victim and of the causer: the blamed load and store; of a full buffer the store that held the line, and the
-- access that asked for it
unfoldable pub met_by : Kind → Option Access → Option Access → List ℕ
met_by FullBuffer victim causer = access_text (codes " held ") victim ++ access_text (codes " asked ") causer
met_by kind victim causer = access_text (codes " load ") victim ++ access_text (codes " store ") causer

-- ---- lines

-- who was violated, and in which run of its epoch
unfoldable pub victim_text : Finding → List ℕ
victim_text f =
    named (codes " epoch ") f.victim.epoch ++ named (codes " try ") f.attempt ++ named (codes " core ") f.victim.core

unfoldable pub cost_text : Finding → List ℕ
cost_text f = named (codes " lost ") f.lost ++ named (codes " entered ") f.entered ++ labelled (codes " since ") (number_or_dash f.since)

-- who made it, and for what
unfoldable pub causer_text : Finding → List ℕ
causer_text f =
    named (codes " by ") f.causer.epoch ++ named (codes " core ") f.causer.core
    ++ labelled (codes " cause ") (number_or_dash f.cause) ++ labelled (codes " ") (cause_name f.act)

-- hurt 4 true epoch 1 try 1 core 1 lost 3 entered 2 since 2 by 0 core 0 cause 5 commit load 3 00000004 store 2 00000014 at 00000040 4
unfoldable pub hurt_line : Finding → List ℕ
hurt_line f =
    named (codes "hurt ") f.place ++ labelled (codes " ") (kind_name f.kind)
    ++ victim_text f ++ cost_text f ++ causer_text f ++ met_by f.kind f.victim_access f.causer_access ++ bytes_text f.bytes ++ codes "\n"

-- a further run of bytes at which the epochs of the violation at a place met
unfoldable pub also_line : ℕ → FurtherRun → List ℕ
also_line place run =
    named (codes "also ") place ++ labelled (codes " ") (kind_name run.kind) ++ access_text (codes " load ") (Some run.load)
    ++ access_text (codes " store ") (Some run.store) ++ bytes_text (Some run.bytes) ++ codes "\n"

abbrev pub also_lines : ℕ → List FurtherRun → List ℕ
also_lines place runs = flat_map (also_line place) runs

abbrev pub later_by : ℕ → Option Access → List ℕ
later_by place None = []
later_by place (Some store) = named (codes "later ") place ++ access_text (codes " store ") (Some store) ++ codes "\n"

-- false sharing came true: the causer stored later to a byte that the victim had read
unfoldable pub later_line : Finding → List ℕ
later_line f = later_by f.place f.later

abbrev pub vain_by : ℕ → Option What → List ℕ
vain_by place None = []
vain_by place (Some what) = named (codes "vain ") place ++ labelled (codes " ") (undoing_name what) ++ codes "\n"

-- the causer's attempt was itself violated or cancelled
unfoldable pub vain_line : Finding → List ℕ
vain_line f = vain_by f.place f.undoing

abbrev pub moot_by : ℕ → Bool → List ℕ
moot_by place false = []
moot_by place true = named (codes "moot ") place ++ codes "\n"

-- the victim's epoch was cancelled before its core began it again
unfoldable pub moot_line : Finding → List ℕ
moot_line f = moot_by f.place f.moot

-- all that is told of one violation, with its further runs
unfoldable pub violation_lines : Finding → List FurtherRun → List ℕ
violation_lines f further = hurt_line f ++ also_lines f.place further ++ later_line f ++ vain_line f ++ moot_line f

-- of each violation, in order
abbrev pub told_lines : List (Finding × List FurtherRun) → List ℕ
told_lines found = flat_map (λ (v : Finding × List FurtherRun). violation_lines v.0 v.1) found

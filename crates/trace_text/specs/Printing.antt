-- The text of a trace: a head with the number of cores, and a line for each entry of the history.
-- Source: this project.
use Rattle.std.specs.Prelude.{ℕ, List, ◌++◌, codes}
use Rattle.std.specs.Fmt.{decimal}
use Rattle.std.specs.Int.{w32, to_be_bytes}
use Rattle.std.specs.List.{flat_map}
use Rattle.hex.specs.Hex.{encode_lower}
use Rattle.spec_history.specs.declared.entry.Entry.{Entry}
use Rattle.spec_history.specs.declared.entry.What.{What}
use Rattle.spec_history.specs.declared.entry.What.TheVariants.{Start, Load, Store, Hurt, Cancel, Restart, Publish, Commit, Fault}

-- eight hexadecimal digits, the most significant first
abbrev pub hex_word : ℕ → List ℕ
hex_word n = encode_lower (to_be_bytes w32 n)

abbrev pub access_text : ℕ → ℕ → ℕ → List ℕ
access_text address width value = hex_word address ++ codes " " ++ decimal width ++ codes " " ++ hex_word value

-- what an entry says
abbrev pub what_text : What → List ℕ
what_text (Start epoch) = codes "start " ++ decimal epoch
what_text (Load address width value) = codes "load " ++ access_text address width value
what_text (Store address width value) = codes "store " ++ access_text address width value
what_text (Hurt epoch) = codes "hurt " ++ decimal epoch
what_text (Cancel epoch) = codes "cancel " ++ decimal epoch
what_text Restart = codes "restart"
what_text Publish = codes "publish"
what_text Commit = codes "commit"
what_text (Fault cause pc) = codes "fault " ++ decimal cause ++ codes " " ++ hex_word pc

-- the line of an entry: its core, and what it says
unfoldable pub entry_line : Entry → List ℕ
entry_line entry = decimal entry.by ++ codes " " ++ what_text entry.what ++ codes "\n"

unfoldable pub head_line : ℕ → List ℕ
head_line cores = codes "trace " ++ decimal cores ++ codes "\n"

unfoldable pub printed_trace : ℕ → List Entry → List ℕ
printed_trace cores entries = head_line cores ++ flat_map entry_line entries

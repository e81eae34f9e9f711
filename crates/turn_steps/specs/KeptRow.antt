-- What a core of a plain store keeps of a row of memory.
-- Source: this project.
use Rattle.std.specs.Prelude.{ℕ, ◌*◌, List, replicate}
use Rattle.violations.specs.View.{StoreView}
use Rattle.turn_steps.specs.declared.kept_row.KeptRow.{KeptRow}
use Rattle.turn_steps.specs.Rows.{bytes_from, kept_text, mask_from, own_byte}

abbrev pub nothing : KeptRow
nothing = record { read = 0; own = 0; bytes = replicate 16 0 }

-- what a core keeps of a row
abbrev pub kept_of : StoreView → ℕ → ℕ → KeptRow
kept_of v core row = record {
  read = mask_from (v.guarded core) (16 * row) 16;
  own = mask_from (v.own core) (16 * row) 16;
  bytes = bytes_from (own_byte v core) (16 * row) 16;
}

-- its line of text
abbrev pub kept_row_text : ℕ → ℕ → KeptRow → List ℕ
kept_row_text core row kept = kept_text core row kept.read kept.own kept.bytes

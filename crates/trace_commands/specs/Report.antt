-- The report: how the loop ended, and the memory that it changed.
-- Source: this project.
use Rattle.std.specs.Prelude.{ℕ, zero, suc, ◌+◌, ◌*◌, ◌/◌, List, [], ◌++◌, codes, slice_range, if◌then◌else◌}
use Rattle.std.specs.Fmt.{decimal}
use Rattle.std.specs.Str.{bytes_eq}
use Rattle.hex.specs.Hex.{encode_lower}
use Rattle.rv32_exec.specs.declared.sequential.End.{End}
use Rattle.rv32_exec.specs.declared.sequential.End.TheVariants.{Done, Exit, Fault}
use Rattle.rv32_image.specs.Image.{LoadedImage}
use Rattle.rv32_exec.specs.Sequential.{SequentialResult}
use Rattle.trace_text.specs.Printing.{hex_word}

abbrev pub end_line : End → List ℕ
end_line (Done epochs) = codes "end done " ++ decimal epochs ++ codes "\n"
end_line (Exit epoch) = codes "end exit " ++ decimal epoch ++ codes "\n"
end_line (Fault epoch cause pc) =
    codes "end fault " ++ decimal epoch ++ codes " " ++ decimal cause ++ codes " " ++ hex_word pc ++ codes "\n"

-- the 16 bytes from an address on, where they are not those that were loaded
abbrev pub row_line : List ℕ → List ℕ → ℕ → List ℕ
row_line loaded bytes address =
    if bytes_eq (slice_range loaded address (address + 16)) (slice_range bytes address (address + 16)) then []
    else codes "at " ++ hex_word address ++ codes " " ++ encode_lower (slice_range bytes address (address + 16)) ++ codes "\n"

-- the first rows of memory, in order of address
unfoldable pub row_lines : List ℕ → List ℕ → ℕ → List ℕ
row_lines loaded bytes zero = []
row_lines loaded bytes (suc row) = row_lines loaded bytes row ++ row_line loaded bytes (16 * row)

unfoldable pub report_of : LoadedImage → SequentialResult → List ℕ
report_of image result = end_line result.end ++ row_lines image.bytes result.bytes (image.size / 16)

-- of a loop that isn't over: its homefree epoch, and memory that is not as it was loaded
unfoldable pub open_report : LoadedImage → ℕ → List ℕ → List ℕ
open_report image homefree bytes = codes "open " ++ decimal homefree ++ codes "\n" ++ row_lines image.bytes bytes (image.size / 16)

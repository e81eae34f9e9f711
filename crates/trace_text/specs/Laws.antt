-- What the law of traces says.
use Rattle.std.specs.Prelude.{◌≡◌, ℕ, ◌<◌, ◌≤◌, ◌^◌, true, List, [], ◌∷◌, ◌++◌, length, codes, Ok}
use Rattle.rv32_image.specs.declared.version.Version.{Version}
use Rattle.rv32_image.specs.Image.{LoadedImage}
use Rattle.rv32_image.specs.ImageText.{image_text}
use Rattle.spec_history.specs.declared.entry.Entry.{Entry}
use Rattle.spec_history.specs.declared.entry.What.{What}
use Rattle.spec_history.specs.declared.entry.What.TheVariants.{Start, Load, Store, Hurt, Cancel, Fault}
use Rattle.trace_text.specs.Printing.{printed_trace}
use Rattle.trace_text.specs.TraceText.{image_part, is_core_count, longest_trace_text, trace_text}

-- its numbers are of 32 bits
abbrev pub IsWhat : What → Type 0
IsWhat (Start epoch) = epoch < 2 ^ 32
IsWhat (Load address width value) = (address < 2 ^ 32) × (width < 2 ^ 32) × (value < 2 ^ 32)
IsWhat (Store address width value) = (address < 2 ^ 32) × (width < 2 ^ 32) × (value < 2 ^ 32)
IsWhat (Hurt epoch) = epoch < 2 ^ 32
IsWhat (Cancel epoch) = epoch < 2 ^ 32
IsWhat (Fault cause pc) = (cause < 2 ^ 32) × (pc < 2 ^ 32)
IsWhat what = Unit {0}

-- so are those of each entry
abbrev pub AreEntries : List Entry → Type 0
AreEntries [] = Unit {0}
AreEntries (entry ∷ entries) = (entry.by < 2 ^ 32) × IsWhat entry.what × AreEntries entries

-- the text is read as this image and this trace
pub record IsRead (text image_lines : List ℕ) (version : Version) (cores : ℕ) (entries : List Entry) : Type 0 where
  pub image : image_part text ≡ image_lines
  pub trace : trace_text version text ≡ Ok (record { cores = cores; entries = entries })

-- a trace that is printed below an image text, which ends in a line feed, is read back as it was
abbrev pub ReadsBack : Type 0
ReadsBack =
    (lines : List ℕ) (image : LoadedImage) (cores : ℕ) (entries : List Entry)
    → image_text (lines ++ codes "\n") ≡ Ok image → is_core_count image.version cores ≡ true → AreEntries entries
    → length (lines ++ codes "\n" ++ printed_trace cores entries) ≤ longest_trace_text
    → IsRead (lines ++ codes "\n" ++ printed_trace cores entries) (lines ++ codes "\n") image.version cores entries

-- What is told of a store.
-- Source: this project.
use Rattle.std.specs.Prelude.{◌≡◌, ℕ, ◌++◌, List, [], codes, Some}
use Rattle.rv32_image.specs.Image.{LoadedImage}
use Rattle.trace_text.specs.Printing.{hex_word}
use Rattle.violations.specs.View.{StoreView, Waits}
use Rattle.violations.specs.Calls.{Call}
use Rattle.all_schedules.specs.Made.{loop_on}
use Rattle.replay_command.specs.SurveyText.{turns_line}
use Rattle.depends.specs.declared.least.Found.{Found}
use Rattle.depends.specs.declared.least.Grain.{Grain}
use Rattle.depends.specs.declared.line.Line.{Line}
use Rattle.depends.specs.declared.line.Line.TheVariants.{Never, From, Open}
use Rattle.depends.specs.declared.shown.Met.{Met}
use Rattle.depends.specs.declared.shown.Met.TheVariants.{Instructions, Buffer}
use Rattle.depends.specs.declared.shown.Shown.{Shown}
use Rattle.depends.specs.Never.{IsLeast, NeverRollsBack}
use Rattle.depends.specs.Shown.{IsShown}
use Rattle.depends.specs.Text.{labelled, named}

-- ---- what is so

-- the turns make the violation on so many cores
abbrev pub IsFrom : {S : Type 0} → (LoadedImage → ℕ → S → Type 0) → (S → Call → S → Type 0) → (S → StoreView) → (S → Waits) → LoadedImage → ℕ → ℕ → Line → Type 0
IsFrom starts calls view waits image cores room Never = ⊥
IsFrom starts calls view waits image cores room (From n turns shown) = (n ≡ cores) × IsShown starts calls view waits (loop_on image cores room) turns.items shown
IsFrom starts calls view waits image cores room (Open n) = n ≡ cores

-- no schedule has a violation; or so many cores are the fewest on which epochs conflict, and the turns make one, where there are any
abbrev pub IsLine : {S : Type 0} → (LoadedImage → ℕ → S → Type 0) → (S → Call → S → Type 0) → (S → StoreView) → (S → Waits) → LoadedImage → Grain → ℕ → ℕ → Line → Type 0
IsLine starts calls view waits image grain most room Never = NeverRollsBack image grain most
IsLine starts calls view waits image grain most room line =
    (least : Found) × IsLeast image grain most (Some least) × IsFrom starts calls view waits image least.cores room line

-- ---- the text

-- a name, the word of the store as it was given, and so many cores
unfoldable pub head_text : List ℕ → List ℕ → ℕ → List ℕ
head_text name word cores = labelled name word ++ named (codes " ") cores

abbrev pub victim_text : Met → List ℕ
victim_text (Instructions load store) = labelled (codes " load ") (hex_word load)
victim_text Buffer = codes " buffer"

abbrev pub causer_text : Met → List ℕ
causer_text (Instructions load store) = labelled (codes " store ") (hex_word store)
causer_text Buffer = []

unfoldable pub shown_text : Shown → List ℕ
shown_text x = named (codes " epoch ") x.victim ++ victim_text x.met ++ named (codes " by epoch ") x.causer ++ causer_text x.met

unfoldable pub never_text : List ℕ → ℕ → List ℕ
never_text word cores = head_text (codes "never ") word cores ++ codes "\n"

unfoldable pub from_text : List ℕ → ℕ → Shown → List ℕ
from_text word cores shown = head_text (codes "from ") word cores ++ shown_text shown ++ codes "\n"

unfoldable pub open_text : List ℕ → ℕ → List ℕ
open_text word cores = head_text (codes "open ") word cores ++ codes "\n"

-- the turns stand below what they show
abbrev pub line_text : List ℕ → ℕ → Line → List ℕ
line_text word most Never = never_text word most
line_text word most (From cores turns shown) = from_text word cores shown ++ turns_line turns.items
line_text word most (Open cores) = open_text word cores

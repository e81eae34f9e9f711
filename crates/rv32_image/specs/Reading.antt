-- What the reader of the image text answers, where memory may run out and a read may fail.
use Rattle.std.specs.Prelude.{◌≡◌, ℕ, List, Option, Some, None, Result, Ok, Err, codes}
use Rattle.rv32_image.specs.declared.fault.ImageFault.{ImageFault}
use Rattle.rv32_image.specs.declared.fault.ImageFaultKind.{ImageFaultKind}
use Rattle.rv32_image.specs.declared.input.InputFault.{InputFault}
use Rattle.rv32_image.specs.declared.input.InputFault.TheVariants as input
use Rattle.rv32_image.specs.declared.fault.ImageFaultKind.TheVariants.{Line, MissingOrRepeated, Range, Place, Hex, TooLong, Read, NoMemory}

-- the printed name of a kind of fault
abbrev pub name_of : ImageFaultKind → List ℕ
name_of Line = codes "Line"
name_of MissingOrRepeated = codes "MissingOrRepeated"
name_of Range = codes "Range"
name_of Place = codes "Place"
name_of Hex = codes "Hex"
name_of TooLong = codes "TooLong"
name_of Read = codes "Read"
name_of NoMemory = codes "NoMemory"

-- the fault is the text's, unless memory ran out; no text in hand fails to be read
abbrev pub FailsBy : {A : Type 0} → ImageFaultKind → Result A ImageFaultKind → Type 0
FailsBy NoMemory read = Unit {0}
FailsBy Read read = ⊥
FailsBy kind read = read ≡ Err kind

-- a step over a value gave what reading gives, unless memory ran out
abbrev pub Gives : {A B : Type 0} → (A → B) → Result A ImageFaultKind → Result B ImageFaultKind → Type 0
Gives view (Ok x) read = read ≡ Ok (view x)
Gives view (Err kind) read = FailsBy kind read

-- the fault is the text's, on its line, unless memory ran out
abbrev pub IsFaultOf : {A : Type 0} → ImageFaultKind → ImageFault → Result A ImageFault → Type 0
IsFaultOf NoMemory fault read = fault.line ≡ 0
IsFaultOf Read fault read = ⊥
IsFaultOf kind fault read = read ≡ Err fault

-- the answer is what the text says, unless memory ran out
abbrev pub Answers : {A B : Type 0} → (A → B) → Result A ImageFault → Result B ImageFault → Type 0
Answers view (Ok x) read = read ≡ Ok (view x)
Answers view (Err fault) read = IsFaultOf fault.kind fault read

-- an input that could not be read whole, as a fault of its text
abbrev pub input_fault : InputFault → ImageFault
input_fault input.TooLong = record { line = 0; kind = TooLong }
input_fault input.Read = record { line = 0; kind = Read }
input_fault input.NoMemory = record { line = 0; kind = NoMemory }

-- the fault is the text's, on its line, unless memory ran out or a read failed
abbrev pub IsReadFaultOf : {A : Type 0} → ImageFaultKind → ImageFault → Result A ImageFault → Type 0
IsReadFaultOf NoMemory fault read = fault.line ≡ 0
IsReadFaultOf Read fault read = fault.line ≡ 0
IsReadFaultOf kind fault read = read ≡ Err fault

-- the answer is what the text says, unless memory ran out or a read failed
abbrev pub AnswersRead : {A : Type 0} → Result A ImageFault → Result A ImageFault → Type 0
AnswersRead (Ok x) read = read ≡ Ok x
AnswersRead (Err fault) read = IsReadFaultOf fault.kind fault read

-- it holds for the text that is read, and where the reader doesn't tell it, for some text
abbrev pub ForText : Option (List ℕ) → (List ℕ → Type 0) → Type 0
ForText None P = (text : List ℕ) × P text
ForText (Some text) P = P text

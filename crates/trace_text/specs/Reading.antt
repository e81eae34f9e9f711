-- What the reader of a trace answers, where memory may run out.
use Rattle.std.specs.Prelude.{◌≡◌, ℕ, List, codes, Result, Ok, Err}
use Rattle.rv32_image.specs.declared.input.InputFault.{InputFault}
use Rattle.rv32_image.specs.declared.input.InputFault.TheVariants as input
use Rattle.trace_text.specs.declared.fault.TraceFault.{TraceFault}
use Rattle.trace_text.specs.declared.fault.TraceFaultKind.{TraceFaultKind}
use Rattle.trace_text.specs.declared.fault.TraceFaultKind.TheVariants.{Head, Line, TooLong, Read, NoMemory}

-- the printed name of a kind of fault
abbrev pub name_of : TraceFaultKind → List ℕ
name_of Head = codes "Head"
name_of Line = codes "Line"
name_of TooLong = codes "TooLong"
name_of Read = codes "Read"
name_of NoMemory = codes "NoMemory"

-- an input that could not be read whole, as a fault of its trace
abbrev pub input_fault : InputFault → TraceFault
input_fault input.TooLong = record { line = 0; kind = TooLong }
input_fault input.Read = record { line = 0; kind = Read }
input_fault input.NoMemory = record { line = 0; kind = NoMemory }

-- the fault is the text's, unless memory ran out
abbrev pub IsFaultOf : {A : Type 0} → TraceFaultKind → TraceFault → Result A TraceFault → Type 0
IsFaultOf NoMemory fault said = fault.line ≡ 0
IsFaultOf Read fault said = ⊥
IsFaultOf kind fault said = said ≡ Err fault

-- the answer is what the text says, unless memory ran out
abbrev pub Answers : {A B : Type 0} → (A → B) → Result A TraceFault → Result B TraceFault → Type 0
Answers view (Ok x) said = said ≡ Ok (view x)
Answers view (Err fault) said = IsFaultOf fault.kind fault said

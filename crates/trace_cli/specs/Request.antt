-- What the words of a command line may ask for.
use Rattle.trace_commands.specs.Program.{IsUpTo16}
use Rattle.trace_cli.specs.declared.words.Request.{Request}
use Rattle.trace_cli.specs.declared.words.Request.TheVariants.{Run}

-- a run is on 1 to 16 cores
abbrev pub IsRequest : Request → Type 0
IsRequest (Run cores trace) = IsUpTo16 cores
IsRequest other = Unit {0}

-- What the words of a command line ask of the program; the first is the program's name.
-- Source: this project.
use Rattle.std.specs.Prelude.{ℕ, Bool, true, false, List, [], ◌∷◌, Option, Some, None, codes, option_map, if◌then◌else◌}
use Rattle.std.specs.Str.{bytes_eq}
use Rattle.trace_commands.specs.declared.store.MachineAsked.{MachineAsked}
use Rattle.trace_commands.specs.Stores.{asked_by, nothing_asked, store_named}
use Rattle.conflict_text.specs.declared.command.WhyAsked.{WhyAsked}

-- this machine, and whether each attempt has a line
abbrev pub asking : MachineAsked → Bool → WhyAsked
asking machine attempts = record { machine = machine; attempts = attempts }

-- the machine of the store whose run is explained
abbrev pub over_store : List ℕ → Bool → Option WhyAsked
over_store word attempts = option_map (λ store. asking (asked_by store) attempts) (store_named word)

abbrev pub is_attempts : List ℕ → Bool
is_attempts word = bytes_eq word (codes "--attempts")

-- `STORE`, or `--attempts`: the machine of the image's version
abbrev pub asked_by_one : List ℕ → Option WhyAsked
asked_by_one word = if is_attempts word then Some (asking nothing_asked true) else over_store word false

-- `STORE --attempts`
abbrev pub asked_by_two : List ℕ → List ℕ → Option WhyAsked
asked_by_two word last = if is_attempts last then over_store word true else None

-- `why`, `why STORE`, `why --attempts`, or `why STORE --attempts`; any other words ask for nothing
abbrev pub asked_in : List (List ℕ) → Option WhyAsked
asked_in (program ∷ word ∷ []) = asked_by_one word
asked_in (program ∷ word ∷ last ∷ []) = asked_by_two word last
asked_in (program ∷ word ∷ last ∷ more ∷ words) = None
asked_in words = Some (asking nothing_asked false)

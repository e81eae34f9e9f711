-- What is printed of a survey.
-- Source: this project.
use Rattle.std.specs.Prelude.{ℕ, List, [], ◌++◌, length, codes, Option, Some, None}
use Rattle.std.specs.Fmt.{decimal}
use Rattle.std.specs.List.{flat_map, slice_index_or}
use Rattle.rv32_image.specs.Image.{LoadedImage}
use Rattle.rv32_exec.specs.Sequential.{sequential_result}
use Rattle.trace_commands.specs.Report.{report_of}
use Rattle.replay_command.specs.declared.survey.Extreme.{Extreme}
use Rattle.replay_command.specs.declared.survey.Survey.{Survey}

-- a name, which ends with a space, and a number
abbrev pub number_line : List ℕ → ℕ → List ℕ
number_line name n = name ++ decimal n ++ codes "\n"

abbrev pub core_text : ℕ → List ℕ
core_text core = codes " " ++ decimal core

abbrev pub cores_text : List ℕ → List ℕ
cores_text schedule = flat_map core_text schedule

-- `turns K K ..`
abbrev pub turns_line : List ℕ → List ℕ
turns_line schedule = codes "turns" ++ cores_text schedule ++ codes "\n"

-- how many restarts, and a schedule with so many
abbrev pub extreme_lines : List ℕ → List (List ℕ) → Option Extreme → List ℕ
extreme_lines name schedules (Some e) = number_line name e.restarts ++ turns_line (slice_index_or schedules e.place [])
extreme_lines name schedules None = []

-- how many schedules there are, how many of them are over, and how many different histories they make
abbrev pub counts_lines : ℕ → Survey → List ℕ
counts_lines schedules survey =
    number_line (codes "schedules ") schedules ++ number_line (codes "over ") survey.over ++ number_line (codes "histories ") (length survey.traces.keys)

-- the report of the sequential loop, where a schedule is over
abbrev pub end_lines : LoadedImage → Option Extreme → List ℕ
end_lines image (Some e) = report_of image (sequential_result image)
end_lines image None = []

-- all that is printed
unfoldable pub survey_text : LoadedImage → List (List ℕ) → Survey → List ℕ
survey_text image schedules survey =
    counts_lines (length schedules) survey ++ extreme_lines (codes "least ") schedules survey.least ++ extreme_lines (codes "most ") schedules survey.most
    ++ end_lines image survey.least

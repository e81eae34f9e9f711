-- What a run is given beside its image and its cores: the machine that its store asks for, and the room of its history.
-- Source: this project.
use Rattle.std.specs.Prelude.{ℕ}
use Rattle.rv32_image.specs.Image.{LoadedImage}
use Rattle.homefree.specs.declared.book.Loop.{Loop}
use Rattle.trace_commands.specs.Stores.{on_machine}
use Rattle.run_command.specs.Runnable.{IsRunnable}
use Rattle.replay_command.specs.declared.settings.Settings.{Settings}
use Rattle.all_schedules.specs.Made.{loop_on}

-- the loop of an image, on the machine that is asked for
abbrev pub loop_with : LoadedImage → ℕ → Settings → Loop
loop_with image cores settings = loop_on (on_machine settings.asked image) cores settings.room

-- it can be run there
abbrev pub RunsWith : LoadedImage → ℕ → Settings → Type 0
RunsWith image cores settings = IsRunnable (on_machine settings.asked image) cores

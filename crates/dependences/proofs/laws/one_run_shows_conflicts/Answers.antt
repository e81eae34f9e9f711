use Rattle.dependences.proofs.Showing.{buffers_shown, bytes_shown, lines_shown, shared_shown}
use Rattle.dependences.proofs.laws.one_run_shows_conflicts.Goals as goal

pub returns-clause-bytes : goal.returns-clause-bytes
returns-clause-bytes c image cores is free conflict = bytes_shown image cores is free conflict

pub returns-clause-lines : goal.returns-clause-lines
returns-clause-lines c image cores is free conflict = lines_shown image cores is free conflict

pub returns-clause-buffers : goal.returns-clause-buffers
returns-clause-buffers c image cores is bytes free overflow = buffers_shown image cores is bytes free overflow

pub returns-clause-shared : goal.returns-clause-shared
returns-clause-shared c image cores is bytes free overflow = shared_shown image cores is bytes free overflow

use Rattle.dependences.proofs.Fewer.{buffers_on_fewer, bytes_on_fewer, lines_on_fewer, shared_on_fewer}
use Rattle.dependences.proofs.laws.fewer_cores_conflict_no_more.Goals as goal

pub returns-clause-bytes : goal.returns-clause-bytes
returns-clause-bytes c image fewer more is least free conflict = bytes_on_fewer image fewer more is least free conflict

pub returns-clause-lines : goal.returns-clause-lines
returns-clause-lines c image fewer more is least free conflict = lines_on_fewer image fewer more is least free conflict

pub returns-clause-buffers : goal.returns-clause-buffers
returns-clause-buffers c image fewer more is least bytes free overflow = buffers_on_fewer image fewer more is least bytes free overflow

pub returns-clause-shared : goal.returns-clause-shared
returns-clause-shared c image fewer more is least bytes free overflow = shared_on_fewer image fewer more is least bytes free overflow

-- How many violations belong to a part, and what they lost.
use Rattle.std.specs.Prelude.{ℕ, ◌+◌, ◌^◌, ◌<◌, List, if◌then◌else◌, count_by, sum_by}
use Rattle.conflict_findings.specs.declared.part.Part.{Part}
use Rattle.conflict_findings.specs.declared.part.Part.TheVariants.{Whole}
use Rattle.conflict_findings.specs.declared.rollback.Rollback.{Rollback}
use Rattle.conflict_findings.specs.declared.sum.Sum.{Sum}
use Rattle.conflict_findings.specs.Parts.{belongs}

abbrev pub count_in : Part → List Rollback → ℕ
count_in part rollbacks = count_by (belongs part) rollbacks

-- what a violation adds to what a part lost
abbrev pub lost_by : Part → Rollback → ℕ
lost_by part r = if belongs part r then r.lost else 0

abbrev pub lost_in : Part → List Rollback → ℕ
lost_in part rollbacks = sum_by (lost_by part) rollbacks

-- what the violations of a part cost
abbrev pub sum_in : Part → List Rollback → Sum
sum_in part rollbacks = record { count = count_in part rollbacks; lost = lost_in part rollbacks }

-- one violation more can be counted with what this cost, and an instruction may count it twice
pub record IsRoomy (sum : Sum) : Type 0 where
  pub count : sum.count + 1 < 2 ^ 31
  pub lost : sum.lost < 2 ^ 126

-- one violation more, which lost so much, can be counted with these
pub record HasRoom (rollbacks : List Rollback) (more : ℕ) : Type 0 where
  pub count : count_in Whole rollbacks + 1 < 2 ^ 32
  pub lost : lost_in Whole rollbacks + more < 2 ^ 128

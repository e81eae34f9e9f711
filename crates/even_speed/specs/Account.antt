-- Where the steps of cores went.
-- Source: this project.
use Rattle.std.specs.Prelude.{◌≡◌, ℕ, ◌+◌}
use Rattle.homefree.specs.declared.answer.Cause.{Cause}
use Rattle.homefree.specs.declared.answer.Cause.TheVariants.{NoEpoch, NotHomefree, NoWay, OrbFull, OrbBusy}
use Rattle.even_speed.specs.declared.account.Account.{Account}
use Rattle.even_speed.specs.declared.account.Spent.{Spent}

-- ---- what attempts spend beside their instructions

abbrev pub nothing_spent : Spent
nothing_spent = record { handling = 0; memory = 0; queue = 0 }

abbrev pub total : Spent → ℕ
total s = s.handling + s.memory + s.queue

abbrev pub both : Spent → Spent → Spent
both s t = record { handling = s.handling + t.handling; memory = s.memory + t.memory; queue = s.queue + t.queue }

-- so many steps more, in a queue
abbrev pub with_queue : ℕ → Spent → Spent
with_queue n s = record s { queue = s.queue + n }

-- a step more, to begin or commit an epoch
abbrev pub one_more : Spent → Spent
one_more s = record s { handling = s.handling + 1 }

-- ---- all steps

abbrev pub no_steps : Account
no_steps = record { busy = 0; spent = nothing_spent; lost = 0; dropped = 0; idle = 0; held = 0; not_homefree = 0; no_way = 0; orb_full = 0; orb_busy = 0 }

-- of attempts that committed
abbrev pub useful_in : Account → ℕ
useful_in a = a.busy + total a.spent

abbrev pub waiting_of : Account → ℕ
waiting_of a = a.not_homefree + a.no_way + a.orb_full + a.orb_busy

-- all steps
abbrev pub steps_of : Account → ℕ
steps_of a = useful_in a + a.lost + a.dropped + waiting_of a + a.held + a.idle

-- all went to epochs that committed, or went by without one, or were held
pub record WastesNone (a : Account) : Type 0 where
  pub lost : a.lost ≡ 0
  pub dropped : a.dropped ≡ 0
  pub waiting : waiting_of a ≡ 0

abbrev pub sum_of : Account → Account → Account
sum_of a b = record {
  busy = a.busy + b.busy;
  spent = both a.spent b.spent;
  lost = a.lost + b.lost;
  dropped = a.dropped + b.dropped;
  idle = a.idle + b.idle;
  held = a.held + b.held;
  not_homefree = a.not_homefree + b.not_homefree;
  no_way = a.no_way + b.no_way;
  orb_full = a.orb_full + b.orb_full;
  orb_busy = a.orb_busy + b.orb_busy;
}

-- so many steps more, waited for this cause; who waits for an epoch has none
abbrev pub with_waited : Cause → ℕ → Account → Account
with_waited NoEpoch n a = record a { idle = a.idle + n }
with_waited NotHomefree n a = record a { not_homefree = a.not_homefree + n }
with_waited NoWay n a = record a { no_way = a.no_way + n }
with_waited OrbFull n a = record a { orb_full = a.orb_full + n }
with_waited OrbBusy n a = record a { orb_busy = a.orb_busy + n }

-- so many steps more, held
abbrev pub with_hold : ℕ → Account → Account
with_hold n a = record a { held = a.held + n }

-- so many instructions more, and what their attempts spent beside them
abbrev pub with_useful : ℕ → Spent → Account → Account
with_useful n spent a = record a { busy = a.busy + n; spent = both a.spent spent }

abbrev pub with_lost : ℕ → Account → Account
with_lost n a = record a { lost = a.lost + n }

abbrev pub with_dropped : ℕ → Account → Account
with_dropped n a = record a { dropped = a.dropped + n }

abbrev pub with_idle : ℕ → Account → Account
with_idle n a = record a { idle = a.idle + n }

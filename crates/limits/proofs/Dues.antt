-- When cores are due beside a timing, as others wake them and time goes on.
use Rattle.std.proofs.Common.{◌≡◌, ◌≢◌, ℕ, ◌≤◌, refl, sym, subst, ◌∙◌, inl, inr, arith}
use Rattle.std.proofs.lemmas.Bool.Decides.{nat_tests}
use Rattle.rv32_exec.specs.declared.stop.Stop.{Stop}
use Rattle.rv32_exec.specs.declared.stop.Stop.TheVariants as stop
use Rattle.homefree.specs.declared.answer.Cause.{Cause}
use Rattle.homefree.specs.Turned.{IsEnd}
use Rattle.even_speed.specs.declared.clock.Clock.{Clock}
use Rattle.even_speed.specs.declared.clock.Next.{Next}
use Rattle.even_speed.specs.declared.clock.Next.TheVariants.{Due, Waits, Gone}
use Rattle.even_speed.specs.Clocks.{woken, woken_from}
use Rattle.even_speed.specs.Pricing.{later}
use Rattle.limits.proofs.Plans.{IsAccessBy, IsBy, IsEndBy}
use Rattle.limits.proofs.Quiet.{IsAccess}

pub later_from : (now due : ℕ) → now ≤ later now due
later_from now due = grind (arith, nat_tests)

-- ---- clocks

woken_due_by : (at d : ℕ) (c : Clock) (n : Next) → c.next ≡ n → n ≡ Due d → (woken_from n at c).next ≡ Due d
woken_due_by at d c (Due x) is due = is ∙ due
woken_due_by at d c (Waits since cause) is due = absurd cc
woken_due_by at d c Gone is due = absurd cc

pub woken_due : (at d : ℕ) (c : Clock) → c.next ≡ Due d → (woken at c).next ≡ Due d
woken_due at d c is = woken_due_by at d c c.next refl is

end_woken : (now at h h' e bound : ℕ) (c : Clock) (n : Next) → now ≤ at → c.next ≡ n → IsEndBy now h e bound n → IsEndBy at h' e bound (woken_from n at c).next
end_woken now at h h' e bound c (Due d) later is (inl soon) = subst (IsEndBy at h' e bound) (sym is) (inl soon)
end_woken now at h h' e bound c (Due d) later is (inr past) = subst (IsEndBy at h' e bound) (sym is) (inr (omega (arith, later, past)))
end_woken now at h h' e bound c (Waits since cause) later is by = inr (omega arith)
end_woken now at h h' e bound c Gone later is by = absurd by

end_later : (now at h e bound : ℕ) (n : Next) → now ≤ at → IsEndBy now h e bound n → IsEndBy at h e bound n
end_later now at h e bound (Due d) more (inl soon) = inl soon
end_later now at h e bound (Due d) more (inr past) = inr (omega (arith, more, past))
end_later now at h e bound (Waits since cause) more by = by
end_later now at h e bound Gone more by = by

access_woken : (now at bound : ℕ) (c : Clock) → at ≤ bound → IsAccessBy now bound c.next → IsAccessBy at bound (woken at c).next
access_woken now at bound c most by = record { due = by.due; is = woken_due at by.due c by.is; soon = by.soon; by = most }

access_later : (now at bound : ℕ) (n : Next) → at ≤ bound → IsAccessBy now bound n → IsAccessBy at bound n
access_later now at bound n most by = record { due = by.due; is = by.is; soon = by.soon; by = most }

pub by_woken : (now at h h' e bound : ℕ) (a : Stop) (c : Clock) → now ≤ at → (IsAccess a → at ≤ bound) → IsBy now h e bound a c.next → IsBy at h' e bound a (woken at c).next
by_woken now at h h' e bound (stop.Load address width signed rd) c more most by = access_woken now at bound c (most tt) by
by_woken now at h h' e bound (stop.Store address width value) c more most by = access_woken now at bound c (most tt) by
by_woken now at h h' e bound stop.Ended c more most by = end_woken now at h h' e bound c c.next more refl by
by_woken now at h h' e bound (stop.Fault cause pc) c more most by = end_woken now at h h' e bound c c.next more refl by

pub by_later : (now at h e bound : ℕ) (a : Stop) (n : Next) → now ≤ at → (IsAccess a → at ≤ bound) → IsBy now h e bound a n → IsBy at h e bound a n
by_later now at h e bound (stop.Load address width signed rd) n more most by = access_later now at bound n (most tt) by
by_later now at h e bound (stop.Store address width value) n more most by = access_later now at bound n (most tt) by
by_later now at h e bound stop.Ended n more most by = end_later now at h e bound n more by
by_later now at h e bound (stop.Fault cause pc) n more most by = end_later now at h e bound n more by

-- its next event is due then
pub by_due : (at h e bound d : ℕ) (a : Stop) (n : Next) → n ≡ Due d → at ≤ d → d ≤ bound → IsBy at h e bound a n
by_due at h e bound d (stop.Load address width signed rd) n is from soon = record { due = d; is = is; soon = soon; by = omega (arith, from, soon) }
by_due at h e bound d (stop.Store address width value) n is from soon = record { due = d; is = is; soon = soon; by = omega (arith, from, soon) }
by_due at h e bound d stop.Ended n is from soon = subst (IsEndBy at h e bound) (sym is) (inl soon)
by_due at h e bound d (stop.Fault cause pc) n is from soon = subst (IsEndBy at h e bound) (sym is) (inl soon)

-- it waits at its end
pub by_wait : (at h e bound since : ℕ) (cause : Cause) (a : Stop) (n : Next) → IsEnd a → n ≡ Waits since cause → e ≢ h → IsBy at h e bound a n
by_wait at h e bound since cause (stop.Load address width signed rd) n ends is other = absurd ends
by_wait at h e bound since cause (stop.Store address width value) n ends is other = absurd ends
by_wait at h e bound since cause stop.Ended n ends is other = subst (IsEndBy at h e bound) (sym is) other
by_wait at h e bound since cause (stop.Fault code pc) n ends is other = subst (IsEndBy at h e bound) (sym is) other

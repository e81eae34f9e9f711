use Rattle.std.proofs.Common.{◌≡◌, ◌≤◌, ℕ, None, Option, sym, ◌∙◌}
use Rattle.std.proofs.lemmas.Result.{IfOk-weaker}
use Rattle.dependences.specs.declared.caches.CacheConflict.{CacheConflict}
use Rattle.dependences.specs.Conflict.{Overflow}
use Rattle.dependences.specs.Shared.{AreApart}
use Rattle.dependences.specs.Laws.{NeverOverLines}
use Rattle.dependences.specs.KeptTouches.{IsNever}
use Rattle.dependences.proofs.Caching.{never_alone, none_of}
use Rattle.dependences.proofs.Nevers.{apart_on_fewer, never_lines_on_fewer}
use Rattle.dependences.proofs.caches.conflict_over_caches.Goals as goal

pub conflict_past_end-requires-clause-all : goal.conflict_past_end-requires-clause-all
conflict_past_end-requires-clause-all c = c.conflict_in_order-ran.ensures.all (none_of c.conflict_in_order-ran.result.found (sym c.is_some.ensures ∙ c.if-is_some.false))

pub conflict_past_end-requires-clause-kept : goal.conflict_past_end-requires-clause-kept
conflict_past_end-requires-clause-kept c = c.conflict_in_order-ran.ensures.kept (none_of c.conflict_in_order-ran.result.found (sym c.is_some.ensures ∙ c.if-is_some.false))

pub conflict_past_end-requires-clause-clear : goal.conflict_past_end-requires-clause-clear
conflict_past_end-requires-clause-clear c = c.conflict_in_order-ran.ensures.none (none_of c.conflict_in_order-ran.result.found (sym c.is_some.ensures ∙ c.if-is_some.false))

pub returns-clause-apart : goal.returns-clause-apart
returns-clause-apart c =
    IfOk-weaker c.conflict_past_end.result (λ (found : Option CacheConflict). found ≡ None → IsNever c.args.image.now c.args.cores)
    (λ (found : Option CacheConflict). found ≡ None → (fewer : ℕ) → fewer ≤ c.args.cores → AreApart c.args.image.now fewer)
    (λ found never none. apart_on_fewer c.args.image.now c.args.cores c.bytes-bytes.ensures.limits (never none)) c.conflict_past_end.ensures.none

pub returns-clause-never : goal.returns-clause-never
returns-clause-never c =
    IfOk-weaker c.conflict_past_end.result (λ (found : Option CacheConflict). found ≡ None → IsNever c.args.image.now c.args.cores)
    (λ (found : Option CacheConflict). found ≡ None → (fewer : ℕ) → fewer ≤ c.args.cores → (Overflow c.args.image.now fewer → ⊥) → NeverOverLines c.args.image.now fewer)
    (λ found never none. never_lines_on_fewer c.args.image.now c.args.cores c.bytes-bytes.ensures.limits (never none)) c.conflict_past_end.ensures.none

pub returns-then-cores-lt2-clause-none : goal.returns-then-cores-lt2-clause-none
returns-then-cores-lt2-clause-none c none = never_alone c.args.image.now c.args.cores c.if-cores-lt2.true

pub returns-then-cores-lt2-clause-apart : goal.returns-then-cores-lt2-clause-apart
returns-then-cores-lt2-clause-apart c none =
    apart_on_fewer c.args.image.now c.args.cores c.bytes-bytes.ensures.limits (never_alone c.args.image.now c.args.cores c.if-cores-lt2.true)

pub returns-then-cores-lt2-clause-never : goal.returns-then-cores-lt2-clause-never
returns-then-cores-lt2-clause-never c none =
    never_lines_on_fewer c.args.image.now c.args.cores c.bytes-bytes.ensures.limits (never_alone c.args.image.now c.args.cores c.if-cores-lt2.true)

-- A text that is not too long is never told to be.
use Rattle.std.proofs.Common.{◌≡◌, ◌≢◌, ℕ, ◌+◌, ◌≤◌, Bool, true, false, cond, List, [], ◌∷◌, length, Option, Some, None, Result, Ok, Err, sym, subst, ◌∙◌, refl}
use Rattle.spec_history.specs.declared.entry.Entry.{Entry}
use Rattle.rv32_image.specs.declared.version.Version.{Version}
use Rattle.rv32_image.specs.ImageText.{is_remark, pieces}
use Rattle.rv32_image.specs.Parts.{lines_above, lines_below}
use Rattle.trace_text.specs.declared.fault.TraceFault.{TraceFault}
use Rattle.trace_text.specs.declared.fault.TraceFaultKind.TheVariants.{Head, Line, TooLong}
use Rattle.trace_text.specs.TraceText.{alone, cores_in, entry_in, joined, line_read, lines_read, longest_trace_text, of_cores, or_fault, trace_at, trace_prefix, trace_text}
use Rattle.trace_text.proofs.Lines.{trace_text-is}

-- no fault is `TooLong`
abbrev NotLong : {A : Type 0} → Result A TraceFault → Type 0
NotLong (Ok x) = Unit {0}
NotLong (Err fault) = fault.kind ≢ TooLong

either : {A : Type 0} (b : Bool) (one other : Result A TraceFault) → NotLong one → NotLong other → NotLong (cond b one other)
either true one other p q = p
either false one other p q = q

of_entry : (entry : Option Entry) (n : ℕ) → NotLong (alone (or_fault entry n Line))
of_entry (Some entry) n = tt
of_entry None n = λ e. cc

of_line : (n : ℕ) (line : List ℕ) → NotLong (line_read n line)
unfolding line_read
of_line n line = either (is_remark line) (Ok []) (alone (or_fault (entry_in (pieces 32 line)) n Line)) tt (of_entry (entry_in (pieces 32 line)) n)

of_joined : (one other : Result (List Entry) TraceFault) → NotLong one → NotLong other → NotLong (joined one other)
of_joined (Ok xs) (Ok ys) p q = tt
of_joined (Ok xs) (Err fault) p q = q
of_joined (Err fault) other p q = p

of_lines : (n : ℕ) (lines : List (List ℕ)) → NotLong (lines_read n lines)
unfolding lines_read
of_lines n [] = tt
of_lines n (line ∷ lines) = of_joined (line_read n line) (lines_read (n + 1) lines) (of_line n line) (of_lines (n + 1) lines)

of_head : (cores : Option ℕ) (n : ℕ) (entries : Result (List Entry) TraceFault) → NotLong entries → NotLong (of_cores (or_fault cores n Head) entries)
of_head (Some cores) n (Ok entries) p = tt
of_head (Some cores) n (Err fault) p = p
of_head None n entries p = λ e. cc

of_trace : (version : Version) (n : ℕ) (lines : List (List ℕ)) → NotLong (trace_at version n lines)
unfolding trace_at
of_trace version n [] = λ e. cc
of_trace version n (head ∷ lines) = of_head (cores_in version (pieces 32 head)) n (lines_read (n + 1) lines) (of_lines (n + 1) lines)

pub never_too_long : (version : Version) (text : List ℕ) (fault : TraceFault) → length text ≤ longest_trace_text → trace_text version text ≡ Err fault
    → fault.kind ≢ TooLong
never_too_long version text fault short is =
    let n = lines_above trace_prefix (pieces 10 text) + 1 in
    let lines = lines_below trace_prefix (pieces 10 text) in
    subst NotLong (sym (trace_text-is version text n lines short refl refl) ∙ is) (of_trace version n lines)

-- How long the text of a run with its trace is: at most 29 bytes for each entry.
use Rattle.std.proofs.Common.{◌≡◌, ◌⊎◌, ℕ, ◌+◌, ◌*◌, ◌<◌, ◌≤◌, ◌^◌, nat_lt, Bool, true, false, cond, List, [], ◌∷◌, ◌++◌, length, codes, Option, Some, None, Result, Ok, Err, refl, sym, ap, subst, ◌∙◌, inl, inr, true≢false, length-append, ltb-true, arith}
use Rattle.std.proofs.lemmas.Bool.{and_parts}
use Rattle.std.proofs.lemmas.Bool.Decides.{nat_tests}
use Rattle.std.proofs.lemmas.Fmt.{length-decimal-le}
use Rattle.std.proofs.lemmas.List.Concat.{flat_map-cons}
use Rattle.std.specs.Fmt.{decimal}
use Rattle.std.specs.List.{flat_map}
use Rattle.rv32_image.specs.declared.fault.ImageFault.{ImageFault}
use Rattle.rv32_image.specs.Image.{LoadedImage}
use Rattle.rv32_image.specs.ImageText.{image_text, longest_image_text}
use Rattle.spec_history.specs.declared.entry.Entry.{Entry}
use Rattle.spec_history.specs.declared.entry.What.{What}
use Rattle.spec_history.specs.declared.entry.What.TheVariants.{Start, Load, Store, Hurt, Cancel, Restart, Publish, Commit, Fault}
use Rattle.spec_history.specs.Effect.{by_core, effect, effect_idle, effect_on, hurt_at, idle_at, with_core}
use Rattle.spec_history.specs.FlatState.{CoreState, FlatState, first_state}
use Rattle.spec_history.specs.Machine.{IsInMemory}
use Rattle.spec_history.specs.Refusal.{is_there, refusal_of, runs_and}
use Rattle.spec_history.specs.Replay.{replay, replay_from}
use Rattle.spec_history.proofs.OneEntry.Keeping.{at_core}
use Rattle.spec_history.proofs.OneEntry.Legal.{legal_entry, next_in_memory}
use Rattle.spec_history.proofs.Replay.Replays.{effect-idle, effect-on, legal_by, not_running}
use Rattle.trace_text.specs.Laws.{AreEntries, IsWhat}
use Rattle.trace_text.specs.Printing.{access_text, entry_line, head_line, hex_word, printed_trace, what_text}
use Rattle.trace_text.specs.TraceText.{longest_trace_text}
use Rattle.trace_text.proofs.EightDigits.{eight_long}
use Rattle.trace_text.proofs.ReadsBack.{digits-hex}

-- ---- the cores of entries are there

abbrev AreThere : ℕ → (ℕ → Option CoreState) → Type 0
AreThere count cores = (k : ℕ) (c : CoreState) → cores k ≡ Some c → k < count

with_there : (count by : ℕ) (cores : ℕ → Option CoreState) (core : Option CoreState) → by < count → AreThere count cores → AreThere count (with_core cores by core)
with_there count by cores core below there k c at = elim (at_core cores by core k c at) [
  | inl same ↦ subst (λ n. n < count) (sym same.0) below
  | inr other ↦ there k c other.1
]

hurt_ran : (epoch : ℕ) (core : Option CoreState) (c : CoreState) → hurt_at epoch core ≡ Some c → (d : CoreState) × (core ≡ Some d)
hurt_ran epoch None c is = absurd cc
hurt_ran epoch (Some d) c is = (d, refl)

idle_ran : (epoch : ℕ) (core : Option CoreState) (c : CoreState) → idle_at epoch core ≡ Some c → (d : CoreState) × (core ≡ Some d)
idle_ran epoch None c is = absurd cc
idle_ran epoch (Some d) c is = (d, refl)

on_there : (image : LoadedImage) (count : ℕ) (s : FlatState) (by : ℕ) (c : CoreState) (what : What) → by < count → AreThere count s.cores
    → AreThere count (effect_on image s by c what).cores
on_there image count s by c (Start epoch) below there = there
on_there image count s by c (Load address width value) below there = with_there count by s.cores _ below there
on_there image count s by c (Store address width value) below there = with_there count by s.cores _ below there
on_there image count s by c (Hurt epoch) below there = λ k d at. let was = hurt_ran epoch (s.cores k) d at in there k was.0 was.1
on_there image count s by c (Cancel epoch) below there = λ k d at. let was = idle_ran epoch (s.cores k) d at in there k was.0 was.1
on_there image count s by c Restart below there = with_there count by s.cores _ below there
on_there image count s by c Publish below there = with_there count by s.cores _ below there
on_there image count s by c Commit below there = with_there count by s.cores _ below there
on_there image count s by c (Fault cause pc) below there = there

idle_there : (image : LoadedImage) (count : ℕ) (s : FlatState) (by : ℕ) (what : What) → by < count → AreThere count s.cores → AreThere count (effect_idle image s by what).cores
idle_there image count s by (Start epoch) below there = with_there count by s.cores _ below there
idle_there image count s by what below there = there

-- an idle core can only start
begins_there : (count : ℕ) (s : FlatState) (by : ℕ) (what : What) → s.cores by ≡ None → is_there count s by what ≡ true → by < count
begins_there count s by (Start epoch) at is = ltb-true _ _ (and_parts (nat_lt by count) _ is).0
begins_there count s by (Load address width value) at is = absurd (not_running (s.cores by) _ at is)
begins_there count s by (Store address width value) at is = absurd (not_running (s.cores by) _ at is)
begins_there count s by (Hurt epoch) at is = absurd (not_running (s.cores by) _ at (and_parts (runs_and (s.cores by) (λ x. nat_lt x.epoch epoch)) _ is).0)
begins_there count s by (Cancel epoch) at is = absurd (not_running (s.cores by) _ at (and_parts (runs_and (s.cores by) (λ x. nat_lt x.epoch epoch)) _ is).0)
begins_there count s by Restart at is = absurd (true≢false (sym is ∙ ap (λ o. by_core o false (λ x. x.hurt)) at))
begins_there count s by Publish at is = absurd (not_running (s.cores by) _ at is)
begins_there count s by Commit at is = absurd (not_running (s.cores by) _ at is)
begins_there count s by (Fault cause pc) at is = absurd (not_running (s.cores by) _ at is)

after_there : (image : LoadedImage) (count : ℕ) (s : FlatState) (by : ℕ) (what : What) (core : Option CoreState) → s.cores by ≡ core → is_there count s by what ≡ true
    → AreThere count s.cores → (by < count) × AreThere count (effect image s (record { by = by; what = what })).cores
after_there image count s by what None at is there =
    let below = begins_there count s by what at is in
    (below, subst (λ (x : FlatState). AreThere count x.cores) (sym (effect-idle image s by what at)) (idle_there image count s by what below there))
after_there image count s by what (Some c) at is there =
    let below = there by c at in
    (below, subst (λ (x : FlatState). AreThere count x.cores) (sym (effect-on image s by what c at)) (on_there image count s by c what below there))

-- ---- one line

-- its access is of 1, 2 or 4 bytes
abbrev IsWide : ℕ → Type 0
IsWide width = (width ≡ 1) ⊎ (width ≡ 2) ⊎ (width ≡ 4)

one_digit : (width : ℕ) → IsWide width → width < 10
one_digit width is = elim is [
  | inl one ↦ omega (arith, one)
  | inr more ↦ elim more [
    | inl two ↦ omega (arith, two)
    | inr four ↦ omega (arith, four)
  ]
]

digit_long : (width : ℕ) → IsWide width → length (decimal width) ≤ 1
digit_long width is = let small = one_digit width is in length-decimal-le 1 width (omega arith) (omega (arith, small)) (omega (arith, small))

number_long : (n : ℕ) → n < 2 ^ 32 → length (decimal n) ≤ 10
number_long n small = length-decimal-le 10 n (omega arith) (omega arith) (omega arith)

hex_long : (n : ℕ) → n < 2 ^ 32 → length (hex_word n) ≡ 8
hex_long n small = eight_long (hex_word n) n (digits-hex n small)

access_long : (address width value : ℕ) → address < 2 ^ 32 → value < 2 ^ 32 → IsWide width → length (access_text address width value) ≤ 19
access_long address width value low small is =
    omega (
      arith,
      length-append (hex_word address ++ codes " " ++ decimal width ++ codes " ") (hex_word value),
      length-append (hex_word address ++ codes " " ++ decimal width) (codes " "),
      length-append (hex_word address ++ codes " ") (decimal width),
      length-append (hex_word address) (codes " "),
      hex_long address low,
      hex_long value small,
      digit_long width is,
    )

what_long : (size : ℕ) (what : What) → IsWhat what → IsInMemory size what → length (what_text what) ≤ 25
what_long size (Start epoch) small is = omega (arith, length-append (codes "start ") (decimal epoch), number_long epoch small)
what_long size (Load address width value) small is =
    omega (arith, length-append (codes "load ") (access_text address width value), access_long address width value small.0 small.2 is.0)
what_long size (Store address width value) small is =
    omega (arith, length-append (codes "store ") (access_text address width value), access_long address width value small.0 small.2 is.0)
what_long size (Hurt epoch) small is = omega (arith, length-append (codes "hurt ") (decimal epoch), number_long epoch small)
what_long size (Cancel epoch) small is = omega (arith, length-append (codes "cancel ") (decimal epoch), number_long epoch small)
what_long size Restart small is = omega arith
what_long size Publish small is = omega arith
what_long size Commit small is = omega arith
what_long size (Fault cause pc) small is =
    omega (
      arith,
      length-append (codes "fault " ++ decimal cause ++ codes " ") (hex_word pc),
      length-append (codes "fault " ++ decimal cause) (codes " "),
      length-append (codes "fault ") (decimal cause),
      number_long cause small.0,
      hex_long pc small.1,
    )

line_long : (size : ℕ) (entry : Entry) → entry.by < 16 → IsWhat entry.what → IsInMemory size entry.what → length (entry_line entry) ≤ 29
unfolding entry_line
line_long size entry few small is =
    omega (
      arith,
      length-append (decimal entry.by ++ codes " " ++ what_text entry.what) (codes "\n"),
      length-append (decimal entry.by ++ codes " ") (what_text entry.what),
      length-append (decimal entry.by) (codes " "),
      length-decimal-le 2 entry.by (omega arith) (omega (arith, few)) (omega (arith, few)),
      what_long size entry.what small is,
    )

-- ---- all lines

lines_long : (image : LoadedImage) (count : ℕ) (entries : List Entry) (s last : FlatState) → count ≤ 16 → AreThere count s.cores → AreEntries entries
    → replay_from image count s entries ≡ Some last → length (flat_map entry_line entries) ≤ 29 * length entries
unfolding replay_from
lines_long image count [] s last few there small replays = omega arith
lines_long image count (entry ∷ entries) s last few there small replays =
    legal_by image count s entry entries last (refusal_of image count s entry) refl replays
    (λ legal rest.
    let is = legal_entry image count s entry legal in
    let after = after_there image count s entry.by entry.what (s.cores entry.by) refl is.there there in
    let one = line_long image.size entry (omega (arith, after.0, few)) small.1 (next_in_memory image s entry.by entry.what is.next) in
    let more = lines_long image count entries (effect image s entry) last few after.1 small.2 rest in
    omega (arith, ap length (flat_map-cons entry_line entry entries), length-append (entry_line entry) (flat_map entry_line entries), one, more))

head_long : (cores : ℕ) → cores ≤ 16 → length (head_line cores) ≤ 9
unfolding head_line
head_long cores few =
    omega (
      arith,
      length-append (codes "trace " ++ decimal cores) (codes "\n"),
      length-append (codes "trace ") (decimal cores),
      length-decimal-le 2 cores (omega arith) (omega (arith, few)) (omega (arith, few)),
    )

trace_long : (image : LoadedImage) (cores : ℕ) (history : List Entry) (last : FlatState) → cores ≤ 16 → AreEntries history → replay image cores history ≡ Some last
    → length (printed_trace cores history) ≤ 9 + 29 * length history
unfolding replay printed_trace
trace_long image cores history last few small replays =
    omega (
      arith,
      length-append (head_line cores) (flat_map entry_line history),
      head_long cores few,
      lines_long image cores history (first_state image) last few (λ k c at. absurd cc) small replays,
    )

-- ---- the image

short_by : (text : List ℕ) (long : Bool) (fault : ImageFault) (said : Result LoadedImage ImageFault) (image : LoadedImage) → nat_lt longest_image_text (length text) ≡ long
    → cond long (Err fault) said ≡ Ok image → length text ≤ longest_image_text
short_by text true fault said image is ok = absurd cc
short_by text false fault said image is ok = grind (arith, nat_tests)

image_long : (text : List ℕ) (image : LoadedImage) → image_text text ≡ Ok image → length text ≤ longest_image_text
unfolding image_text
image_long text image is = short_by text (nat_lt longest_image_text (length text)) _ _ image refl is

-- an image text and below it the trace of such a history
pub traced_short : (lines : List ℕ) (image : LoadedImage) (cores : ℕ) (history : List Entry) (last : FlatState) → image_text (lines ++ codes "\n") ≡ Ok image → cores ≤ 16
    → AreEntries history → replay image cores history ≡ Some last → length history ≤ 1048576
    → length (lines ++ codes "\n" ++ printed_trace cores history) ≤ longest_trace_text
traced_short lines image cores history last said few small replays within =
    omega (
      arith,
      length-append (lines ++ codes "\n") (printed_trace cores history),
      image_long (lines ++ codes "\n") image said,
      trace_long image cores history last few small replays,
      within,
    )

use Rattle.std.proofs.Common.{◌≡◌, ◌+◌, ◌-◌, ◌/◌, ◌%◌, ◌^◌, ◌<◌, true, true≢false, refl, sym, subst, ◌∙◌, inl, inr, arith}
use Rattle.std.proofs.lemmas.Option.{slice_get_read}
use Rattle.memory_bytes.specs.Bytes.{with_number}
use Rattle.rv32_exec.specs.Interpreter.{hart_at, is_whole}
use Rattle.rv32_exec.proofs.Interpreting.{faulting_at, followed, jumped, jumped_by, leads_further, left_by_right, left_by_run, loaded_on, place_here, place_there, same_word, stands_at, still_right, stopped_here, stored_on, whole_in_code}
use Rattle.rv32_exec.proofs.interpreter.run_code.Goals as goal

pub steps-smaller-in-Following : goal.steps-smaller-in-Following
steps-smaller-in-Following g c =
    let stands = stands_at c.args.image.now c.program-program.result.now c.args.is_near c.steps.word c.steps.last c.index-program-word.result c.program-program.ensures.limits c.program-program.ensures.program
    c.steps.invariant.in_code c.steps.invariant.before_last c.steps.invariant.within c.steps.invariant.far c.else-is_near.either
    (λ inside. slice_get_read c.program-program.result.now _ c.steps.word c.index-program-word.result refl inside c.index-program-word.is) in
    let done = c.steps.word + c.args.image.now.limit - c.steps.last in
    let it = followed c.args.image.now c.args.is_near c.steps.x.x c.execute.new.x.x c.steps.word c.steps.last c.steps.bytes c.execute.new.bytes c.index-program-word.result c.execute.new.at stands
    (c.in-Following.ensures.leads done) in
    omega (arith, it.1)

pub steps-preserved-in-Following : goal.steps-preserved-in-Following
steps-preserved-in-Following g c =
    let stands = stands_at c.args.image.now c.program-program.result.now c.args.is_near c.steps.word c.steps.last c.index-program-word.result c.program-program.ensures.limits c.program-program.ensures.program
    c.steps.invariant.in_code c.steps.invariant.before_last c.steps.invariant.within c.steps.invariant.far c.else-is_near.either
    (λ inside. slice_get_read c.program-program.result.now _ c.steps.word c.index-program-word.result refl inside c.index-program-word.is) in
    let done = c.steps.word + c.args.image.now.limit - c.steps.last in
    let it = followed c.args.image.now c.args.is_near c.steps.x.x c.execute.new.x.x c.steps.word c.steps.last c.steps.bytes c.execute.new.bytes c.index-program-word.result c.execute.new.at stands
    (c.in-Following.ensures.leads done) in
    record {
      leads = leads_further c.args.image.now _ _ _ _ _ _ c.steps.auto.bytes c.steps.invariant.leads it.2;
      in_code = omega (arith, it.0, c.program-program.ensures.limits.code_words);
      before_last = omega (arith, it.1);
      within = omega (arith, c.steps.invariant.within);
      far = c.steps.invariant.far;
      fixed = c.steps.invariant.fixed;
      right = still_right c.args.image.now (g.N.Notes.right c.args.image.now c.steps.notes) _ _ _ _ (c.others_need_no_note.ensures c.args.image.now c.steps.notes) it.3 (c.in-Following.ensures.leads done).1 c.steps.invariant.right;
    }

pub left_by-requires-clause-room : goal.left_by-requires-clause-room
left_by-requires-clause-room g c =
    λ whole.
    let stands = stands_at c.args.image.now c.program-program.result.now c.args.is_near c.steps.word c.steps.last c.index-program-word.result c.program-program.ensures.limits c.program-program.ensures.program
    c.steps.invariant.in_code c.steps.invariant.before_last c.steps.invariant.within c.steps.invariant.far c.else-is_near.either
    (λ inside. slice_get_read c.program-program.result.now _ c.steps.word c.index-program-word.result refl inside c.index-program-word.is) in
    let done = c.steps.word + c.args.image.now.limit - c.steps.last in
    let it = jumped_by c.args.image.now c.args.is_near c.steps.x.x c.execute.new.x.x c.steps.word c.steps.last c.in-By.by c.steps.bytes c.execute.new.bytes c.index-program-word.result c.execute.new.at stands
    (c.in-By.ensures.leads done) whole in
    it.1

pub returns-then-to-words-clause-run : goal.returns-then-to-words-clause-run
returns-then-to-words-clause-run g c =
    let stands = stands_at c.args.image.now c.program-program.result.now c.args.is_near c.steps.word c.steps.last c.index-program-word.result c.program-program.ensures.limits c.program-program.ensures.program
    c.steps.invariant.in_code c.steps.invariant.before_last c.steps.invariant.within c.steps.invariant.far c.else-is_near.either
    (λ inside. slice_get_read c.program-program.result.now _ c.steps.word c.index-program-word.result refl inside c.index-program-word.is) in
    let done = c.steps.word + c.args.image.now.limit - c.steps.last in
    rw c.left_by.ensures (left_by_run c.args.image.now c.args.is_near _ _ c.steps.x.x c.execute.new.x.x c.steps.word c.steps.last c.in-By.by c.steps.bytes c.execute.new.bytes c.index-program-word.result c.execute.new.at stands
    c.steps.invariant.in_code c.steps.auto.bytes c.steps.invariant.leads (c.in-By.ensures.leads done) (omega (arith, c.if-to-words.true, c.code.ensures.code)))

pub last_after-last-requires-clause-room : goal.last_after-last-requires-clause-room
last_after-last-requires-clause-room g c =
    let stands = stands_at c.args.image.now c.program-program.result.now c.args.is_near c.steps.word c.steps.last c.index-program-word.result c.program-program.ensures.limits c.program-program.ensures.program
    c.steps.invariant.in_code c.steps.invariant.before_last c.steps.invariant.within c.steps.invariant.far c.else-is_near.either
    (λ inside. slice_get_read c.program-program.result.now _ c.steps.word c.index-program-word.result refl inside c.index-program-word.is) in
    let done = c.steps.word + c.args.image.now.limit - c.steps.last in
    let few : c.args.image.now.code / 4 < 2 ^ 28 = omega (arith, c.program-program.ensures.limits.code_most, c.program-program.ensures.limits.size_most) in
    let to : (c.steps.word + c.in-By.by) % 2 ^ 64 < c.args.image.now.code / 4 = omega (arith, c.if-to-words.false, c.code.ensures.code) in
    let whole : is_whole c.in-By.by ≡ true = whole_in_code c.steps.word c.in-By.by (c.args.image.now.code / 4) (omega (arith, c.steps.invariant.in_code)) few c.in-By.ensures.lands to in
    let same : (c.steps.word + c.in-By.by) % 2 ^ 30 ≡ (c.steps.word + c.in-By.by) % 2 ^ 64 = same_word (c.steps.word + c.in-By.by) (c.args.image.now.code / 4) few to in
    let it = jumped_by c.args.image.now c.args.is_near c.steps.x.x c.execute.new.x.x c.steps.word c.steps.last c.in-By.by c.steps.bytes c.execute.new.bytes c.index-program-word.result c.execute.new.at stands
    (c.in-By.ensures.leads done) whole in
    it.1

pub returns-then-last-words-clause-run : goal.returns-then-last-words-clause-run
returns-then-last-words-clause-run g c =
    let stands = stands_at c.args.image.now c.program-program.result.now c.args.is_near c.steps.word c.steps.last c.index-program-word.result c.program-program.ensures.limits c.program-program.ensures.program
    c.steps.invariant.in_code c.steps.invariant.before_last c.steps.invariant.within c.steps.invariant.far c.else-is_near.either
    (λ inside. slice_get_read c.program-program.result.now _ c.steps.word c.index-program-word.result refl inside c.index-program-word.is) in
    let done = c.steps.word + c.args.image.now.limit - c.steps.last in
    let few : c.args.image.now.code / 4 < 2 ^ 28 = omega (arith, c.program-program.ensures.limits.code_most, c.program-program.ensures.limits.size_most) in
    let to : (c.steps.word + c.in-By.by) % 2 ^ 64 < c.args.image.now.code / 4 = omega (arith, c.if-to-words.false, c.code.ensures.code) in
    let whole : is_whole c.in-By.by ≡ true = whole_in_code c.steps.word c.in-By.by (c.args.image.now.code / 4) (omega (arith, c.steps.invariant.in_code)) few c.in-By.ensures.lands to in
    let same : (c.steps.word + c.in-By.by) % 2 ^ 30 ≡ (c.steps.word + c.in-By.by) % 2 ^ 64 = same_word (c.steps.word + c.in-By.by) (c.args.image.now.code / 4) few to in
    let it = jumped_by c.args.image.now c.args.is_near c.steps.x.x c.execute.new.x.x c.steps.word c.steps.last c.in-By.by c.steps.bytes c.execute.new.bytes c.index-program-word.result c.execute.new.at stands
    (c.in-By.ensures.leads done) whole in
    rw (c.left-then-last-words.ensures, c.last_after-last.ensures) (record {
      place = place_there c.args.image.now c.args.is_near c.steps.word c.steps.last ((c.steps.word + c.in-By.by) % 2 ^ 64) stands.here it.1 (omega (arith, few, to));
      leads = leads_further c.args.image.now _ _ _ _ _ _ c.steps.auto.bytes c.steps.invariant.leads (rw same at it.2);
      ends = omega (arith, to);
    })

pub steps-preserved-else-not-is_near : goal.steps-preserved-else-not-is_near
steps-preserved-else-not-is_near g c =
    let stands = stands_at c.args.image.now c.program-program.result.now c.args.is_near c.steps.word c.steps.last c.index-program-word.result c.program-program.ensures.limits c.program-program.ensures.program
    c.steps.invariant.in_code c.steps.invariant.before_last c.steps.invariant.within c.steps.invariant.far c.else-is_near.either
    (λ inside. slice_get_read c.program-program.result.now _ c.steps.word c.index-program-word.result refl inside c.index-program-word.is) in
    let done = c.steps.word + c.args.image.now.limit - c.steps.last in
    let few : c.args.image.now.code / 4 < 2 ^ 28 = omega (arith, c.program-program.ensures.limits.code_most, c.program-program.ensures.limits.size_most) in
    let to : (c.steps.word + c.in-By.by) % 2 ^ 64 < c.args.image.now.code / 4 = omega (arith, c.if-to-words.false, c.code.ensures.code) in
    let whole : is_whole c.in-By.by ≡ true = whole_in_code c.steps.word c.in-By.by (c.args.image.now.code / 4) (omega (arith, c.steps.invariant.in_code)) few c.in-By.ensures.lands to in
    let same : (c.steps.word + c.in-By.by) % 2 ^ 30 ≡ (c.steps.word + c.in-By.by) % 2 ^ 64 = same_word (c.steps.word + c.in-By.by) (c.args.image.now.code / 4) few to in
    let it = jumped_by c.args.image.now c.args.is_near c.steps.x.x c.execute.new.x.x c.steps.word c.steps.last c.in-By.by c.steps.bytes c.execute.new.bytes c.index-program-word.result c.execute.new.at stands
    (c.in-By.ensures.leads done) whole in
    record {
      leads = rw c.last_after-last.ensures (leads_further c.args.image.now _ _ _ _ _ _ c.steps.auto.bytes c.steps.invariant.leads (rw same at it.2));
      in_code = omega (arith, to);
      before_last = omega (arith, it.1, c.last_after-last.ensures);
      within = omega (arith, it.1, c.last_after-last.ensures, c.steps.invariant.within);
      fixed = c.steps.invariant.fixed;
      right = rw c.last_after-last.ensures (still_right c.args.image.now (g.N.Notes.right c.args.image.now c.steps.notes) _ _ _ _ (c.others_need_no_note.ensures c.args.image.now c.steps.notes) (rw same at it.3) (c.in-By.ensures.leads done).1 c.steps.invariant.right);
      far = λ far. elim c.else-not-is_near.either [ inl both ↦ omega (arith, both.1, c.code.ensures.code, c.program-program.ensures.limits.code_words) | inr near ↦ absurd (true≢false (sym near ∙ far)) ];
    }

pub last_at-last-requires-clause-room : goal.last_at-last-requires-clause-room
last_at-last-requires-clause-room g c =
    let stands = stands_at c.args.image.now c.program-program.result.now c.args.is_near c.steps.word c.steps.last c.index-program-word.result c.program-program.ensures.limits c.program-program.ensures.program
    c.steps.invariant.in_code c.steps.invariant.before_last c.steps.invariant.within c.steps.invariant.far c.else-is_near.either
    (λ inside. slice_get_read c.program-program.result.now _ c.steps.word c.index-program-word.result refl inside c.index-program-word.is) in
    let done = c.steps.word + c.args.image.now.limit - c.steps.last in
    let goes = c.in-To.ensures.leads done in
    let it = jumped c.args.image.now c.args.is_near c.steps.x.x c.execute.new.x.x c.steps.word c.steps.last c.in-To.to c.steps.bytes c.execute.new.bytes c.index-program-word.result stands goes.0 goes.1 in
    it.1

pub returns-then-to-words-2-clause-run : goal.returns-then-to-words-2-clause-run
returns-then-to-words-2-clause-run g c =
    let stands = stands_at c.args.image.now c.program-program.result.now c.args.is_near c.steps.word c.steps.last c.index-program-word.result c.program-program.ensures.limits c.program-program.ensures.program
    c.steps.invariant.in_code c.steps.invariant.before_last c.steps.invariant.within c.steps.invariant.far c.else-is_near.either
    (λ inside. slice_get_read c.program-program.result.now _ c.steps.word c.index-program-word.result refl inside c.index-program-word.is) in
    let done = c.steps.word + c.args.image.now.limit - c.steps.last in
    let goes = c.in-To.ensures.leads done in
    let it = jumped c.args.image.now c.args.is_near c.steps.x.x c.execute.new.x.x c.steps.word c.steps.last c.in-To.to c.steps.bytes c.execute.new.bytes c.index-program-word.result stands goes.0 goes.1 in
    rw (c.left-then-to-words-2.ensures, c.last_at-last.ensures) (record {
      place = place_there c.args.image.now c.args.is_near c.steps.word c.steps.last c.in-To.to stands.here it.1 (omega (arith, c.in-To.ensures.lands));
      leads = leads_further c.args.image.now _ _ _ _ _ _ c.steps.auto.bytes c.steps.invariant.leads it.2;
      ends = inr (omega (arith, c.if-to-words-2.true, c.code.ensures.code, c.program-program.ensures.limits.code_words));
    })

pub returns-then-last-words-2-clause-run : goal.returns-then-last-words-2-clause-run
returns-then-last-words-2-clause-run g c =
    let stands = stands_at c.args.image.now c.program-program.result.now c.args.is_near c.steps.word c.steps.last c.index-program-word.result c.program-program.ensures.limits c.program-program.ensures.program
    c.steps.invariant.in_code c.steps.invariant.before_last c.steps.invariant.within c.steps.invariant.far c.else-is_near.either
    (λ inside. slice_get_read c.program-program.result.now _ c.steps.word c.index-program-word.result refl inside c.index-program-word.is) in
    let done = c.steps.word + c.args.image.now.limit - c.steps.last in
    let goes = c.in-To.ensures.leads done in
    let it = jumped c.args.image.now c.args.is_near c.steps.x.x c.execute.new.x.x c.steps.word c.steps.last c.in-To.to c.steps.bytes c.execute.new.bytes c.index-program-word.result stands goes.0 goes.1 in
    rw (c.left-then-last-words-2.ensures, c.last_at-last.ensures) (record {
      place = place_there c.args.image.now c.args.is_near c.steps.word c.steps.last c.in-To.to stands.here it.1 (omega (arith, c.in-To.ensures.lands));
      leads = leads_further c.args.image.now _ _ _ _ _ _ c.steps.auto.bytes c.steps.invariant.leads it.2;
      ends = omega (arith, c.if-to-words-2.false, c.code.ensures.code);
    })

pub steps-preserved : goal.steps-preserved
steps-preserved g c =
    let stands = stands_at c.args.image.now c.program-program.result.now c.args.is_near c.steps.word c.steps.last c.index-program-word.result c.program-program.ensures.limits c.program-program.ensures.program
    c.steps.invariant.in_code c.steps.invariant.before_last c.steps.invariant.within c.steps.invariant.far c.else-is_near.either
    (λ inside. slice_get_read c.program-program.result.now _ c.steps.word c.index-program-word.result refl inside c.index-program-word.is) in
    let done = c.steps.word + c.args.image.now.limit - c.steps.last in
    let goes = c.in-To.ensures.leads done in
    let it = jumped c.args.image.now c.args.is_near c.steps.x.x c.execute.new.x.x c.steps.word c.steps.last c.in-To.to c.steps.bytes c.execute.new.bytes c.index-program-word.result stands goes.0 goes.1 in
    record {
      leads = rw c.last_at-last.ensures (leads_further c.args.image.now _ _ _ _ _ _ c.steps.auto.bytes c.steps.invariant.leads it.2);
      in_code = omega (arith, c.if-to-words-2.false, c.code.ensures.code);
      before_last = omega (arith, it.1, c.last_at-last.ensures);
      within = omega (arith, it.1, c.last_at-last.ensures, c.steps.invariant.within);
      fixed = c.steps.invariant.fixed;
      right = rw c.last_at-last.ensures (still_right c.args.image.now (g.N.Notes.right c.args.image.now c.steps.notes) _ _ _ _ (c.others_need_no_note.ensures c.args.image.now c.steps.notes) it.3 goes.1 c.steps.invariant.right);
      far = λ far. elim c.else-not-is_near-2.either [ inl both ↦ omega (arith, both.1, c.code.ensures.code, c.program-program.ensures.limits.code_words) | inr near ↦ absurd (true≢false (sym near ∙ far)) ];
    }

pub returns-in-Fault-clause-run : goal.returns-in-Fault-clause-run
returns-in-Fault-clause-run g c =
    let stands = stands_at c.args.image.now c.program-program.result.now c.args.is_near c.steps.word c.steps.last c.index-program-word.result c.program-program.ensures.limits c.program-program.ensures.program
    c.steps.invariant.in_code c.steps.invariant.before_last c.steps.invariant.within c.steps.invariant.far c.else-is_near.either
    (λ inside. slice_get_read c.program-program.result.now _ c.steps.word c.index-program-word.result refl inside c.index-program-word.is) in
    let done = c.steps.word + c.args.image.now.limit - c.steps.last in
    let goes = c.in-Fault.ensures.leads done in
    rw (c.left-in-Fault.ensures, goes.0, goes.1) (record {
      place = place_here c.args.image.now c.args.is_near c.steps.word c.steps.last stands.here c.steps.invariant.in_code;
      leads = c.steps.invariant.leads;
      ends = faulting_at c.args.image.now c.args.is_near c.steps.x.x c.steps.word c.steps.last c.in-Fault.cause c.index-program-word.result stands goes.2;
    })

pub returns-in-Access-clause-run : goal.returns-in-Access-clause-run
returns-in-Access-clause-run g c =
    let stands = stands_at c.args.image.now c.program-program.result.now c.args.is_near c.steps.word c.steps.last c.index-program-word.result c.program-program.ensures.limits c.program-program.ensures.program
    c.steps.invariant.in_code c.steps.invariant.before_last c.steps.invariant.within c.steps.invariant.far c.else-is_near.either
    (λ inside. slice_get_read c.program-program.result.now _ c.steps.word c.index-program-word.result refl inside c.index-program-word.is) in
    let done = c.steps.word + c.args.image.now.limit - c.steps.last in
    let goes = c.in-Access.ensures.leads done in
    rw (c.left-in-Access.ensures, goes.0, goes.1) (record {
      place = place_here c.args.image.now c.args.is_near c.steps.word c.steps.last stands.here c.steps.invariant.in_code;
      leads = c.steps.invariant.leads;
      ends = (
        stopped_here c.args.image.now c.args.is_near c.steps.x.x c.steps.word c.steps.last c.index-program-word.result c.execute.new.at stands goes.2 goes.3,
        omega (arith, goes.4, c.steps.auto.bytes),
      );
    })

pub returns-then-to-words-clause-right : goal.returns-then-to-words-clause-right
returns-then-to-words-clause-right g c =
    let stands = stands_at c.args.image.now c.program-program.result.now c.args.is_near c.steps.word c.steps.last c.index-program-word.result c.program-program.ensures.limits c.program-program.ensures.program
    c.steps.invariant.in_code c.steps.invariant.before_last c.steps.invariant.within c.steps.invariant.far c.else-is_near.either
    (λ inside. slice_get_read c.program-program.result.now _ c.steps.word c.index-program-word.result refl inside c.index-program-word.is) in
    let done = c.steps.word + c.args.image.now.limit - c.steps.last in
    rw c.left_by.ensures (left_by_right c.args.image.now (g.N.Notes.right c.args.image.now c.steps.notes) c.args.is_near c.steps.x.x c.execute.new.x.x c.steps.word c.steps.last c.in-By.by c.steps.bytes c.execute.new.bytes c.index-program-word.result c.execute.new.at
    (c.others_need_no_note.ensures c.args.image.now c.steps.notes) stands (c.in-By.ensures.leads done) c.steps.invariant.right)

pub returns-then-last-words-clause-right : goal.returns-then-last-words-clause-right
returns-then-last-words-clause-right g c =
    let stands = stands_at c.args.image.now c.program-program.result.now c.args.is_near c.steps.word c.steps.last c.index-program-word.result c.program-program.ensures.limits c.program-program.ensures.program
    c.steps.invariant.in_code c.steps.invariant.before_last c.steps.invariant.within c.steps.invariant.far c.else-is_near.either
    (λ inside. slice_get_read c.program-program.result.now _ c.steps.word c.index-program-word.result refl inside c.index-program-word.is) in
    let done = c.steps.word + c.args.image.now.limit - c.steps.last in
    let few : c.args.image.now.code / 4 < 2 ^ 28 = omega (arith, c.program-program.ensures.limits.code_most, c.program-program.ensures.limits.size_most) in
    let to : (c.steps.word + c.in-By.by) % 2 ^ 64 < c.args.image.now.code / 4 = omega (arith, c.if-to-words.false, c.code.ensures.code) in
    let whole : is_whole c.in-By.by ≡ true = whole_in_code c.steps.word c.in-By.by (c.args.image.now.code / 4) (omega (arith, c.steps.invariant.in_code)) few c.in-By.ensures.lands to in
    let same : (c.steps.word + c.in-By.by) % 2 ^ 30 ≡ (c.steps.word + c.in-By.by) % 2 ^ 64 = same_word (c.steps.word + c.in-By.by) (c.args.image.now.code / 4) few to in
    let it = jumped_by c.args.image.now c.args.is_near c.steps.x.x c.execute.new.x.x c.steps.word c.steps.last c.in-By.by c.steps.bytes c.execute.new.bytes c.index-program-word.result c.execute.new.at stands
    (c.in-By.ensures.leads done) whole in
    rw (c.left-then-last-words.ensures, c.last_after-last.ensures) (still_right c.args.image.now (g.N.Notes.right c.args.image.now c.steps.notes) _ _ _ _ (c.others_need_no_note.ensures c.args.image.now c.steps.notes) (rw same at it.3) (c.in-By.ensures.leads done).1 c.steps.invariant.right)

pub returns-then-to-words-2-clause-right : goal.returns-then-to-words-2-clause-right
returns-then-to-words-2-clause-right g c =
    let stands = stands_at c.args.image.now c.program-program.result.now c.args.is_near c.steps.word c.steps.last c.index-program-word.result c.program-program.ensures.limits c.program-program.ensures.program
    c.steps.invariant.in_code c.steps.invariant.before_last c.steps.invariant.within c.steps.invariant.far c.else-is_near.either
    (λ inside. slice_get_read c.program-program.result.now _ c.steps.word c.index-program-word.result refl inside c.index-program-word.is) in
    let done = c.steps.word + c.args.image.now.limit - c.steps.last in
    let goes = c.in-To.ensures.leads done in
    let it = jumped c.args.image.now c.args.is_near c.steps.x.x c.execute.new.x.x c.steps.word c.steps.last c.in-To.to c.steps.bytes c.execute.new.bytes c.index-program-word.result stands goes.0 goes.1 in
    rw (c.left-then-to-words-2.ensures, c.last_at-last.ensures) (still_right c.args.image.now (g.N.Notes.right c.args.image.now c.steps.notes) _ _ _ _ (c.others_need_no_note.ensures c.args.image.now c.steps.notes) it.3 goes.1 c.steps.invariant.right)

pub returns-then-last-words-2-clause-right : goal.returns-then-last-words-2-clause-right
returns-then-last-words-2-clause-right g c =
    let stands = stands_at c.args.image.now c.program-program.result.now c.args.is_near c.steps.word c.steps.last c.index-program-word.result c.program-program.ensures.limits c.program-program.ensures.program
    c.steps.invariant.in_code c.steps.invariant.before_last c.steps.invariant.within c.steps.invariant.far c.else-is_near.either
    (λ inside. slice_get_read c.program-program.result.now _ c.steps.word c.index-program-word.result refl inside c.index-program-word.is) in
    let done = c.steps.word + c.args.image.now.limit - c.steps.last in
    let goes = c.in-To.ensures.leads done in
    let it = jumped c.args.image.now c.args.is_near c.steps.x.x c.execute.new.x.x c.steps.word c.steps.last c.in-To.to c.steps.bytes c.execute.new.bytes c.index-program-word.result stands goes.0 goes.1 in
    rw (c.left-then-last-words-2.ensures, c.last_at-last.ensures) (still_right c.args.image.now (g.N.Notes.right c.args.image.now c.steps.notes) _ _ _ _ (c.others_need_no_note.ensures c.args.image.now c.steps.notes) it.3 goes.1 c.steps.invariant.right)

pub returns-in-Fault-clause-right : goal.returns-in-Fault-clause-right
returns-in-Fault-clause-right g c =
    let stands = stands_at c.args.image.now c.program-program.result.now c.args.is_near c.steps.word c.steps.last c.index-program-word.result c.program-program.ensures.limits c.program-program.ensures.program
    c.steps.invariant.in_code c.steps.invariant.before_last c.steps.invariant.within c.steps.invariant.far c.else-is_near.either
    (λ inside. slice_get_read c.program-program.result.now _ c.steps.word c.index-program-word.result refl inside c.index-program-word.is) in
    let done = c.steps.word + c.args.image.now.limit - c.steps.last in
    let goes = c.in-Fault.ensures.leads done in
    rw (c.left-in-Fault.ensures, goes.0, goes.1) c.steps.invariant.right

pub returns-in-Access-clause-right : goal.returns-in-Access-clause-right
returns-in-Access-clause-right g c =
    let stands = stands_at c.args.image.now c.program-program.result.now c.args.is_near c.steps.word c.steps.last c.index-program-word.result c.program-program.ensures.limits c.program-program.ensures.program
    c.steps.invariant.in_code c.steps.invariant.before_last c.steps.invariant.within c.steps.invariant.far c.else-is_near.either
    (λ inside. slice_get_read c.program-program.result.now _ c.steps.word c.index-program-word.result refl inside c.index-program-word.is) in
    let done = c.steps.word + c.args.image.now.limit - c.steps.last in
    let goes = c.in-Access.ensures.leads done in
    rw (c.left-in-Access.ensures, goes.0, goes.1) c.steps.invariant.right

pub load-requires : goal.load-requires
load-requires g c =
    let stands = stands_at c.args.image.now c.program-program.result.now c.args.is_near c.steps.word c.steps.last c.index-program-word.result c.program-program.ensures.limits c.program-program.ensures.program
    c.steps.invariant.in_code c.steps.invariant.before_last c.steps.invariant.within c.steps.invariant.far c.else-is_near.either
    (λ inside. slice_get_read c.program-program.result.now _ c.steps.word c.index-program-word.result refl inside c.index-program-word.is) in
    let done = c.steps.word + c.args.image.now.limit - c.steps.last in
    let it = loaded_on c.args.image.now c.args.is_near c.steps.x.x c.execute.new.x.x c.steps.word c.steps.last c.in-Loaded.addr c.in-Loaded.width c.steps.bytes c.execute.new.bytes c.index-program-word.result c.execute.new.at stands
    (c.in-Loaded.ensures.leads done) in
    let made = it.3 in
    (hart_at c.args.image.now c.steps.x.x (record { word = c.steps.word; last = c.steps.last }), c.steps.bytes, made.signed, made.rd, record { stops = made.stops; pc_is = sym c.pc.ensures; done_is = sym c.done.ensures }, c.steps.invariant.right)

pub steps-smaller-in-Loaded : goal.steps-smaller-in-Loaded
steps-smaller-in-Loaded g c =
    let stands = stands_at c.args.image.now c.program-program.result.now c.args.is_near c.steps.word c.steps.last c.index-program-word.result c.program-program.ensures.limits c.program-program.ensures.program
    c.steps.invariant.in_code c.steps.invariant.before_last c.steps.invariant.within c.steps.invariant.far c.else-is_near.either
    (λ inside. slice_get_read c.program-program.result.now _ c.steps.word c.index-program-word.result refl inside c.index-program-word.is) in
    let done = c.steps.word + c.args.image.now.limit - c.steps.last in
    let it = loaded_on c.args.image.now c.args.is_near c.steps.x.x c.execute.new.x.x c.steps.word c.steps.last c.in-Loaded.addr c.in-Loaded.width c.steps.bytes c.execute.new.bytes c.index-program-word.result c.execute.new.at stands
    (c.in-Loaded.ensures.leads done) in
    let made = it.3 in
    omega (arith, it.1)

pub steps-preserved-in-Loaded : goal.steps-preserved-in-Loaded
steps-preserved-in-Loaded g c =
    let stands = stands_at c.args.image.now c.program-program.result.now c.args.is_near c.steps.word c.steps.last c.index-program-word.result c.program-program.ensures.limits c.program-program.ensures.program
    c.steps.invariant.in_code c.steps.invariant.before_last c.steps.invariant.within c.steps.invariant.far c.else-is_near.either
    (λ inside. slice_get_read c.program-program.result.now _ c.steps.word c.index-program-word.result refl inside c.index-program-word.is) in
    let done = c.steps.word + c.args.image.now.limit - c.steps.last in
    let it = loaded_on c.args.image.now c.args.is_near c.steps.x.x c.execute.new.x.x c.steps.word c.steps.last c.in-Loaded.addr c.in-Loaded.width c.steps.bytes c.execute.new.bytes c.index-program-word.result c.execute.new.at stands
    (c.in-Loaded.ensures.leads done) in
    let made = it.3 in
    record {
      leads = leads_further c.args.image.now _ _ _ _ _ _ c.steps.auto.bytes c.steps.invariant.leads it.2;
      in_code = omega (arith, it.0, c.program-program.ensures.limits.code_words);
      before_last = omega (arith, it.1);
      within = omega (arith, c.steps.invariant.within);
      far = c.steps.invariant.far;
      fixed = c.load.ensures.fixed ∙ c.steps.invariant.fixed;
      right = rw made.same (subst (λ k. g.N.Notes.right c.args.image.now c.load.new.self k c.steps.bytes) made.hart_is
          (c.load.ensures.right (hart_at c.args.image.now c.steps.x.x (record { word = c.steps.word; last = c.steps.last })) c.steps.bytes made.signed made.rd
          (record { stops = made.stops; pc_is = sym c.pc.ensures; done_is = sym c.done.ensures }) c.steps.invariant.right));
    }

pub store-requires : goal.store-requires
store-requires g c =
    let stands = stands_at c.args.image.now c.program-program.result.now c.args.is_near c.steps.word c.steps.last c.index-program-word.result c.program-program.ensures.limits c.program-program.ensures.program
    c.steps.invariant.in_code c.steps.invariant.before_last c.steps.invariant.within c.steps.invariant.far c.else-is_near.either
    (λ inside. slice_get_read c.program-program.result.now _ c.steps.word c.index-program-word.result refl inside c.index-program-word.is) in
    let done = c.steps.word + c.args.image.now.limit - c.steps.last in
    let it = stored_on c.args.image.now c.args.is_near c.steps.x.x c.execute.new.x.x c.steps.word c.steps.last c.in-Stored.addr c.in-Stored.width c.steps.bytes c.execute.new.bytes c.index-program-word.result c.execute.new.at stands
    (c.in-Stored.ensures.leads done) in
    let made = it.3 in
    (hart_at c.args.image.now c.steps.x.x (record { word = c.steps.word; last = c.steps.last }), c.steps.bytes, made.value, record { stops = made.stops; pc_is = sym c.pc-in-Stored.ensures; done_is = sym c.done-in-Stored.ensures }, c.steps.invariant.right)

pub steps-smaller-in-Stored : goal.steps-smaller-in-Stored
steps-smaller-in-Stored g c =
    let stands = stands_at c.args.image.now c.program-program.result.now c.args.is_near c.steps.word c.steps.last c.index-program-word.result c.program-program.ensures.limits c.program-program.ensures.program
    c.steps.invariant.in_code c.steps.invariant.before_last c.steps.invariant.within c.steps.invariant.far c.else-is_near.either
    (λ inside. slice_get_read c.program-program.result.now _ c.steps.word c.index-program-word.result refl inside c.index-program-word.is) in
    let done = c.steps.word + c.args.image.now.limit - c.steps.last in
    let it = stored_on c.args.image.now c.args.is_near c.steps.x.x c.execute.new.x.x c.steps.word c.steps.last c.in-Stored.addr c.in-Stored.width c.steps.bytes c.execute.new.bytes c.index-program-word.result c.execute.new.at stands
    (c.in-Stored.ensures.leads done) in
    let made = it.3 in
    omega (arith, it.1)

pub steps-preserved-in-Stored : goal.steps-preserved-in-Stored
steps-preserved-in-Stored g c =
    let stands = stands_at c.args.image.now c.program-program.result.now c.args.is_near c.steps.word c.steps.last c.index-program-word.result c.program-program.ensures.limits c.program-program.ensures.program
    c.steps.invariant.in_code c.steps.invariant.before_last c.steps.invariant.within c.steps.invariant.far c.else-is_near.either
    (λ inside. slice_get_read c.program-program.result.now _ c.steps.word c.index-program-word.result refl inside c.index-program-word.is) in
    let done = c.steps.word + c.args.image.now.limit - c.steps.last in
    let it = stored_on c.args.image.now c.args.is_near c.steps.x.x c.execute.new.x.x c.steps.word c.steps.last c.in-Stored.addr c.in-Stored.width c.steps.bytes c.execute.new.bytes c.index-program-word.result c.execute.new.at stands
    (c.in-Stored.ensures.leads done) in
    let made = it.3 in
    record {
      leads = leads_further c.args.image.now _ _ _ _ _ _ c.steps.auto.bytes c.steps.invariant.leads it.2;
      in_code = omega (arith, it.0, c.program-program.ensures.limits.code_words);
      before_last = omega (arith, it.1);
      within = omega (arith, c.steps.invariant.within);
      far = c.steps.invariant.far;
      fixed = c.store.ensures.fixed ∙ c.steps.invariant.fixed;
      right = rw (← made.memory_is) (subst (λ k. g.N.Notes.right c.args.image.now c.store.new.self k (with_number c.steps.bytes c.in-Stored.addr c.in-Stored.width made.value)) made.hart_is
          (c.store.ensures.right (hart_at c.args.image.now c.steps.x.x (record { word = c.steps.word; last = c.steps.last })) c.steps.bytes made.value
          (record { stops = made.stops; pc_is = sym c.pc-in-Stored.ensures; done_is = sym c.done-in-Stored.ensures }) c.steps.invariant.right));
    }

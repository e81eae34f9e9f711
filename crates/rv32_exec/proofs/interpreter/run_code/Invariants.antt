use Rattle.std.proofs.Common.{◌≡◌, ◌-◌, ◌+◌, ◌*◌, ◌≤◌, false}
use Rattle.rv32_exec.specs.Interpreter.{LeadsTo, hart_at}
use Rattle.rv32_exec.proofs.interpreter.run_code.Given as goal

-- what has come so far leads from the start to here
abbrev pub invariant-steps : goal.invariant-steps
invariant-steps g l = record {
  leads : LeadsTo l.image (hart_at l.image l.fn.x.x l.fn.from) l.fn.bytes (hart_at l.image l.x.x (record { word = l.word; last = l.last })) l.bytes;
  in_code : 4 * l.word ≤ l.image.code;
  before_last : l.word ≤ l.last;
  within : l.last ≤ l.word + l.image.limit;
  far : l.is_near ≡ false → l.image.code ≤ 4 * l.last;
  fixed : g.N.Notes.fixed l.notes ≡ g.N.Notes.fixed l.fn.notes;
  right : g.N.Notes.right l.image l.notes (hart_at l.image l.x.x (record { word = l.word; last = l.last })) l.bytes;
}

abbrev pub decreases-steps : goal.decreases-steps
decreases-steps g l = l.last - l.word

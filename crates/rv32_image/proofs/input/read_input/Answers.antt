use Rattle.std.proofs.Common.{◌≡◌, ◌≤◌, ◌+◌, ◌-◌, ◌++◌, vec_len, length, take, min, arith, length-append}
use Rattle.std.proofs.lemmas.List.{length-take}
use Rattle.rv32_image.proofs.Inputs.{consumes_append}
use Rattle.rv32_image.proofs.input.read_input.Goals as goal

pub returns-then-is_err-clause-taken : goal.returns-then-is_err-clause-taken
returns-then-is_err-clause-taken g c =
    let text = c.loop-chunk.text.items in
    let chunk = c.read.new.buf in
    let both : length (text ++ take c.in-Ok.count chunk) ≡ length text + length (take c.in-Ok.count chunk) = length-append text (take c.in-Ok.count chunk) in
    let part : length (take c.in-Ok.count chunk) ≡ min c.in-Ok.count (length chunk) = length-take c.in-Ok.count chunk in
    let auto = c.read.auto.buf in
    let bound = c.in-Ok.ensures.bound in
    let given : length (take c.min-room.result c.loop-chunk.chunk) ≡ min c.min-room.result (length c.loop-chunk.chunk) = length-take c.min-room.result c.loop-chunk.chunk in
    let long : vec_len c.loop-chunk.text ≡ length text = c.loop-chunk.text.ok.0 in
    let least : c.min-room.result ≡ min 4096 (c.args.limit + 1 - c.len-in-loop-chunk.result) = c.min-room.ensures in
    let here : c.len-in-loop-chunk.result ≡ vec_len c.loop-chunk.text = c.len-in-loop-chunk.ensures in
    let few : vec_len c.loop-chunk.text ≤ c.args.limit + 1 = c.loop-chunk.invariant.few in
    let room : c.in-Ok.count + length text ≤ c.args.limit + 1 = omega (arith, given, auto, bound.0, long, least, here, few) in (
      text ++ take c.in-Ok.count chunk,
      consumes_append _ _ _ text (take c.in-Ok.count chunk) c.loop-chunk.invariant.taken c.in-Ok.ensures.bytes.0,
      omega (arith, both, part, room),
    )

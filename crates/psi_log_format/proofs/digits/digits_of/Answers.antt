-- Answers in the proof of `digits_of`.
use Rattle.std.proofs.Common.{◌≤◌, length, arith}
use Rattle.std.specs.Fmt.{decimal}
use Rattle.std.proofs.lemmas.Fmt.{length-decimal-le}
use Rattle.psi_log_format.proofs.digits.digits_of.Goals as goal

pub put-end-requires : goal.put-end-requires
put-end-requires c =
    let short : length (decimal c.args.n) ≤ 3 = length-decimal-le 3 c.args.n (omega arith) (omega arith) (omega arith) in
    rw (c.as_bytes-text.ensures.value, c.format.ensures.text) omega arith

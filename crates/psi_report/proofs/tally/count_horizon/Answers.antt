-- The place of a horizon is its exponent.
use Rattle.std.proofs.Common.{◌<◌, ◌^◌, refl, rules}
use Rattle.psi_report.proofs.CountLemmas.{exponent_is}
use Rattle.psi_report.proofs.tally.count_horizon.Goals as goal

pub returns : goal.returns
returns c = λ exponent is.
    let fits : c.args.horizon < 2 ^ 32 = search rules in
    let place = exponent_is c.args.horizon exponent fits is in
    rw place refl

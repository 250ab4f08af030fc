-- Answers in the proof of `keep`.
use Rattle.std.proofs.Common.{◌^◌, refl, sym, arith}
use Rattle.psi_horizon.proofs.AreasLemmas.{keeps-as}
use Rattle.psi_horizon.proofs.runs.keep.Goals as goal

pub extend_to-requires : goal.extend_to-requires
extend_to-requires g c = record { kept = keeps-as c.requires.kept c.requires.most c.wheel.ensures refl }

pub returns-clause-kept : goal.returns-clause-kept
returns-clause-kept g c =
    let most = 2 ^ c.args.system.now.limit in
    keeps-as (c.extend_to.ensures.kept most (keeps-as c.requires.kept (omega arith) c.wheel.ensures refl)) (omega arith) (sym c.wheel.ensures) c.extend_to.ensures.words

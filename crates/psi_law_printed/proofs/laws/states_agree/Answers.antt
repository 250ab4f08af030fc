-- The laws in the proof of `states_agree`.
use Rattle.psi_law_printed.proofs.AgreementLemmas.{states-agree, values-agree_with, horizons-agree}
use Rattle.psi_law_printed.proofs.laws.states_agree.Goals as goal

pub returns : goal.returns
returns c = record { states = states-agree; values = values-agree_with; horizons = horizons-agree }

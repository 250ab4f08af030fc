-- Answers in the proof of `law_of_chains`.
use Rattle.psi_law.proofs.ExistenceLemmas.{elimination-stationary}
use Rattle.psi_law.proofs.chain.law_of_chains.Goals as goal

pub returns : goal.returns
returns c = record { stationary = elimination-stationary }

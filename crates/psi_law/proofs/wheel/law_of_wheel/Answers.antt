-- Answers in the proof of `law_of_wheel`.
use Rattle.psi_law.proofs.WheelLemmas.{wheel-exact}
use Rattle.psi_law.proofs.WordsLemmas.{seed_word-small}
use Rattle.psi_law.proofs.wheel.law_of_wheel.Goals as goal

pub returns : goal.returns
returns c = record { exact = wheel-exact c.args.wheel.now c.wheels_have_rates.ensures.valid; drawn = seed_word-small }

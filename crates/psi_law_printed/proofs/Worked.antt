-- The network of `first.toml`, worked out by the checker for seed 0 and stream 0. That its sample is met at 4 and its coupling at 3, both in the state 1, is what the plain program
-- of oracle/plain.py says too.
use Rattle.std.specs.Prelude.{◌≡◌, ℕ, List, [], ◌∷◌, map, codes, refl}
use Rattle.std.proofs.Common.{inl, inr}
use Rattle.rand_core.specs.Steps.{u32_at}
use Rattle.psi_state.specs.declared.Outcome.TheVariants.{Met}
use Rattle.psi_past.specs.ChaCha20.{quarter_round, column_round, diagonal_round, double_rounds, chacha20_block}
use Rattle.psi_past.specs.SeedWord.{seed_word}
use Rattle.psi_route.specs.declared.Full.TheVariants.{Lost}
use Rattle.psi_kinds.specs.declared.kinds.Kind.TheVariants.{Arrival, Service}
use Rattle.psi_kinds.specs.Kinds.{do_kind}
use Rattle.psi_rate.specs.Rates.{least_power, event_of}
use Rattle.psi_rate.specs.Doubling.{first_answer}
use Rattle.psi_rate.specs.Least.{least_answer}
use Rattle.psi_rate.specs.Outcomes.{outcome_within}
use Rattle.psi_region.specs.Region.{step}
use Rattle.psi_couple.specs.declared.answers.Coupled.TheVariants.{At}
use Rattle.psi_couple.specs.Coupling.{coupled_within}
use Rattle.psi_net_model.specs.Network.{Network}
use Rattle.psi_net_model.specs.Valid.{IsNetwork}
use Rattle.psi_reply.specs.Sample.{functions_by_time, sampled}
use Rattle.psi_reply.specs.Couple.{endings, coupling}
use Rattle.psi_law.specs.Networks.{network_sample}
use Rattle.psi_law_printed.specs.Printed.{pasts_of}
use Rattle.psi_law_printed.specs.Agreement.{IsLogged}
use Rattle.psi_law_printed.proofs.AgreementLemmas.{given-one}

-- one queue with room for two, which customers join at the rate 1 and leave at the rate 2
abbrev first : Network
first = record {
  queues = record { name = codes "a"; capacity = 2; servers = 1 } ∷ [];
  events = record { name = codes "in"; server = 1; rate = 1; kind = Arrival (0 ∷ []) }
      ∷ record { name = codes "out"; server = 1; rate = 2; kind = Service (record { queue = 0; k = 1 }) [] Lost } ∷ [];
  limit = 18;
  split = 256;
  rewards = [];
}

first-sampled : sampled first 0 0 ≡ Met 4 (1 ∷ [])
unfolding u32_at quarter_round column_round diagonal_round double_rounds chacha20_block seed_word functions_by_time sampled do_kind event_of least_power outcome_within first_answer step
first-sampled = refl

first-coupled : coupling first 0 0 ≡ At 3 (1 ∷ [])
unfolding u32_at quarter_round column_round diagonal_round double_rounds chacha20_block seed_word functions_by_time endings coupling do_kind event_of least_power coupled_within least_answer step
first-coupled = refl

-- the report of streams 0 and 1 is that of the two pasts; the second sample is met at 4 too, in the state 0
first-reported : map (network_sample first) (pasts_of 0 0 2) ≡ Met 4 (1 ∷ []) ∷ Met 4 (0 ∷ []) ∷ []
unfolding u32_at quarter_round column_round diagonal_round double_rounds chacha20_block seed_word do_kind event_of least_power outcome_within first_answer step
first-reported = refl

-- so an accepted log of this seed and stream, whoever wrote it, has the state 1
first-logged : IsNetwork first → (state : List ℕ) → IsLogged first 0 0 state → state ≡ 1 ∷ []
first-logged kept state logged = given-one first kept 0 0 state (1 ∷ []) (inr (inr (inr logged))) (inl (4, first-sampled))

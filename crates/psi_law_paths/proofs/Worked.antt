-- The definitions on a small chain, worked out by hand and computed by the checker. Its modulus is 4, so lists are counted of the words below 4.
use Rattle.std.specs.Prelude.{◌≡◌, ℕ, List, [], ◌∷◌, map, slice_index, refl}
use Rattle.psi_state.specs.declared.Outcome.{Outcome}
use Rattle.psi_rate.specs.Rates.{event_of, least_power}
use Rattle.psi_rate.specs.Composition.{function_at}
use Rattle.psi_rate.specs.Doubling.{first_answer}
use Rattle.psi_rate.specs.Outcomes.{meeting_from, outcome_within}
use Rattle.psi_law.specs.Counting.{Words, sum_below, sum_pasts, count_pasts}
use Rattle.psi_law.specs.Chains.{Chain, whole, weighted, flow_to}
use Rattle.psi_law.specs.Samples.{is_met_in, is_unmet}
use Rattle.psi_law_paths.specs.Paths.{sample_at, path_sum}

-- one queue with room for one customer, who comes at the rate 1 and leaves at the rate 2: of the words below 4 one brings a customer, two serve one, and one is idle
abbrev small : Chain
small = record { functions = (λ x. 1 ∷ []) ∷ (λ x. 0 ∷ []) ∷ []; rates = 1 ∷ 2 ∷ []; states = (0 ∷ []) ∷ (1 ∷ []) ∷ [] }

-- its samples of two words
abbrev sampled : Words → Outcome
sampled past = outcome_within (meeting_from (function_at small.functions small.rates past) small.states) 1

-- the states weigh 2 and 1: at each of them the events lead to it and away 3 times its weight
abbrev weight : List ℕ → ℕ
weight x = slice_index (2 ∷ 1 ∷ []) (slice_index x 0)

balanced : map (flow_to small weight) small.states ≡ 6 ∷ 3 ∷ []
unfolding sum_below
balanced = refl

-- how many lists of two words of the sample and one of the path give a state at time k, and how many give none
abbrev tally : ℕ → List ℕ
tally k = count_pasts 4 3 (λ words. is_unmet (sample_at small sampled 2 k words))
    ∷ map (λ s. count_pasts 4 3 (λ words. is_met_in s (sample_at small sampled 2 k words))) small.states

-- of the 16 pasts, 10 give no customer, 5 give one, and 1 is idle; each with 4 words of time 1
at-zero : tally 0 ≡ 4 ∷ 40 ∷ 20 ∷ []
unfolding sum_below event_of least_power outcome_within first_answer
at-zero = refl

-- at time 1 there is a customer where one comes (15), and where time 1 is idle and there was one (5); there is none where one is served (30), and where time 1 is idle and there was none (10)
at-one : tally 1 ≡ 4 ∷ 40 ∷ 20 ∷ []
unfolding sum_below event_of least_power outcome_within first_answer
at-one = refl

-- the customers of both times are 40, which is the mean of 1 part of 3 up to the lists that give no state: 3 * 40 is at most 2 * 1 * 64, and this at most 3 * (40 + 2 * 4)
both-times : map (λ other. sum_pasts 4 3 (path_sum small sampled 2 other (λ x. slice_index x 0) 1)) (0 ∷ 1 ∷ []) ≡ 40 ∷ 48 ∷ []
unfolding sum_below event_of least_power outcome_within first_answer
both-times = refl

mean-weighed : (weighted small weight (λ x. slice_index x 0) ≡ 1) × (whole small weight ≡ 3)
mean-weighed = (refl, refl)

-- after an idle time, the word of time 1 leads on from the sample: place 0 holds the newest word of the past, place 2 the word of time 1
abbrev listed : List ℕ → Words
listed words place = slice_index words place

order-matters : map (λ words. path_sum small sampled 2 0 (λ x. slice_index x 0) 1 (listed words)) ((3 ∷ 0 ∷ 1 ∷ []) ∷ (1 ∷ 3 ∷ 0 ∷ []) ∷ (0 ∷ 1 ∷ 3 ∷ []) ∷ []) ≡ 1 ∷ 1 ∷ 2 ∷ []
unfolding event_of least_power outcome_within first_answer
order-matters = refl

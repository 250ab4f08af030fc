-- All statements of a chain, its samples and its runs together.
use Rattle.std.specs.Prelude.{ℕ, ◌^◌, List, Option}
use Rattle.psi_state.specs.declared.Outcome.{Outcome}
use Rattle.psi_law.specs.Counting.{Words}
use Rattle.psi_rate.specs.Composition.{Functions, function_at}
use Rattle.psi_rate.specs.Outcomes.{outcome_within}
use Rattle.psi_law.specs.Chains.{Chain, IsChain, end_of}
use Rattle.psi_law.specs.Elimination.{stationary_weight}
use Rattle.psi_law.specs.Samples.{Reaches, HasStationaryLaw}
use Rattle.psi_law.specs.Statements.{BalanceStays, BalanceIsLaw, ApartFalls, MixesAsCoupled, BalanceIsOne, BalanceIsMean, BalanceIsSignedMean, UncoalescedFalls, UnmetIsUncoalesced, LimitSquares, LooksAtFirst}
use Rattle.psi_law.proofs.BalanceLemmas.{balanced-stationary}
use Rattle.psi_law.proofs.LawLemmas.{runs-steady, law-is, mean-is}
use Rattle.psi_law.proofs.CoalescenceLemmas.{AreRuns, outcome-reaches, outcome-looks, uncoalesced-falls, unmet-uncoalesced, limit-squares}
use Rattle.psi_law.proofs.FallsLemmas.{apart-falls}
use Rattle.psi_law.proofs.MixingLemmas.{chain-mixes}
use Rattle.psi_law.proofs.OnlyLemmas.{balance-one}
use Rattle.psi_law.proofs.SignedLemmas.{signed-mean}
use Rattle.psi_law.proofs.ExistenceLemmas.{elimination-stationary}

pub record IsLawful (chain : Chain) (sample : Words → Outcome) (n : ℕ) : Type 0 where
  pub is_chain : IsChain chain
  pub reaches : Reaches chain sample n
  pub balance : BalanceStays chain
  pub law : BalanceIsLaw chain sample n
  pub stationary : HasStationaryLaw sample n chain
  pub falls : ApartFalls chain
  pub mixing : MixesAsCoupled chain
  pub one : BalanceIsOne chain
  pub mean : BalanceIsMean chain sample n
  pub signed_mean : BalanceIsSignedMean chain sample n
  pub words : LooksAtFirst sample n

-- they hold of a chain and of samples that it reaches by the first n words
pub lawful : (chain : Chain) (sample : Words → Outcome) (n : ℕ) → IsChain chain → Reaches chain sample n → LooksAtFirst sample n → IsLawful chain sample n
lawful chain sample n is reaches looks =
    let end : Words → List ℕ → List ℕ = λ past x. end_of chain past n x in
    let found = elimination-stationary chain is.finite in
    let law : BalanceIsLaw chain sample n = λ weight balanced. law-is chain weight n end (runs-steady chain weight n is balanced) sample reaches.each is in
    record {
      is_chain = is;
      reaches = reaches;
      balance = λ weight balanced. balanced-stationary chain weight is balanced;
      law = law;
      stationary = record { weight = stationary_weight chain; distribution = found; law = law (stationary_weight chain) found.balanced };
      falls = apart-falls chain is.finite;
      mixing = chain-mixes chain is;
      one = balance-one chain is;
      mean = λ weight value low high balanced above below. mean-is chain weight n end (runs-steady chain weight n is balanced) sample reaches.each value low high above below;
      signed_mean = λ weight value low high balanced above below. signed-mean chain weight n end (runs-steady chain weight n is balanced) sample reaches.each value low high above below;
      words = looks;
    }

-- all that is proved of a chain, and of the samples of its runs with a limit
pub record AreLawful (chain : Chain) (run : Functions → ℕ → Option (List ℕ)) (limit : ℕ) : Type 0 where
  pub laws : IsLawful chain (λ past. outcome_within (run (function_at chain.functions chain.rates past)) limit) (2 ^ limit)
  pub runs : UncoalescedFalls (λ past. run (function_at chain.functions chain.rates past))
  pub unmet : UnmetIsUncoalesced (λ past. run (function_at chain.functions chain.rates past))
  pub square : LimitSquares (λ past. run (function_at chain.functions chain.rates past))

pub runs-lawful : (chain : Chain) (run : Functions → ℕ → Option (List ℕ)) (limit : ℕ) → IsChain chain → AreRuns chain run → AreLawful chain run limit
runs-lawful chain run limit is are = record {
  laws = lawful chain (λ past. outcome_within (run (function_at chain.functions chain.rates past)) limit) (2 ^ limit) is (outcome-reaches chain run are limit) (outcome-looks chain run are limit);
  runs = uncoalesced-falls chain run are;
  unmet = unmet-uncoalesced chain run are;
  square = limit-squares chain run are;
}

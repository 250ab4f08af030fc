-- The lemmas of this crate.
pub mod SumsLemmas
pub mod WheelLemmas
pub mod WordsLemmas
pub mod PowersLemmas
pub mod ChainLemmas
pub mod BalanceLemmas
pub mod LawLemmas
pub mod JoinedLemmas
pub mod FallsLemmas
pub mod MixingLemmas
pub mod CoalescenceLemmas
pub mod OnlyLemmas
pub mod EliminationLemmas
pub mod ExistenceLemmas
pub mod SignedLemmas
pub mod CouplingLemmas
pub mod ValueLemmas
pub mod LawfulLemmas
pub mod LooksLemmas
pub mod NetworkLemmas
pub mod ClosedLemmas
pub mod NetworkAnswerLemmas
pub mod QueueingLemmas
mod Worked

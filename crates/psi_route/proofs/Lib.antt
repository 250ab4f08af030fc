-- The lemmas of this crate.
pub mod AcceptedLemmas
pub mod ActingLemmas
pub mod TablesLemmas
mod SettingLemmas
mod WitnessesLemmas
mod TightnessLemmas
mod OfferingLemmas
mod JudgedLemmas
mod ChoosingLemmas
mod SearchingLemmas
mod Worked
mod FallingLemmas
mod OnePassLemmas
mod LeavingLemmas
mod ByTablesLemmas
mod UpsetLemmas
mod MonotoneLemmas
mod PlainLemmas
pub mod PiecesLemmas
pub mod TwoTargetsLemmas

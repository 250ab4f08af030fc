-- The lemmas of this crate.
mod FallsLemmas
mod JoiningLemmas
mod RisingLemmas
mod WidthsLemmas

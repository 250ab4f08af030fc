-- The lemmas of this crate.
mod WholeLemmas
mod ExtentsLemmas
mod ListingLemmas
mod AddingLemmas
mod RisingLemmas
mod FittingLemmas
mod AcceptedLemmas
mod Worked

-- The lemmas of this crate.
mod OrderLemmas
mod NumberLemmas
mod DigitLemmas
mod NameLemmas
mod LineLemmas
mod PlainLemmas
mod RowReadsLemmas
mod ReadLemmas
pub mod SmallLemmas
mod CountLemmas
mod FigureLemmas
mod MergeLemmas
mod HorizonCountsLemmas
mod FiguresJoinedLemmas
pub mod MergeLawLemmas
mod JudgeLemmas
mod RightLemmas
mod GroupLemmas
pub mod SumNamesLemmas
mod WalkLemmas
mod AllowLemmas
mod WorthLemmas
mod PowerLemmas
pub mod SampleLemmas
mod FigureLawLemmas
mod VaryingLemmas
mod ReachLemmas
mod ColumnLemmas
mod BetweenLemmas
mod HorizonReachLemmas
mod FigureReachLemmas
pub mod SoundLemmas
pub mod ReachedLemmas
mod FieldLemmas
mod WrongLinesLemmas
pub mod WrongLemmas
pub mod NetworkLemmas
pub mod StandLemmas
pub mod ShortLemmas
pub mod ShownLemmas
pub mod FittingLemmas
pub mod WorthReachLemmas

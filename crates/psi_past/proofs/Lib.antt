-- The lemmas of this crate.
pub mod BlockVectorsLemmas
pub mod KeyStreamLemmas
pub mod DrawnLemmas

-- What types keep of their private fields, how they are seen, and laws that clauses rest on.
pub mod RankTableKept
pub mod ImagesKept
pub mod ArraysKept

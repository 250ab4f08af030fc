-- The definitions of this crate, and the laws that clauses rest on.
pub mod Counts
pub mod MemoryShelf
pub mod MemorySink
pub mod Shelf
pub mod Sink
pub mod StdSink

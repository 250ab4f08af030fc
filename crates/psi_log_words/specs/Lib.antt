-- The definitions of this crate.
pub mod Refusal
pub mod Words
pub mod Regions
pub mod FormsViews
pub mod ChangesViews

-- What the laws of this crate speak of.
pub mod Sum
pub mod Turned

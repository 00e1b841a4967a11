-- The laws of words turned about, for other crates as Rattle.turned.proofs.NAME.
pub mod Blocks
pub mod Tallies
pub mod Named
pub mod Words
pub mod Shape
pub mod Held
pub mod About
pub mod Allowed
pub mod Fit
pub mod Again
pub mod Values

-- The laws behind the functions of this crate. Each file says what it is for.
pub mod Places
pub mod Proposals
pub mod Differences
pub mod Losses
pub mod Largest
pub mod Lowest
pub mod Scattered
pub mod Walks
pub mod Directions
pub mod Residuals
pub mod Totalled
pub mod Verdicts
pub mod Packed

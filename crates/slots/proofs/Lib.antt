-- Laws that several proofs cite.
pub mod Stored
pub mod Sizes
pub mod Lowest
pub mod Placed
pub mod Steps

-- Laws that several proofs cite.
pub mod Digits
pub mod Stores
pub mod Wholes
pub mod Back

-- Laws that several proofs cite.
pub mod Made
pub mod Importing
pub mod Rounds
pub mod Fit
pub mod OfList
pub mod Allows
pub mod Exactly
pub mod Own
pub mod Examples

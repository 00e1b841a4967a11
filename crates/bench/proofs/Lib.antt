-- Laws that several proofs cite.
pub mod Four
pub mod Endings
pub mod Small
pub mod Outcomes
pub mod Listed
pub mod Linked
pub mod Shelves

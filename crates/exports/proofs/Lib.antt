-- Laws that several proofs cite.
pub mod Texts
pub mod Handed
pub mod Returned
pub mod Examples

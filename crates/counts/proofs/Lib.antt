-- Laws that several proofs cite.
pub mod Below
pub mod Tests
pub mod Cleared

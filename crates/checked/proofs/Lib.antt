-- Laws that several proofs cite.
pub mod Values
pub mod Sound
pub mod Packs

-- Laws that several proofs cite.
pub mod Parts
pub mod Widths
pub mod Rates
pub mod Tables
pub mod Lines
pub mod Examples

-- Laws that several proofs cite.
pub mod Picked
pub mod Parts
pub mod Spans
pub mod Rows
pub mod Society
pub mod Copied
pub mod Answered
pub mod Judged
pub mod Sound
pub mod Packs
pub mod Presented

-- What the functions of this crate count on and how they fill a list; then the rules in their order, and what is promised.
pub mod Known
pub mod Filled
pub mod Band
pub mod Factoring
pub mod Grid
pub mod Squares
pub mod Held
pub mod Rounding
pub mod Proposal
pub mod Promises

-- Laws that other crates cite, as Rattle.whole.proofs.NAME. Each file says what it is for.
pub mod Ring
pub mod Solve
pub mod Order
pub mod Inequality
pub mod Magnitude
pub mod Sums
pub mod Parts
pub mod Rows
pub mod Turned
pub mod Grids
pub mod Fits
pub mod Tested
pub mod Examples

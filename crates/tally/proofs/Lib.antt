-- The laws behind the functions of this crate. Each file says what it is for.
pub mod Locals
pub mod Terms
pub mod Totals
pub mod Largest
pub mod Tallies

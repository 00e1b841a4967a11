-- The laws behind the functions of this crate. Each file says what it is for.
pub mod Turns
pub mod Passing

-- The laws behind the functions of this crate. Each file says what it is for.
pub mod Tests
pub mod Rows
pub mod Budget

-- How large a number can be.
pub mod Most

-- The laws behind the functions of this crate and its promises. Each file says what it is for.
pub mod Words
pub mod Solved
pub mod Searching
pub mod Answering
pub mod First
pub mod Cases
pub mod Refusals
pub mod Boxes
pub mod Worked

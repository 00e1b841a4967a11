-- The line, what a function that puts a part of it says, and what is promised. Read them in this order.
pub mod Line
pub mod Puts
pub mod Promises

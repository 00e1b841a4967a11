-- What is promised, and of what. Read them in this order.
pub mod Problem
pub mod Terms
pub mod Differences
pub mod Far
pub mod Promises

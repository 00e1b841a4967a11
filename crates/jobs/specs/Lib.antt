-- A job, its words, what is known of it once it was read, its packs, and what is promised. Read them in this order.
pub mod Job
pub mod Words
pub mod Allowed
pub mod Unique
pub mod Packs
pub mod Promises
pub mod Examples

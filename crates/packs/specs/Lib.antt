-- What reading and writing a pack comes to, which bytes are the pack of some words, and what is promised. Read them in this order.
pub mod Reading
pub mod Writing
pub mod Walking
pub mod PackOf
pub mod Promises

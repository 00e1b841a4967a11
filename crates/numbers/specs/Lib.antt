-- One number of a pack, the stored form of a signed one, and what is promised of both. Read them in this order.
pub mod Plain
pub mod Zigzag
pub mod Promises

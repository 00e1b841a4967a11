-- What the laws of this crate speak of. Read them in this order.
pub mod Words
pub mod About

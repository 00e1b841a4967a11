-- Document 02, W-201: a table as a list, out and back, and what is promised of it. Read them in this order.
pub mod Exports
pub mod Promises
pub mod Examples

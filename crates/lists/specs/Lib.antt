-- Document 02, W-201: lines and fields, what a list's lines hold, and what is promised of reading it. Read them in this order.
pub mod Cut
pub mod Lines
pub mod Promises
pub mod Examples

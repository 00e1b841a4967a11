-- Document 02, W-201: the job pack that a claims list makes, and what is promised of it. Read them in this order.
pub mod Imports
pub mod Promises
pub mod Examples

-- A number in decimal, what a function that puts bytes says, a number read from its digits, and what is promised. Read them in this order.
pub mod Decimal
pub mod Puts
pub mod Whole
pub mod Promises

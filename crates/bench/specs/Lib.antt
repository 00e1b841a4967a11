-- What a call over C returns and writes, and what each of the thirteen calls says. Read them in this order.
pub mod Answers
pub mod Calls

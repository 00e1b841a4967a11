-- What supplied a term, and the largest of terms. Then, for the contracts of functions inside a tally alone: what its steps come to, and what each function
-- counts on.
pub mod Supplied
pub mod Largest
pub mod Tally
pub mod Given

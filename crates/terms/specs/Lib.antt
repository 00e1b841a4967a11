-- The terms of the gap handed out. Then, for the contracts of functions inside the listing alone: the same by words, and what its steps come to.
pub mod Listing
pub mod Steps

-- Laws that several proofs cite.
pub mod Cuts
pub mod Tests
pub mod Walks
pub mod Whole
pub mod Exact
pub mod Listings
pub mod Faults
pub mod Joins
pub mod Near
pub mod Examples

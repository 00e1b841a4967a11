-- The laws behind the listing: its words, and how it ends.
pub mod Listings
pub mod Endings

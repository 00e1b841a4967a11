-- The numbers and places of refusals.
pub mod Refusals

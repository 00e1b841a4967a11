-- The leading row of a shelf; then what functions inside count on.
pub mod Counts
pub mod Given

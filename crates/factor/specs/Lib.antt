-- The steps of the house proposal's factor and solve, over any band.
pub mod Factor
pub mod Places
pub mod Solve

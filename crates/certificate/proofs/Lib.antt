-- The proofs of specs/Promises.antt, for other crates as Rattle.certificate.proofs.NAME.
pub mod Cell
pub mod Expansion
pub mod Certificate
pub mod Terms
pub mod Differences
pub mod Families
pub mod Far
pub mod Turned
pub mod Grids
pub mod Worked

-- The proposal after a pass and the answer; what is promised; the worked table. `Given` only serves contracts of functions inside the crate.
pub mod Proposal
pub mod Given
pub mod Promises
pub mod Worked

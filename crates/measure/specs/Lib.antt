-- The rules: loss, gap, its largest term and the check, in this order. Then, for the contracts of functions inside the check alone: what is read of two
-- packs, what the check's steps come to, the rules by words, and what each function counts on.
pub mod Loss
pub mod Gap
pub mod Largest
pub mod Check
pub mod Opening
pub mod Running
pub mod OnWords
pub mod Given

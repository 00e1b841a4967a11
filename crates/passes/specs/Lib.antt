-- The method, link by link and pass by pass. `OnWords` only serves contracts of functions inside this crate and of those that call it.
pub mod Hildreth
pub mod OnWords

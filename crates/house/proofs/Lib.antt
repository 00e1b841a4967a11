-- The laws behind the functions of this crate and its promises. Each file says what it is for.
pub mod Told
pub mod Sizes
pub mod Fills
pub mod Halves
pub mod Nearest
pub mod Boxed
pub mod Steps
pub mod Shaped
pub mod Places
pub mod Spread
pub mod Squares
pub mod Solving
pub mod Handing
pub mod Packable
pub mod Fitting
pub mod Thin
pub mod Writable

-- The laws behind the functions of this crate and its promises. Each file says what it is for.
pub mod Forward
pub mod Packed
pub mod Along
pub mod Packing
pub mod Packable
pub mod Trips
pub mod Near

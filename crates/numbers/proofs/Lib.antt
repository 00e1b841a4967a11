-- The laws behind the functions of this crate. Each file says what it is for.
pub mod Clash
pub mod Both
pub mod Reading
pub mod Bytes
pub mod Climb
pub mod Inverse
pub mod Signs
pub mod Stores
pub mod Copies

-- What a fetch says, the whole shelf, and the calls, in this order. Then what functions inside a keep and a fetch count on.
pub mod Fetched
pub mod Shelf
pub mod Calls
pub mod Given

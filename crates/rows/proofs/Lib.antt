-- The rule of the rows.
pub mod Rule

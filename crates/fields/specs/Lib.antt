-- The table of fields.
pub mod Table

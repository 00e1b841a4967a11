-- What the slots of a span are, and what is done to them. Then a table as the words of one.
pub mod Slots
pub mod Tables

-- What a call answers, and what a check goes by. Then what functions count on that are lent the words of a check.
pub mod Answers
pub mod Checked
pub mod Given

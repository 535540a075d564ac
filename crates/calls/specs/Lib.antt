pub mod Answers
pub mod Digits
pub mod Lines
pub mod Performs
pub mod Words

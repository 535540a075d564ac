pub mod Records
pub mod Steadily

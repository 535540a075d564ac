pub mod Sixteen
pub mod TornWrites

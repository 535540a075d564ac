pub mod Figures
pub mod Finds
pub mod Reads
pub mod Stations

pub mod AcceptedSlots
pub mod KnownFigures
pub mod Readings

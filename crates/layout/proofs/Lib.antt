pub mod Answered
pub mod Below
pub mod KnownFigures
pub mod Overlaid
pub mod RankBlocks
pub mod RunBlocks

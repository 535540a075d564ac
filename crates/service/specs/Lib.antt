pub mod Figures
pub mod Frames
pub mod Grammar
pub mod Laws
pub mod Lengths
pub mod Objects
pub mod Walks

pub mod Shapes
pub mod Working

pub mod Lines
pub mod Working

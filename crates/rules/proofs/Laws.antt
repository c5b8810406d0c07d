-- Laws of examined records
pub mod Pivots
pub mod Rules

-- Laws of the load
pub mod Loading

-- Laws of what a step adds
pub mod Adding

pub mod Words
pub mod Sets
pub mod Four
pub mod Tables

-- Laws of lines read into tables
pub mod Rows
pub mod Variables
pub mod Models
pub mod Reading
pub mod Fresh
pub mod Declaring
pub mod LineTests
pub mod PrefixLines

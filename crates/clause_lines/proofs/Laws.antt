-- Laws of clause lines read into tables
pub mod ClauseLines

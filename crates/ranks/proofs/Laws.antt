-- Laws of the definitions, and of what each function answers
pub mod Insertion
pub mod Sorting
pub mod Rising
pub mod Marks
pub mod Ranks

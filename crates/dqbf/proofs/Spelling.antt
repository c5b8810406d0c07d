-- The lines of a formula part, spelled, are read back as they were
pub mod Words
pub mod Lines
pub mod Selecting
pub mod Part
pub mod Declared
pub mod Passing
pub mod Restored

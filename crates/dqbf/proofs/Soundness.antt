-- Every accepted step keeps a true formula true: first over places of universals, then carried over to variables
pub mod Places
pub mod Moves
pub mod Forks
pub mod Settings
pub mod Truth
pub mod Rules
pub mod View
pub mod Steps
pub mod Link

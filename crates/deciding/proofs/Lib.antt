-- The theorems, under the names of specs/Statements.antt
pub mod NumbersAreFamilies
pub mod FamiliesAreNumbers
pub mod Deciding
pub mod Answers
pub mod Exact
pub mod NeverTrue
pub mod Examples
-- what they rest on
pub mod Laws

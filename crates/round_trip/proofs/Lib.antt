-- The claims of specs/Statements.antt
pub mod ReadAgain
-- The claims of specs/AfterSteps.antt
pub mod AfterSteps

-- What is claimed of the definitions, each claim in a file of its own. The proofs stand in proofs/ under the same names.
pub mod Refutation
pub mod RuleIff
pub mod Additions
pub mod Validity
pub mod RunCount
pub mod SetSize
pub mod ReadsBack
pub mod Exact
pub mod MarkedCases
pub mod ELines
pub mod ClashingVariable
pub mod ClashBeforeWidth

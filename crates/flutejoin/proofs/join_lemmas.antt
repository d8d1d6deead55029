-- Lemmas on the command `join`.
pub mod Receptions
pub mod Runs
pub mod Taking
pub mod Reasons
pub mod Held
pub mod Inspections
pub mod InputStreams
pub mod JoinStreams
pub mod JoinStops
pub mod JoinTrees
pub mod ForgetJoins
pub mod WithoutJoins
pub mod MinusJoins

mod BigEndian
mod Walking
mod FirstRefusal
mod Spelling
mod OneReading
mod Decision
mod Existence
mod Exact
mod Decided
mod Computed
mod Written
mod Pieces
mod Faults
mod Cut
mod DatagramFacts
pub mod Public

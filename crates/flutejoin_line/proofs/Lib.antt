mod CommandFound
mod CommandWords
mod JoinLines
mod Options
mod Selecting
mod Parsing
mod SessionLists
mod StandardInputs

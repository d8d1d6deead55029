mod AllSelected
mod Extracted
mod Listed
mod Loads
mod Opened
mod Symbols

mod Empty
mod Replacing

mod Common
mod Each
mod framing_lemmas
mod Numbers
mod format_lemmas
mod readers_lemmas
mod writers_lemmas
mod Cited
pub mod Public

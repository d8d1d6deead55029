mod Common
mod streams_lemmas
mod merge_lemmas
mod compare_lemmas
mod Cited
pub mod Public

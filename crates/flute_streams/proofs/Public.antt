-- What the proofs of the crates above may cite. Declares nothing.
pub use Rattle.flute_streams.proofs.merge_lemmas.LetGo.{nothing_held}
pub use Rattle.flute_streams.proofs.streams_lemmas.Besides.{beside_many}
pub use Rattle.flute_streams.proofs.streams_lemmas.Chaining.{taken_all}

-- What the proofs of the crates above may cite. Declares nothing.
pub use Rattle.flute_store.proofs.Runs.{runs-listed}
pub use Rattle.flute_store.proofs.WholeObjects.{gaps-same, object-same, whole-gapless, Whole-same}
pub use Rattle.flute_store.proofs.ObjectLength.{object-length}

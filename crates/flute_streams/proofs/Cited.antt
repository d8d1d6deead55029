-- The lemmas that functions of src name in `using`, under one short path.
pub use Rattle.flute_streams.proofs.merge_lemmas.Finished.{gave_of, stopped_of}
pub use Rattle.flute_journal.proofs.Public.{same_object_cmp}

-- The lemmas that functions of src name in `using`, under one short path.
pub use Rattle.flute_journal.proofs.Numbers.{octets}
pub use Rattle.flute_journal.proofs.format_lemmas.Decoded.{end_read, info_read}
pub use Rattle.flute_journal.proofs.framing_lemmas.ReadsUpTo.{parsed_fails, parsed_memory}
pub use Rattle.flute_journal.proofs.readers_lemmas.Calls.{entry_wanted, gives_entries}
pub use Rattle.flute_journal.proofs.readers_lemmas.Calls.{reads_entries}

-- What the proofs of the crates above may cite. Declares nothing.
pub use Rattle.flute_journal.proofs.Each.{all_append, all_map, all_more, all_split}
pub use Rattle.flute_journal.proofs.format_lemmas.Decoded.{key-same, same_object_cmp}
pub use Rattle.flute_journal.proofs.format_lemmas.Entries.{facts_of, same_entry}
pub use Rattle.flute_journal.proofs.format_lemmas.Prefixes.{BeginsWithJournal, journal_parts}
pub use Rattle.flute_journal.proofs.format_lemmas.Prefixes.{no_end, no_whole_end}
pub use Rattle.flute_journal.proofs.format_lemmas.Prefixes.{parts_journal, same_journal}
pub use Rattle.flute_journal.proofs.format_lemmas.Prefixes.{spelling-injective, without_end-append}
pub use Rattle.flute_journal.proofs.format_lemmas.Prefixes.{without_end-snoc, written-snoc}
pub use Rattle.flute_journal.proofs.format_lemmas.Prefixes.{written_journal}
pub use Rattle.flute_journal.proofs.format_lemmas.Rising.{after, fact_at-second_none, last_of-snoc}
pub use Rattle.flute_journal.proofs.format_lemmas.Rising.{Rises, rises-rising, Rises-second}
pub use Rattle.flute_journal.proofs.format_lemmas.Rising.{rising-none, rising-prefix, rising-rises}
pub use Rattle.flute_journal.proofs.format_lemmas.Rising.{Same-crossed}
pub use Rattle.flute_journal.proofs.framing_lemmas.Existence.{rises_more}
pub use Rattle.flute_journal.proofs.framing_lemmas.Framed.{one_given}
pub use Rattle.flute_journal.proofs.framing_lemmas.Framings.{file_sound, journal_sound}
pub use Rattle.flute_journal.proofs.framing_lemmas.Passes.{Below-more, beyond, without_end-below}
pub use Rattle.flute_journal.proofs.framing_lemmas.SoFar.{AtEnd, open_after, read_some, side-from}
pub use Rattle.flute_journal.proofs.framing_lemmas.SoFar.{sofar-fault, sofar-next, sofar-none}
pub use Rattle.flute_journal.proofs.framing_lemmas.SoFar.{whole-at}
pub use Rattle.flute_journal.proofs.readers_lemmas.Bodies.{fact_sized}
pub use Rattle.flute_journal.proofs.readers_lemmas.Holding.{left_all}
pub use Rattle.flute_journal.proofs.readers_lemmas.Loading.{entries_at, given-entry, Loaded}
pub use Rattle.flute_journal.proofs.readers_lemmas.Loading.{loaded-over, loaded-read}
pub use Rattle.flute_journal.proofs.readers_lemmas.Whole.{ahead-sofar, reads-fault, reads-side}
pub use Rattle.flute_journal.proofs.readers_lemmas.Whole.{reads-sofar, sofar-stops}
pub use Rattle.flute_journal.proofs.writers_lemmas.WrittenSoFar.{left_out, put_first, puts-part}
pub use Rattle.flute_journal.proofs.writers_lemmas.WrittenSoFar.{written-more, written-part}
pub use Rattle.flute_journal.proofs.writers_lemmas.WrittenSoFar.{written-whole}

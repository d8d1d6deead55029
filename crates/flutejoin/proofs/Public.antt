-- What the proofs of the crates above may cite. Declares nothing.
pub use Rattle.flutejoin.proofs.join_lemmas.Receptions.{
  Below-left,
  IsJournal-from_within,
  Journal-only,
  Same-from_journals,
}
pub use Rattle.flutejoin.proofs.Slots.{slice_get-set_other, slice_get-set_same, some_same}
pub use Rattle.flutejoin.proofs.gaps_lemmas.StatusLines.{status_is}
pub use Rattle.flutejoin.proofs.join_lemmas.Taking.{
  HasOneReading,
  is_packet,
  is_refused-no,
  is_refused-yes,
  IsPacket,
  ok_is_packet,
  refused_same,
  TellsRefusals,
}

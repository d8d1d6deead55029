-- What the proofs of the crates above may cite. Declares nothing.
pub use Rattle.flute_wire.proofs.BigEndian.{big_from-whole}
pub use Rattle.flute_wire.proofs.Computed.{facts-refused, facts-Spells, packet-iff}
pub use Rattle.flute_wire.proofs.Pieces.{facts_are_sent}
pub use Rattle.flute_wire.proofs.Cut.{cut-fit, cut-ids, cut-joined, cut-one}
pub use Rattle.flute_wire.proofs.DatagramFacts.{IsSent, told-iff}

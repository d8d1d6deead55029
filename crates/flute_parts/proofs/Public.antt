-- What the proofs of the crates above may cite. Declares nothing.
pub use Rattle.flute_parts.proofs.Appended.{AppendsPart-first, AppendsPart-second, Writes-behind}
pub use Rattle.flute_parts.proofs.Joined.{fact_at-append, joined, joined-apart, joined-assoc}
pub use Rattle.flute_parts.proofs.Joined.{joined-comm, joined-conflict_left, joined-conflict_right}
pub use Rattle.flute_parts.proofs.Joined.{joined-itself, joined-none, joined-same}
unfoldable pub use Rattle.flute_parts.proofs.Joined.{joined_fact}
pub use Rattle.flute_parts.proofs.Facts.{alone, alone-at, alone-elsewhere, Below-append}
pub use Rattle.flute_parts.proofs.Facts.{Below-from_Same, Below-itself, Below-trans, Contains-from}
pub use Rattle.flute_parts.proofs.Facts.{fact_at-cons, fact_at-elsewhere, fact_at-here}
pub use Rattle.flute_parts.proofs.Facts.{fact_at-member_some, fact_at-nil, fact_at-some_named}
pub use Rattle.flute_parts.proofs.Facts.{Member-from, Same-append, Same-from_Below, Same-itself}
pub use Rattle.flute_parts.proofs.Facts.{Same-members, Same-swap, Same-sym, Same-trans, Same-twice}
unfoldable pub use Rattle.flute_parts.proofs.Facts.{Member}
pub use Rattle.flute_parts.proofs.Readings.{fact_at-address, fact_at-none, fact_at-one, none-at}
pub use Rattle.flute_parts.proofs.Rising.{fact_at-after, member-after, rising_tells, rising_unique}
pub use Rattle.flute_parts.proofs.Rising.{StandAfter-before}
pub use Rattle.flute_parts.proofs.Counted.{Distinct, Distinct-firsts, has, has-firsts}
pub use Rattle.flute_parts.proofs.Counted.{length-Distinct, Tells}
pub use Rattle.flute_parts.proofs.Named.{named-member, named-names, object_tells, Over-below}
pub use Rattle.flute_parts.proofs.Named.{session_tells, symbol_id_tells}
pub use Rattle.flute_parts.proofs.OneMore.{before-next, key-before, object_of-some, rising-front}
pub use Rattle.flute_parts.proofs.OneMore.{symbol_of-some, tied}
pub use Rattle.flute_parts.proofs.Division.{div_ceil-pos, div_ceil-zero, fault-none}
pub use Rattle.flute_parts.proofs.Split.{ids_counted, places-inverse}
pub use Rattle.flute_parts.proofs.Fits.{fits-means}
pub use Rattle.flute_parts.proofs.Sizes.{sizes-few, sizes-none, sizes-short, sizes-some}
pub use Rattle.flute_parts.proofs.OfEqual.{of_equal}

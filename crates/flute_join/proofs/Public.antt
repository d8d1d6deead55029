-- What the proofs of the crates above may cite. Declares nothing.
pub use Rattle.flute_join.proofs.Below.{below_join, below_self, ok_is_not_err}
pub use Rattle.flute_join.proofs.Single.{added_joins, length_new, single_held, single_new}
pub use Rattle.flute_join.proofs.Values.{absent_past, value_at-map_join}
pub use Rattle.flute_join.proofs.Walk.{ordered_one}
pub use Rattle.flute_join.proofs.Copied.{value_there}
pub use Rattle.flute_join.proofs.Ordered.{EachValue-map_join, ordered-map_join}
pub use Rattle.flute_join.proofs.Under.{not_cons_nil}
pub use Rattle.flute_join.proofs.Reading.{reading_at}
pub use Rattle.flute_join.proofs.Sound.{each-insert_entry, each-set_value, each-value_at}
pub use Rattle.flute_join.proofs.Sound.{some_above}

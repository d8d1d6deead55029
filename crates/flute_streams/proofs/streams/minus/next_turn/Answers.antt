-- next_turn: places that compare equal are one.
use Rattle.flute_streams.proofs.Common.{refl, sym, ap, ◌∙◌, option_copied}
use Rattle.flute_streams.proofs.streams_lemmas.Before.{same_place}
use Rattle.flute_streams.proofs.streams.minus.next_turn.Goals as goal

pub has_fact-requires : goal.has_fact-requires
has_fact-requires g c = record {
  place = sym (same_place _ _ (sym (ap option_copied c.in-Some-Some.is-0) ∙ c.address.ensures)
      (sym (ap option_copied c.in-Some-Some.is-1) ∙ c.address-2.ensures)
      (sym (c.order_of.ensures _ _ refl refl) ∙ c.in-Equal.is));
}

-- meet: places that compare equal are one.
use Rattle.flute_streams.proofs.Common.{refl, sym, ap, ◌∙◌, option_copied}
use Rattle.flute_streams.proofs.streams_lemmas.Before.{same_place}
use Rattle.flute_streams.proofs.merge.compare.meet.Goals as goal

pub side_of_both-requires : goal.side_of_both-requires
side_of_both-requires g c = record {
  place = same_place _ _ (sym (ap option_copied c.in-Some-Some.is-0) ∙ c.address.ensures)
      (sym (ap option_copied c.in-Some-Some.is-1) ∙ c.address-2.ensures)
      (sym (c.order_of.ensures _ _ refl refl) ∙ c.in-Equal.is);
}

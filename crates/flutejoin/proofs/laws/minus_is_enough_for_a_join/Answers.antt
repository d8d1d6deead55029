use Rattle.flutejoin.proofs.join_lemmas.MinusJoins.{joined_alike, none_missing, none_missing_after}
use Rattle.flutejoin.proofs.laws.minus_is_enough_for_a_join.Goals as goal

pub returns : goal.returns
returns c =
    let one = c.bytes_are_a_file_or_stop.ensures.one_reading in
    let needs = c.minus_is_what_a_join_needs.ensures in
    record {
      enough = λ choice first second missing bs cs count others h j k.
          joined_alike one needs.enough choice bs cs others h j k;
      held = λ first second missing count facts held h f s below.
          none_missing needs.held facts held h f s below;
      after = λ choice first second missing joined again count number all h j k.
          none_missing_after one needs.enough needs.held choice joined all h j k;
    }

use Rattle.std.proofs.Common.{◌≡◌, true, subst, sym}
use Rattle.flutejoin.specs.FillLists.{asks}
use Rattle.flutejoin.specs.declared.fill.asking.Asking.TheVariants.{All as AskAll}
use Rattle.flutejoin.proofs.fill_lemmas.OwnAnswers.{alike_enough, own, own_enough}
use Rattle.flutejoin.proofs.laws.an_answer_to_own_gaps_is_enough.Goals as goal

pub returns : goal.returns
returns c = record {
  listing = λ asker lines h. let o = own asker lines h in (o.listed, o.listing, o.only);
  asked = λ asker lines listed held f h k j lacked.
      let o = own asker lines h in
      subst (λ l. asks AskAll l f ≡ true) (sym (o.only listed k)) (o.asks_all held f j lacked);
  enough = λ choice asker journal answer bs cs others held facts h s t each j k.
      own_enough c.bytes_are_a_file_or_stop.ensures.one_reading choice asker journal answer bs cs
      others h held facts s t each j k;
  compared = λ choice asker journal answer bs cs others held facts h a s t placed j k.
      alike_enough c.bytes_are_a_file_or_stop.ensures.one_reading choice asker journal answer bs cs
      others h held facts a s t placed j k;
}

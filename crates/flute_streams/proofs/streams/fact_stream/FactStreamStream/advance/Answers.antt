use Rattle.std.proofs.Common.{rules}
use Rattle.flute_streams.proofs.Common.{◌≡◌, ◌++◌, [], inl, sym, ap, ◌∙◌}
use Rattle.flute_streams.proofs.Common.{append-nil, option_list}
use Rattle.flute_journal.specs.HeldEntries.{fact_held}
use Rattle.flute_streams.proofs.streams_lemmas.ListedFacts.{listed_goes_on}
use Rattle.flute_streams.proofs.streams.fact_stream.FactStreamStream.advance.Goals.{in-Some}
use Rattle.flute_streams.proofs.streams.fact_stream.FactStreamStream.advance.Goals.{in-None}
use Rattle.flute_streams.proofs.streams.fact_stream.FactStreamStream.advance.Goals as goal

pub returns-clause-goes_on : goal.returns-clause-goes_on
returns-clause-goes_on c =
    let none : option_list c.take.new.self ≡ [] = ap option_list c.take.ensures.after in
    let held = option_list (fact_held [] c.match-take.held) in
    let is : fact_held [] c.match-take.held ≡ c.take.result = search rules in
    listed_goes_on _ _ _ c.args.self.now
    (record { next = c.take.new.self; held = c.match-take.held }) (sym
    (ap option_list (is ∙ c.take.ensures.value)) ∙ sym (append-nil held) ∙ ap (λ l. held ++ l)
    (sym none)) (λ e. none) (inl (λ s h. h))

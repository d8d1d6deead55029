-- gaps_from: the lines that were put aside are written.
use Rattle.std.proofs.Common.{◌≡◌, ◌∙◌, ◌⊎◌, Err, List, [], None, true, false, ap, refl, subst}
use Rattle.std.proofs.lemmas.Result.{err_from_is_err_and}
use Rattle.std.specs.Io.KnownBytes.{Appends}
use Rattle.flute_parts.specs.Devices.{AppendsPart}
use Rattle.flutejoin.specs.GapLines.{HasLines}
use Rattle.flutejoin.specs.Styles.{are_whole, printed}
use Rattle.flutejoin.specs.Told.{Told}
use Rattle.flutejoin.specs.declared.lines.style.Style.{Style}
use Rattle.flutejoin.proofs.gaps_lemmas.MovedAside.{knows_nothing}
use Rattle.flutejoin.proofs.gaps_lemmas.GapsListed.{lists, none_lined, unless}
use Rattle.flutejoin.proofs.gaps.gaps_from.Goals as goal

pub walk_objects-requires : goal.walk_objects-requires
walk_objects-requires g c =
    (false, none_lined _ _ _ refl refl c.new.ensures (knows_nothing _ []) (knows_nothing _ []))

pub returns-clause-printed : goal.returns-clause-printed
returns-clause-printed g c = λ none no_gaps. let written = g.A.Sink.written in
    let x = c.walk_objects.new.visitor in
    let told = c.in_ok-walk_objects.ensures.told true
    (none_lined _ _ _ refl refl c.new.ensures (λ is. none) (λ is. no_gaps)) in
    let same = ap (λ k. k.1) c.walk_objects.ensures.kept in
    let W = g.W.Sink.written in
    let before = W c.args.sink.now in
    let after = W c.finish.new.sink in
    lists _ _ _ _ (λ objects h. subst
    (λ s. Appends before after (printed s objects) × (c.in_ok-finish.field-0 ≡ are_whole s objects))
    same (c.in_ok-finish.ensures.printed objects h)) told

pub returns-in_err-finish-clause-part : goal.returns-in_err-finish-clause-part
returns-in_err-finish-clause-part g c = λ none no_gaps. let written = g.A.Sink.written in
    let x = c.walk_objects.new.visitor in
    let e = err_from_is_err_and c.from_residual-in_err-finish.result
    c.from_residual-in_err-finish.ensures.1 in
    let told = c.in_ok-walk_objects.ensures.told true
    (none_lined written true _ refl refl c.new.ensures (λ is. none) (λ is. no_gaps)) in
    let same : x.style ≡ c.args.style = ap (λ k. k.1) c.walk_objects.ensures.kept in
    let W = g.W.Sink.written in
    let part : List Told → Type 0 = λ objects. AppendsPart (W c.args.sink.now) (W c.finish.new.sink)
    (printed c.args.style objects) in rw (e.1 ∙ ap Err e.2) (λ is. unless
    (g.P.Picks.picks c.args.picks.now) (g.R.Source.unread c.args.source.now)
    (λ objects. HasLines written true objects None [] x) part (λ objects h. subst (λ (s : Style).
    c.finish.new.sink ≡ c.args.sink.now ⊎ AppendsPart (W c.args.sink.now) (W c.finish.new.sink)
    (printed s objects)) same (c.in_err-finish.ensures.part objects h)) told)

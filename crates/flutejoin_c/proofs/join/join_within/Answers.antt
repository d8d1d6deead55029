-- join_within: the second input is the only one if the first has no bytes.
use Rattle.std.proofs.Common.{ℕ, List, [], ◌∷◌, Option, Some, IfErr, IfOk, sym, ◌∙◌, subst}
use Rattle.flutejoin.specs.Joined.{Choice}
use Rattle.flutejoin.specs.Joining.{JoinsTo}
use Rattle.flutejoin.specs.Limits.{at_most}
use Rattle.flutejoin_c.specs.Joins.{NotJoined, all_of}
use Rattle.flutejoin_c.proofs.Opened.{alone, both, not_joined, one_input, two_inputs}
use Rattle.flutejoin_c.proofs.join.join_within.Goals as goal

pub returns-then-is_empty-clause-failed : goal.returns-then-is_empty-clause-failed
returns-then-is_empty-clause-failed g c =
    let choice : Choice =
    all_of (at_most g.row.SESSIONS g.row.OBJECTS g.row.SYMBOLS) c.args.sender in
    let second = c.args.second.now in
    let r = c.join_all.result in
    subst (λ inputs. IfErr r (NotJoined choice inputs))
    (alone c.args.first.now second (sym c.is_empty.ensures ∙ c.if-is_empty.true))
    (not_joined choice (second ∷ []) r
    (c.join_all.ensures.failed (second ∷ [])
    (one_input (λ s. Some s.unread.now) c.in_ok-other.other second c.in_ok-other.ensures.input)))

pub returns-in_ok-opened-clause-joined : goal.returns-in_ok-opened-clause-joined
returns-in_ok-opened-clause-joined g c =
    let choice : Choice =
    all_of (at_most g.row.SESSIONS g.row.OBJECTS g.row.SYMBOLS) c.args.sender in
    let first = c.args.first.now in
    let second = c.args.second.now in
    let old : Option (List ℕ) = Some c.args.sink.now.bytes.items in
    let new : Option (List ℕ) = Some c.join_all-else-is_empty.new.sink.bytes.items in
    subst (λ inputs. IfOk c.join_all-else-is_empty.result
    (λ counts. JoinsTo choice inputs counts old new))
    (both first second (sym c.is_empty.ensures ∙ c.if-is_empty.false))
    (c.join_all-else-is_empty.ensures.joined (first ∷ second ∷ [])
    (two_inputs (λ s. Some s.unread.now) c.in_ok-opened.field-0 c.in_ok-other.other first second
    c.in_ok-opened.ensures.input c.in_ok-other.ensures.input))

pub returns-in_ok-opened-clause-failed : goal.returns-in_ok-opened-clause-failed
returns-in_ok-opened-clause-failed g c =
    let choice : Choice =
    all_of (at_most g.row.SESSIONS g.row.OBJECTS g.row.SYMBOLS) c.args.sender in
    let first = c.args.first.now in
    let second = c.args.second.now in
    let r = c.join_all-else-is_empty.result in
    subst (λ inputs. IfErr r (NotJoined choice inputs))
    (both first second (sym c.is_empty.ensures ∙ c.if-is_empty.false))
    (not_joined choice (first ∷ second ∷ []) r
    (c.join_all-else-is_empty.ensures.failed (first ∷ second ∷ [])
    (two_inputs (λ s. Some s.unread.now) c.in_ok-opened.field-0 c.in_ok-other.other first second
    c.in_ok-opened.ensures.input c.in_ok-other.ensures.input)))

-- join_inputs: reading the journal in memory gives the facts it was written of.
use Rattle.std.proofs.Common.{rules, ◌<◌, ◌^◌, Option, Some, List, ℕ, subst}
use Rattle.std.specs.Prelude.{IfSome}
use Rattle.flute_journal.specs.Stores.{IsJournalOf}
use Rattle.flutejoin.specs.Joined.{everything}
use Rattle.flutejoin.specs.Joining.{JoinsTo}
use Rattle.flutejoin_replicas.proofs.MemoryFacts.{joins_of}
use Rattle.flutejoin_replicas.proofs.memory_inputs.join_inputs.Goals as goal

pub returns-in-Ok-clause-joined : goal.returns-in-Ok-clause-joined
returns-in-Ok-clause-joined c =
    let counts = c.in_ok-counts.counts in
    let bytes = c.as_slice.result.now in
    let few : counts.entries < 2 ^ 64 = search rules in
    let P : Option (List ℕ) → Type 0 =
    λ w. JoinsTo (everything c.args.sender) c.args.inputs.now counts
    (Some c.new-journal.result.bytes.items) w in
    let Q : Option (List ℕ) → Type 0 =
    λ w. JoinsTo (everything c.args.sender) c.args.inputs.now counts w (Some bytes) in
    let U : Option (List ℕ) → Type 0 =
    λ u. IfSome u (λ bs. IsJournalOf counts.entries bs c.in-Ok.store) in
    joins_of few c.a_journal_is_its_content.ensures.content
    c.a_journal_is_its_content.ensures.bounded
    (subst Q c.new-journal.ensures.bytes
    (subst P c.as_slice.ensures c.in_ok-counts.ensures.joined))
    (subst U c.new-written.ensures.bytes c.in-Ok.ensures.journal)

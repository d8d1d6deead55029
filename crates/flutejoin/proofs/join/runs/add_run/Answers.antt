-- add_run: one run more.
use Rattle.std.proofs.Common.{rules}
use Rattle.std.proofs.Common.{◌≡◌, ◌++◌, ◌∷◌, ◌∙◌, ℕ, List, [], Option}
use Rattle.std.proofs.Common.{Some, cond, is_ok, length, subst, sym, arith}
use Rattle.std.specs.Prelude.{IfSome}
use Rattle.flute_parts.proofs.Public.{Same-append, Same-itself, Same-sym}
use Rattle.flute_journal.specs.Journal.{IsJournalWithin}
use Rattle.flute_streams.specs.OwnedStreams.{left_in}
use Rattle.flutejoin.specs.Asides.{HoldTogether, IsRunOf}
use Rattle.flutejoin.proofs.join_lemmas.Runs.{run_more, within}
use Rattle.flutejoin.proofs.join.runs.add_run.Goals as goal
use Rattle.flutejoin.proofs.join.runs.add_run.Goals.{in-Ok-push, in-Err}

pub returns-clause-held : goal.returns-clause-held
returns-clause-held g c = λ bytes own facts told journal entries holds.
    let runs = c.args.runs.now.items in
    let run = c.new.result in
    let unread = g.R.Source.unread in
    let buffered = g.R.Source.buffered in
    let P : Option (List ℕ) → Type 0 =
    λ o. IfSome o (λ b. unread c.in-Ok.source ≡ Some b) in
    let read : left_in unread buffered run ≡ Some bytes =
    c.new.ensures.left ∙ subst P told c.in-Ok.ensures.told in
    let Q : ℕ → Type 0 = λ n. IsJournalWithin n bytes journal.0 in
    let is : IsRunOf unread buffered run journal.0 = (
      bytes,
      read,
      subst Q (sym entries ∙ sym c.new.ensures.limit)
          (within (length journal.0) bytes own journal (omega arith)),
    ) in
    let more : HoldTogether unread buffered (runs ++ run ∷ []) (facts ++ own) = (
      facts ++ journal.0,
      run_more unread buffered runs run facts journal.0 holds is,
      Same-append facts facts journal.0 own (Same-itself facts)
          (Same-sym own journal.0 journal.1.same),
    ) in
    elim c.match-push.branch [
      | in-Ok-push w ↦
          rw w.result-is
          (subst (λ l. HoldTogether unread buffered l (facts ++ own))
          (sym (subst (λ r. c.push.new.self.items ≡ cond (is_ok r) (runs ++ run ∷ []) runs)
          w.in-Ok-push.is c.push.ensures.items)) more)
      | in-Err w ↦ rw w.result-is tt
    ]

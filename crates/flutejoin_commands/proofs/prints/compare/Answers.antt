-- compare: what was compared, and why nothing was, stated of the names of the journals.
use Rattle.std.proofs.Common.{◌≡◌, ◌≢◌, ◌⊎◌, List, ℕ, Option, Bool, true, false, Result, IfErr}
use Rattle.std.proofs.Common.{[], ◌∷◌, inl, inr, rules, subst, sym}
use Rattle.std.specs.Io.KnownBytes.{Appends}
use Rattle.flute_streams.specs.declared.choice.selection.Selection.{Selection}
use Rattle.flutejoin.specs.Compare.{ComparesJournals}
use Rattle.flutejoin.specs.CompareLines.{compared, passes_check}
use Rattle.flutejoin.specs.Merge.{MergeFails}
use Rattle.flutejoin.specs.declared.command_fault.CommandFault.{CommandFault}
use Rattle.flutejoin.specs.declared.command_fault.CommandFault.TheVariants.{CannotWrite}
use Rattle.flutejoin.specs.declared.command_fault.CommandFault.TheVariants.{OutOfMemory, ValuesDiffer}
use Rattle.flutejoin_commands.specs.Files.{Files, HasBytes}
use Rattle.flutejoin_commands.specs.Named.{IsUnopened}
use Rattle.flutejoin_commands.specs.Prints.{IfCompared}
use Rattle.flutejoin_commands.specs.Worlds.{TellsAsides}
use Rattle.flutejoin_commands.proofs.Comparisons.{chosen_as, if_told_two, told_two}
use Rattle.flutejoin_commands.proofs.Comparisons.{unread_of_two}
use Rattle.flutejoin_commands.proofs.PrintedNames.{by_done, by_fault, if_empty}
use Rattle.flutejoin_commands.proofs.prints.compare.Goals as goal

pub returns-in_err-first-clause-failed : goal.returns-in_err-first-clause-failed
returns-in_err-first-clause-failed g c =
    let files = g.W.Inputs.files c.args.world.now in
    let a = c.args in
    let fault = c.in_err-first.field-0.0 in
    let why : IsUnopened files (a.first.now ∷ a.second.now ∷ []) fault ⊎ (fault ≡ OutOfMemory) =
    unread_of_two files a.first.now a.second.now fault c.in_err-first.ensures.failed in
    search rules

pub returns-clause-compared : goal.returns-clause-compared
returns-clause-compared g c =
    let files = g.W.Inputs.files c.args.world.now in
    let unread = g.W.Input.Source.unread in
    let a = c.args in
    let old = g.P.Sink.written c.args.output.now in
    let new = g.P.Sink.written c.compare_on.new.report in
    let x = c.compare_input-first.result in
    let y = c.compare_input-second.result in
    let u = unread x.stream.source in
    let v = unread y.stream.source in
    let both : HasBytes files a.first.now u × HasBytes files a.second.now v = (
      subst (λ s. HasBytes files a.first.now (unread s))
          (sym c.compare_input-first.ensures.source) c.in_ok-first.ensures.opened.0,
      subst (λ s. HasBytes files a.second.now (unread s))
          (sym c.compare_input-second.ensures.source) c.in_ok-first.ensures.opened.1,
    ) in
    let tells = g.W.Asides.Asides.tells c.asides-asides.result in
    let told = subst (λ (f : Option Files). TellsAsides f tells) c.open_two.ensures.same_files
    c.asides-asides.ensures.tells in
    let empty = c.in_ok-lines.ensures.empty in
    let Tells : Bool → Selection → Selection → Option (List ℕ) → Option (List ℕ) → Type 0 =
    λ p s t k l. ComparesJournals s t k l
    (λ rows. Appends old new (compared a.style rows) × (passes_check a.style rows ≡ p)) in
    by_done c.compare_on.result (λ is.
    if_told_two files _ _ _ _ both (Tells true a.selection.now a.selection.now)
    (if_empty files (Tells true a.selection.now a.selection.now u v) told empty empty
    (λ e f. chosen_as (λ s t. Tells true s t u v) c.compare_input-first.ensures.selection
    c.compare_input-second.ensures.selection
    (subst (λ (r : Result (Unit {0}) CommandFault).
    IfCompared r (λ p. Tells p x.choice y.choice u v)) is (c.compare_on.ensures.compared e)).0)))

pub returns-clause-failed : goal.returns-clause-failed
returns-clause-failed g c =
    let files = g.W.Inputs.files c.args.world.now in
    let unread = g.W.Input.Source.unread in
    let a = c.args in
    let old = g.P.Sink.written c.args.output.now in
    let new = g.P.Sink.written c.compare_on.new.report in
    let x = c.compare_input-first.result in
    let y = c.compare_input-second.result in
    let u = unread x.stream.source in
    let v = unread y.stream.source in
    let both : HasBytes files a.first.now u × HasBytes files a.second.now v = (
      subst (λ s. HasBytes files a.first.now (unread s))
          (sym c.compare_input-first.ensures.source) c.in_ok-first.ensures.opened.0,
      subst (λ s. HasBytes files a.second.now (unread s))
          (sym c.compare_input-second.ensures.source) c.in_ok-first.ensures.opened.1,
    ) in
    let tells = g.W.Asides.Asides.tells c.asides-asides.result in
    let told = subst (λ (f : Option Files). TellsAsides f tells) c.open_two.ensures.same_files
    c.asides-asides.ensures.tells in
    let empty = c.in_ok-lines.ensures.empty in
    let Tells : Bool → Selection → Selection → Option (List ℕ) → Option (List ℕ) → Type 0 =
    λ p s t k l. ComparesJournals s t k l
    (λ rows. Appends old new (compared a.style rows) × (passes_check a.style rows ≡ p)) in
    let F : CommandFault → Type 0 = λ fault. (fault ≡ ValuesDiffer)
    ⊎ (MergeFails u v fault × (fault ≢ CannotWrite → new ≡ old)) in
    by_fault c.compare_on.result (λ fault is. elim (subst
    (λ (r : Result (Unit {0}) CommandFault). IfErr r F) is c.compare_on.ensures.failed) [
      | inl n ↦ inl (
        n,
        if_told_two files _ _ _ _ both (Tells false a.selection.now a.selection.now)
            (if_empty files (Tells false a.selection.now a.selection.now u v) told empty empty
            (λ e f. chosen_as (λ s t. Tells false s t u v)
            c.compare_input-first.ensures.selection c.compare_input-second.ensures.selection
            ((subst (λ (r : Result (Unit {0}) CommandFault).
            IfCompared r (λ p. Tells p x.choice y.choice u v)) is
            (c.compare_on.ensures.compared e)).1 n))),
      )
      | inr p ↦ inr (inr (told_two files _ _ _ _ both (λ k l. MergeFails k l fault) p.0), p.1)
    ])

-- gaps: what was listed, and why nothing was, stated of the names of the journal and its list.
use Rattle.std.proofs.Common.{◌≡◌, ◌≢◌, ◌⊎◌, List, ℕ, Option, Bool, true, false, Result, IfErr}
use Rattle.std.proofs.Common.{inl, inr, subst, ◌∙◌}
use Rattle.std.specs.Io.KnownBytes.{Appends, IsAtEnd}
use Rattle.flutejoin.specs.Gaps.{GapsFail, ListsJournal}
use Rattle.flutejoin.specs.Styles.{passes_check, printed}
use Rattle.flutejoin.specs.declared.command_fault.CommandFault.{CommandFault}
use Rattle.flutejoin.specs.declared.command_fault.CommandFault.TheVariants.{CannotWrite}
use Rattle.flutejoin.specs.declared.command_fault.CommandFault.TheVariants.{NotAllWhole}
use Rattle.flutejoin_commands.specs.Files.{Files}
use Rattle.flutejoin_commands.specs.Printed.{chosen}
use Rattle.flutejoin_commands.specs.Prints.{FailsToFlush, IfPrinted}
use Rattle.flutejoin_commands.specs.Works.{most_of}
use Rattle.flutejoin_commands.specs.Worlds.{TellsAsides}
use Rattle.flutejoin_commands.proofs.OfNames.{told_of}
use Rattle.flutejoin_commands.proofs.PrintedNames.{by_done, by_fault, if_empty, if_told}
use Rattle.flutejoin_commands.proofs.prints.gaps.Goals as goal

pub returns-clause-listed : goal.returns-clause-listed
returns-clause-listed g c =
    let files = g.W.Inputs.files c.args.world.now in
    let style = c.args.listing.style in
    let listed = c.in_ok-source.listed in
    let are_listed = c.in_ok-source.ensures.listed in
    let old = g.P.Sink.written c.args.output.now in
    let new = g.P.Sink.written c.gaps_on.new.report in
    let known = g.W.Input.Source.unread c.in_ok-source.source in
    let a = g.W.Asides.Aside.Sink.written c.in_ok-lines.lines in
    let b = g.W.Asides.Aside.Sink.written c.in_ok-gap_lines.gap_lines in
    let r = c.gaps_on.result in
    let same = c.open_listed.ensures.same_files in
    let Lists : Bool → Option (List ℕ) → Type 0 = λ p k.
    ListsJournal (most_of c.args.listing.limit) (chosen c.args.selection.now listed) k
    (λ objects. Appends old new (printed style objects) × (passes_check style objects ≡ p)) in
    let tells = g.W.Asides.Asides.tells c.asides-asides.result in
    let told =
    subst (λ (x : Option Files). TellsAsides x tells) same c.asides-asides.ensures.tells in
    let first = c.in_ok-lines.ensures.empty in
    let opened = c.in_ok-source.ensures.opened in
    by_done r (λ is. (
      listed,
      are_listed,
      if_told files c.args.inputs.journal.now known opened (Lists true)
          (if_empty files (Lists true known) told first
          (λ t. c.in_ok-gap_lines.ensures.empty (c.aside.ensures.same_tells ∙ t)) (λ e f. (subst
          (λ (x : Result (Unit {0}) CommandFault). IfPrinted x (λ p. Lists p known)) is
          (c.gaps_on.ensures.listed e f)).0)),
    ))

pub returns-clause-failed : goal.returns-clause-failed
returns-clause-failed g c =
    let files = g.W.Inputs.files c.args.world.now in
    let style = c.args.listing.style in
    let listed = c.in_ok-source.listed in
    let are_listed = c.in_ok-source.ensures.listed in
    let name = c.args.inputs.journal.now in
    let old = g.P.Sink.written c.args.output.now in
    let new = g.P.Sink.written c.gaps_on.new.report in
    let known = g.W.Input.Source.unread c.in_ok-source.source in
    let left = g.W.Input.Source.unread c.gaps_on.new.source in
    let opened = c.in_ok-source.ensures.opened in
    let a = g.W.Asides.Aside.Sink.written c.in_ok-lines.lines in
    let b = g.W.Asides.Aside.Sink.written c.in_ok-gap_lines.gap_lines in
    let r = c.gaps_on.result in
    let same = c.open_listed.ensures.same_files in
    let Lists : Bool → Option (List ℕ) → Type 0 = λ p k.
    ListsJournal (most_of c.args.listing.limit) (chosen c.args.selection.now listed) k
    (λ objects. Appends old new (printed style objects) × (passes_check style objects ≡ p)) in
    let tells = g.W.Asides.Asides.tells c.asides-asides.result in
    let told =
    subst (λ (x : Option Files). TellsAsides x tells) same c.asides-asides.ensures.tells in
    let first = c.in_ok-lines.ensures.empty in
    let fails : Option (List ℕ) → Option (List ℕ) → CommandFault → Type 0 = λ k l fault.
    GapsFail (most_of c.args.listing.limit) k l fault ⊎ FailsToFlush (IsAtEnd l) fault in
    let F : CommandFault → Type 0 = λ fault. (fault ≡ NotAllWhole)
    ⊎ (fails known left fault × (fault ≢ CannotWrite → new ≡ old)) in
    by_fault r (λ fault is. elim (subst (λ (x : Result (Unit {0}) CommandFault). IfErr x F) is
    c.gaps_on.ensures.failed) [
      | inl n ↦ inl (
        n,
        (
          listed,
          are_listed,
          if_told files name known opened (Lists false)
              (if_empty files (Lists false known) told first
              (λ t. c.in_ok-gap_lines.ensures.empty (c.aside.ensures.same_tells ∙ t)) (λ e f.
              (subst
              (λ (x : Result (Unit {0}) CommandFault). IfPrinted x (λ p. Lists p known)) is
              (c.gaps_on.ensures.listed e f)).1 n)),
        ),
      )
      | inr p ↦ inr (
        inr (
          listed,
          are_listed,
          told_of files name known opened
              (λ k. (l : Option (List ℕ)) × fails k l fault) (left, p.0),
        ),
        p.1,
      )
    ])

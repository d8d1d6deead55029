-- extract_all_to: what the walk told was written.
use Rattle.std.proofs.Common.{List, ℕ, Option, ap, refl, rules}
use Rattle.flute_output.specs.NewFolders.{FolderStays, LeadsTo, Places}
use Rattle.flute_parts.proofs.Public.{of_equal}
use Rattle.flutejoin.specs.ExtractAll.{ExtractsAll}
use Rattle.flutejoin.specs.Limits.{at_most}
use Rattle.flutejoin.proofs.extract_lemmas.FilesTold.{extracted, none_written, of_equals, stays}
use Rattle.flutejoin.proofs.extract.extract_all.extract_all_to.Goals as goal

pub walk_objects-requires : goal.walk_objects-requires
walk_objects-requires g c = (
  (g.D.NewFolder.places c.args.folder.now, g.W.Sink.written c.args.lines.now),
  none_written _ _
      c.requires refl refl,
)

pub returns-clause-extracted : goal.returns-clause-extracted
returns-clause-extracted g c =
    let D = g.D.NewFolder.places in
    let W = g.W.Sink.written in
    let x = c.walk_objects.new.visitor in
    let left = g.R.Source.unread c.walk_objects.new.source in
    let p0 = D c.args.folder.now in
    let w0 = W c.args.lines.now in
    let E : Option Places → Option (List ℕ) → Type 0 = λ p w. ExtractsAll
    (at_most g.row.SESSIONS g.row.OBJECTS g.row.SYMBOLS) (g.R.Source.unread c.args.source.now) left
    (g.P.Picks.picks c.args.picks.now) p0 p w0 w x.written in
    let here = extracted _ _ _
    (c.in_ok-walk_objects.ensures.told (p0, w0) (none_written _ _ c.requires refl refl))
    c.in_ok-walk_objects.ensures.end in of_equals D W E here _ _ (search rules) (search rules)

pub returns-in_err-walk_objects-clause-stays : goal.returns-in_err-walk_objects-clause-stays
returns-in_err-walk_objects-clause-stays g c =
    let D = g.D.NewFolder.places in
    of_equal D (LeadsTo FolderStays (D c.args.folder.now))
    (stays _ _ (ap (λ k. k.1) c.walk_objects.ensures.kept)) _ (search rules)

pub returns-clause-stays : goal.returns-clause-stays
returns-clause-stays g c =
    let D = g.D.NewFolder.places in
    of_equal D (LeadsTo FolderStays (D c.args.folder.now))
    (stays _ _ (ap (λ k. k.1) c.walk_objects.ensures.kept)) _ (search rules)

use Rattle.flute_output.proofs.Runs.{names_then, names_same, names_create, names_touched}
use Rattle.flute_output.proofs.folder_beside.make_folder_once.Goals as goal

pub returns-in_err-folder-clause-any_moment : goal.returns-in_err-folder-clause-any_moment
returns-in_err-folder-clause-any_moment g c t =
    names_then _ _ _ _ (names_same _ _ _ (c.look.ensures.same t))
    (names_then _ _ _ _ (names_create _ _ _ c.create_folder.result (c.create_folder.ensures.made t)
    (c.create_folder.ensures.refused t))
    (names_same _ _ _ (c.open_folder.ensures.same t)))

pub returns-in_err-empty_folder-clause-any_moment : goal.returns-in_err-empty_folder-clause-any_moment
returns-in_err-empty_folder-clause-any_moment g c t =
    names_then _ _ _ _ (names_same _ _ _ (c.look.ensures.same t))
    (names_then _ _ _ _ (names_create _ _ _ c.create_folder.result (c.create_folder.ensures.made t)
    (c.create_folder.ensures.refused t))
    (names_then _ _ _ _ (names_same _ _ _ (c.open_folder.ensures.same t))
    (names_touched _ _ _ _ _ (c.empty_folder.ensures.touches t))))

pub returns-clause-any_moment : goal.returns-clause-any_moment
returns-clause-any_moment g c t =
    names_then _ _ _ _ (names_same _ _ _ (c.look.ensures.same t))
    (names_then _ _ _ _ (names_create _ _ _ c.create_folder.result (c.create_folder.ensures.made t)
    (c.create_folder.ensures.refused t))
    (names_then _ _ _ _ (names_same _ _ _ (c.open_folder.ensures.same t))
    (names_touched _ _ _ _ _ (c.empty_folder.ensures.touches t))))

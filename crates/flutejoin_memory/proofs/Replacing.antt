-- MemoryWorld: what a closed output makes of the files of the names.
use Rattle.std.proofs.Common.{◌≡◌, ◌≢◌, ℕ, List, ◌∷◌, ◌++◌, codes, length}
use Rattle.std.proofs.Common.{true, false, Some, if◌then◌else◌}
use Rattle.std.proofs.Common.{option_map, refl, sym, ap, subst, arith, length-append, ◌∙◌}
use Rattle.std.proofs.lemmas.Bool.{false_from_ne_true}
use Rattle.std.proofs.lemmas.Slice.Eq.{bytes_eq-Decides}
use Rattle.std.specs.Str.{bytes_eq}
use Rattle.flute_output.specs.Entries.{Entries}
use Rattle.flutejoin_commands.specs.Closings.{Closing, closing}
use Rattle.flutejoin_memory.specs.MemoryFiles.{Changed, NamedFile, files_of, names_of, closed_as}
use Rattle.flutejoin_memory.specs.MemoryFiles.{folders_of, with_folder}
use Rattle.flute_output.specs.NewFolders.{Places}
use Rattle.flutejoin_commands.specs.Folders.{IsFolderAt}
use Rattle.flutejoin_commands.specs.Worlds.{Replaced, bytes_of, beside_name}

same : (name : List ℕ) → bytes_eq name name ≡ true
same name = (bytes_eq-Decides name name).1 refl

differ : (a b : List ℕ) → b ≢ a → bytes_eq a b ≡ false
differ a b other = false_from_ne_true _ (λ eq. other (sym ((bytes_eq-Decides a b).0 eq)))

-- the file beside a name has another name
longer : (name : List ℕ) → beside_name name ≢ name
longer name e =
    let lengths : length (name ++ codes ".partial") ≡ length name = ap length e in
    omega (arith, length-append name (codes ".partial"))

-- closing an output replaces the bytes of its name and of the name beside it, and no others
replaced : (name : List ℕ) (e : Entries) (old : List NamedFile)
    → Replaced name (option_map bytes_of e.out) (option_map bytes_of e.beside) (files_of old)
    (files_of (closed_as name e ++ old))
replaced name e old =
    let rest = λ (other : List ℕ). if bytes_eq (beside_name name) other
    then option_map bytes_of e.beside else files_of old other in
    record {
      here = ap (λ b. if b then option_map bytes_of e.out else rest name) (same name);
      next = ap (λ b. if b then option_map bytes_of e.out else rest (beside_name name))
          (differ name (beside_name name) (longer name))
          ∙ ap (λ b. if b then option_map bytes_of e.beside else files_of old (beside_name name))
          (same (beside_name name));
      elsewhere = λ other not_out not_beside.
          ap (λ b. if b then option_map bytes_of e.out else rest other)
          (differ name other not_out)
          ∙ ap (λ b. if b then option_map bytes_of e.beside else files_of old other)
          (differ (beside_name name) other not_beside);
    }

-- the first of the names are those of the output that was closed
pub closes : (name : List ℕ) (e : Entries) (old new : List Closing) (rest : List NamedFile)
    → new ≡ closing name e ∷ old
    → Replaced name (option_map bytes_of e.out) (option_map bytes_of e.beside)
    (files_of (names_of old ++ rest)) (files_of (names_of new ++ rest))
closes name e old new rest is =
    subst (λ (all : List Closing).
    Replaced name (option_map bytes_of e.out) (option_map bytes_of e.beside)
    (files_of (names_of old ++ rest)) (files_of (names_of all ++ rest))) (sym is)
    (replaced name e (names_of old ++ rest))

-- a new folder that is closed is at its name, and each other name leads to what it led to
pub is_folder_at : (name : List ℕ) (p : Places) (old new : Changed) → new ≡ with_folder name p old
    → IsFolderAt name (Some p) (folders_of old.folders) (folders_of new.folders)
is_folder_at name p old new is =
    subst (λ (c : Changed). IsFolderAt name (Some p) (folders_of old.folders) (folders_of c.folders))
    (sym is)
    (record {
      here = ap (λ b. if b then Some p else folders_of old.folders name) (same name);
      elsewhere = λ other apart.
          ap (λ b. if b then Some p else folders_of old.folders other) (differ name other apart);
    })

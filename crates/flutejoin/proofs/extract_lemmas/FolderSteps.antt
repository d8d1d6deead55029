-- extract --all: a folder that is filled, call after call (flute_output: specs/NewFolders).
use Rattle.std.proofs.Common.{rules}
use Rattle.std.proofs.Common.{◌≡◌, ℕ, List, [], ◌∷◌, ◌++◌, Option, Some, None, refl}
use Rattle.std.proofs.Common.{append_assoc}
use Rattle.std.specs.Prelude.{IsSome, option_map}
use Rattle.flute_output.specs.NewFolders.{NamedFile, Filled, Places, LeadsTo, Makes, Fills}
use Rattle.flute_output.specs.NewFolders.{FolderStays, begins, puts, keeps, keeps_open}
use Rattle.flute_output.specs.NewFolders.{leaves, with_bytes, with_files, files_in, files_beside}

both_stay : (a b c : Places) → FolderStays a b → FolderStays b c → FolderStays a c
both_stay a b c h g = search rules

pub stays_on : (a b c : Option Places) → LeadsTo FolderStays a b → LeadsTo FolderStays b c →
    LeadsTo FolderStays a c
stays_on other another third h g = search rules

-- by what was done
pub did_stay : (f : Places → Places) → ((p : Places) → FolderStays p (f p)) → (a b : Option Places)
    → Makes f a b → LeadsTo FolderStays a b
did_stay f h other another m = search rules

pub begins_stay : (name : List ℕ) (p : Places) → FolderStays p (begins name p)
begins_stay name p = search rules

pub puts_stay : (more : List ℕ) (p : Places) → FolderStays p (puts more p)
puts_stay more p = search rules

kept_stay : (o : Option NamedFile) (p : Places) → FolderStays p (keeps_open o p)
kept_stay = search rules

pub keeps_stay : (p : Places) → FolderStays p (keeps p)
keeps_stay p = kept_stay _ p

pub leaves_stay : (p : Places) → FolderStays p (leaves p)
leaves_stay p = search rules

-- a call that does so makes of a folder of which A holds one of which B holds
abbrev pub Brings : (Places → Places) → (Places → Places → Type 0)
    → (Places → Places → Type 0) → Type 0
Brings f A B = (p0 p q : Option Places) → LeadsTo A p0 p → Makes f p q → LeadsTo B p0 q

-- it does if it does so with a folder that is known
brings : (f : Places → Places) (A B : Places → Places → Type 0)
    → ((p0 p : Places) → A p0 p → B p0 (f p)) → Brings f A B
brings f A B h other another third l m = search rules

-- a file is begun, bytes are put into it, it is dropped, or it is kept
pub fills_begins : (name : List ℕ) (files : List NamedFile) (o : Option NamedFile) → Brings
    (begins name) (Fills files o) (Fills files (Some (record { name = name; bytes = [] })))
fills_begins name files o = search rules

pub fills_puts : (more : List ℕ) (files : List NamedFile) (f : NamedFile)
    → Brings (puts more) (Fills files (Some f)) (Fills files (Some (with_bytes more f)))
fills_puts more files f = search rules

pub fills_leaves : (files : List NamedFile) (o : Option NamedFile)
    → Brings leaves (Fills files o) (Fills files None)
fills_leaves files o = search rules

kept_there : (f : NamedFile) (b : Option Filled) → IsSome b → IsSome
    (option_map (with_files (f ∷ [])) b)
kept_there = search rules

kept_files : (f : NamedFile) (b : Option Filled) → IsSome b → files_in
    (option_map (with_files (f ∷ [])) b) ≡ files_in b ++ f ∷ []
kept_files = search rules

keeps_as : (files : List NamedFile) (f : NamedFile) (p0 p : Places) → Fills files (Some f) p0 p →
    Fills (files ++ f ∷ []) None p0 (keeps_open (Some f) p)
keeps_as files f p0 p l = record {
  beside = cc (kept_files f _ l.there, append_assoc (files_beside p0) files (f ∷ []));
  there = kept_there f _ l.there;
  open_is = refl;
  stays = both_stay _ p _ l.stays (kept_stay (Some f) p);
}

pub fills_keeps : (files : List NamedFile) (f : NamedFile)
    → Brings keeps (Fills files (Some f)) (Fills (files ++ f ∷ []) None)
fills_keeps files f = search (rules, brings, keeps, keeps_as)

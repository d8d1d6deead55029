-- What is printed of opened inputs, stated of the names that were opened (specs/Printed).
use Rattle.std.proofs.Common.{◌≡◌, ◌⊎◌, ℕ, List, [], Option, Some, None, Result, Ok, Err, IfErr}
use Rattle.std.proofs.Common.{Bool, true, inr, refl, subst}
use Rattle.std.specs.Prelude.{OnOk}
use Rattle.flutejoin.specs.declared.command_fault.CommandFault.{CommandFault}
use Rattle.flutejoin_commands.specs.Files.{Files, HasBytes, IfFiles}
use Rattle.flutejoin_commands.specs.Worlds.{TellsAsides}
use Rattle.flutejoin_commands.proofs.OfNames.{told_of}

module _ (files : Option Files) (name : List ℕ) (known : Option (List ℕ))
    (h : HasBytes files name known) where
  pub not_printed : (G : Option (List ℕ) → Option (List ℕ) → CommandFault → Type 0)
      (B : CommandFault → Type 0) (left : Option (List ℕ)) (r : Result (Unit {0}) CommandFault)
      → IfErr r (G known left)
      → IfErr r (λ fault. B fault ⊎ IfFiles files
      (λ f. (l : Option (List ℕ)) × G (f name) l fault))
  not_printed G B left (Ok u) p = tt
  not_printed G B left (Err e) p =
      inr (told_of files name known h (λ k. (l : Option (List ℕ)) × G k l e) (left, p))

-- two facts of one fault
pub both : (P Q : CommandFault → Type 0) (r : Result (Unit {0}) CommandFault) → IfErr r P
    → IfErr r Q → IfErr r (λ fault. P fault × Q fault)
both P Q (Ok u) p q = tt
both P Q (Err e) p q = (p, q)

-- a fact of each fault that there may be
pub by_fault : {P : CommandFault → Type 0} (r : Result (Unit {0}) CommandFault)
    → ((fault : CommandFault) → r ≡ Err fault → P fault) → IfErr r P
by_fault (Ok u) f = tt
by_fault (Err e) f = f e refl

-- a fact of an opened input that holds if the files are known
pub if_told : (files : Option Files) (name : List ℕ) (known : Option (List ℕ))
    → HasBytes files name known → (P : Option (List ℕ) → Type 0) → IfFiles files (λ f. P known)
    → IfFiles files (λ f. P (f name))
if_told None name known h P p = tt
if_told (Some files) name known h P p = subst P h.0 p

-- a fact of what is put aside, which is empty if the files are known
pub if_empty : (files : Option Files) {tells : Bool} {a b : Option (List ℕ)} (P : Type 0)
    → TellsAsides files tells → (tells ≡ true → a ≡ Some [])
    → (tells ≡ true → b ≡ Some []) → (a ≡ Some [] → b ≡ Some [] → P)
    → IfFiles files (λ f. P)
if_empty None P told d e p = tt
if_empty (Some files) P told d e p = p (d told) (e told)

-- a fact of success
pub by_done : {P : Type 0} (r : Result (Unit {0}) CommandFault) → (r ≡ Ok tt → P) → OnOk r P
by_done (Ok u) f = f refl
by_done (Err e) f = tt

-- A journal and a list of its objects, stated of the names that were opened (specs/Lists).
use Rattle.std.proofs.Common.{◌≡◌, ◌⊎◌, ℕ, List, Option, Some, None, Result, Ok, Err, IfErr}
use Rattle.std.proofs.Common.{inl, inr, subst}
use Rattle.std.specs.Prelude.{IfOk, IfSome, IsSome, OnOk}
use Rattle.std.specs.BTreeSet.{BTreeSet}
use Rattle.flute_journal.specs.declared.fault.ReadFault.TheVariants.{Read}
use Rattle.flute_parts.specs.declared.key.Key.{Key}
use Rattle.flutejoin.specs.KeyLists.{KeyListFails, ListNames}
use Rattle.flutejoin.specs.declared.command_fault.CommandFault.{CommandFault}
use Rattle.flutejoin.specs.declared.command_fault.CommandFault.TheVariants.{Input, ListLine, OutOfMemory}
use Rattle.flutejoin_commands.specs.Files.{Files, HasBytes, IfFiles}
use Rattle.flutejoin_commands.specs.Lists.{AreListed, IsListOf, IsNoListOf, OfListed}
use Rattle.flutejoin_commands.proofs.OfNames.{told_of}

-- ---- an opened list, that was read

module _ (files : Option Files) (name : List ℕ) (known : Option (List ℕ))
    (h : HasBytes files name known) where
  pub listed : (r : Result (BTreeSet Key) CommandFault)
      → IfOk r (λ keys. IfSome known (λ bytes. ListNames bytes keys))
      → IfOk r (IsListOf files name)
  listed (Ok keys) named =
      told_of files name known h (λ k. IfSome k (λ bytes. ListNames bytes keys)) named
  listed (Err e) named = tt

  pub not_listed : (r : Result (BTreeSet Key) CommandFault)
      → IfErr r (λ fault. (fault ≡ Input 2 Read) ⊎ IfSome known (λ bytes. KeyListFails bytes fault))
      → IfErr r (λ fault. (fault ≡ Input 2 Read) ⊎ ((fault ≡ OutOfMemory)
      ⊎ ((line : ℕ) × (fault ≡ ListLine line))))
      → IfErr r (IsNoListOf files name)
  not_listed (Ok keys) why kind = tt
  not_listed (Err e) why (inl is) = inr (inr (inl is))
  not_listed (Err e) why (inr (inl is)) = inr (inl is)
  not_listed (Err e) (inl is) (inr (inr line)) = inr (inr (inl is))
  not_listed (Err e) (inr why) (inr (inr line)) =
      let told = told_of files name known h (λ k. IfSome k (λ bytes. KeyListFails bytes e)) why in
      inr (inr (inr (
        line.0,
        line.1,
        subst
            (λ f. IfFiles files (λ g. IfSome (g name) (λ text. KeyListFails text f))) line.1 told,
      )))

-- ---- an opened journal

-- it is there
pub is_there : (files : Option Files) (name : List ℕ) (known : Option (List ℕ))
    → HasBytes files name known → IfFiles files (λ f. IsSome (f name))
is_there None name known h = tt
is_there (Some files) name known h = subst IsSome h.0 h.1

-- what a command did with it
module _ (files : Option Files) (name : List ℕ) (known : Option (List ℕ))
    (h : HasBytes files name known) where
  pub printed_of : (P : Option (List ℕ) → Type 0) (done r : Result (Unit {0}) CommandFault)
      → OnOk done (P known) → IfErr done (λ fault. r ≡ Err fault)
      → OnOk r (IfFiles files (λ f. P (f name)))
  printed_of P done (Err e) p first = tt
  printed_of P (Ok x) (Ok u) p first = told_of files name known h P p
  printed_of P (Err e) (Ok u) p first = absurd cc

-- ---- with the objects that are listed

module _ (files : Option Files) (list : Option (List ℕ)) (keys : Option (BTreeSet Key))
    (h : AreListed files list keys) where
  pub with_list : (P : Option (BTreeSet Key) → Type 0) (r : Result (Unit {0}) CommandFault)
      → OnOk r (P keys) → OnOk r (OfListed files list P)
  with_list P (Ok u) p = (keys, h, p)
  with_list P (Err e) p = tt

  pub fails_with_list : (B : CommandFault → Type 0)
      (P : Option (BTreeSet Key) → CommandFault → Type 0) (r : Result (Unit {0}) CommandFault)
      → IfErr r (λ fault. B fault ⊎ P keys fault)
      → IfErr r (λ fault. B fault ⊎ OfListed files list (λ l. P l fault))
  fails_with_list B P (Ok u) p = tt
  fails_with_list B P (Err e) (inl b) = inl b
  fails_with_list B P (Err e) (inr p) = inr (keys, h, p)

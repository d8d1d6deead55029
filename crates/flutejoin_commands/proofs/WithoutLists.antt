-- Inputs joined, or not, without the objects of a list that was read, if there is one (specs/Works).
use Rattle.std.proofs.Common.{◌≡◌, ℕ, ◌+◌, List, length, Option, Some, None}
use Rattle.std.proofs.Common.{inl, inr, ap, ◌∙◌, subst, arith}
use Rattle.std.specs.Prelude.{Bool}
use Rattle.std.specs.BTreeSet.{BTreeSet}
use Rattle.flute_parts.specs.declared.key.Key.{Key}
use Rattle.flute_streams.specs.Objects.{listed}
use Rattle.flute_streams.specs.declared.choice.objects.Objects.{Objects}
use Rattle.flute_streams.specs.declared.choice.scope.Scope.{Scope}
use Rattle.flutejoin.specs.JoinFaults.{NamesOneOf}
use Rattle.flutejoin.specs.JoinParts.{NamesOnly}
use Rattle.flutejoin.specs.JoinWithout.{AreWithout}
use Rattle.flutejoin.specs.Joined.{Choice, choice_of, choice_without}
use Rattle.flutejoin.specs.KeyLists.{ListNames}
use Rattle.flutejoin.specs.Limits.{Limits}
use Rattle.flutejoin.specs.declared.command_fault.CommandFault.{CommandFault}
use Rattle.flutejoin.specs.declared.command_fault.CommandFault.TheVariants.{Input, UnknownKind}
use Rattle.flutejoin.specs.declared.join.join_counts.JoinCounts.{JoinCounts}
use Rattle.flutejoin.specs.declared.join.join_input.JoinInput.{JoinInput}
use Rattle.flutejoin_commands.specs.Works.{AreObjects, JoinsAll, JoinAllFails, JoinsBy, JoinByFails}
use Rattle.flutejoin_commands.specs.Works.{ObjectsFail}

-- the number of one of some inputs is that of one of them and a list
one_more : (count : ℕ) (fault : CommandFault) → NamesOneOf count fault
    → NamesOneOf (count + 1) fault
one_more count (Input told why) h = let few = h.1 in (h.0, omega (arith, few))
one_more count (UnknownKind told) h = let few = h.1 in (h.0, omega (arith, few))
one_more count _ h = tt

only_last : (count : ℕ) (fault : CommandFault) → NamesOnly (count + 1) fault
    → NamesOneOf (count + 1) fault
only_last count (Input told why) e = (omega (arith, e), omega (arith, e))
only_last count (UnknownKind told) e = (omega (arith, e), omega (arith, e))
only_last count _ e = tt

module _ {R : Type 0} (unread : R → Option (List ℕ)) (tells : Bool) (most : Limits)
    (sender : ℕ) (scope : Scope) (objects : Objects) (inputs : List (JoinInput R)) where
  abbrev choice : Option (BTreeSet Key) → Choice
  choice = choice_without most sender scope

  same_choice : (text : List ℕ) (are : AreWithout text scope objects)
      → choice_of most sender objects ≡ choice (Some are.keys)
  same_choice text are =
      ap (λ (s : Scope). choice_without most sender s (listed objects)) are.scope_is
      ∙ ap (λ (keys : Option (BTreeSet Key)). choice_without most sender scope keys) are.listed_are

  of_list : (text : List ℕ) → AreWithout text scope objects → (P : Choice → Type 0)
      → P (choice_of most sender objects)
      → (keys : BTreeSet Key) × ListNames text keys × P (choice (Some keys))
  of_list text are P p = (are.keys, are.names, subst P (same_choice text are) p)

  of_none : (objects.scope ≡ scope) × (listed objects ≡ None)
      → choice_of most sender objects ≡ choice None
  of_none are =
      ap (λ (s : Scope). choice_without most sender s (listed objects)) are.0
      ∙ ap (λ (keys : Option (BTreeSet Key)). choice_without most sender scope keys) are.1

  pub joined_by : (list : Option (Option (List ℕ))) → AreObjects scope list objects
      → (counts : JoinCounts) (old new : Option (List ℕ))
      → JoinsAll unread tells (choice_of most sender objects) inputs counts old new
      → JoinsBy unread tells choice list inputs counts old new
  joined_by None are counts old new j =
      subst (λ (c : Choice). JoinsAll unread tells c inputs counts old new) (of_none are) j
  joined_by (Some None) are counts old new j = tt
  joined_by (Some (Some text)) are counts old new j =
      of_list text are (λ (c : Choice). JoinsAll unread tells c inputs counts old new) j

  pub fails_by : (list : Option (Option (List ℕ))) → AreObjects scope list objects
      → (fault : CommandFault)
      → JoinAllFails unread tells (choice_of most sender objects) inputs fault
      → JoinByFails unread tells choice list inputs fault
  fails_by None are fault fails =
      subst (λ (c : Choice). JoinAllFails unread tells c inputs fault) (of_none are) fails
  fails_by (Some None) are fault fails =
      (inr (inr tt), one_more (length inputs) fault fails.1)
  fails_by (Some (Some text)) are fault fails = (
    inr (inr (of_list text are (λ (c : Choice). JoinAllFails unread tells c inputs fault) fails)),
    one_more (length inputs) fault fails.1,
  )

  pub unlisted_by : (list : Option (Option (List ℕ))) (fault : CommandFault)
      → ObjectsFail (length inputs + 1) list fault
      → JoinByFails unread tells choice list inputs fault
  unlisted_by None fault fails = absurd fails
  unlisted_by (Some list) fault (inl read, names) =
      (inl read, only_last (length inputs) fault names)
  unlisted_by (Some list) fault (inr bad, names) =
      (inr (inl bad), only_last (length inputs) fault names)

-- join: which bytes its inputs are (specs/Joins).
use Rattle.std.proofs.Common.{◌≡◌, ℕ, zero, suc, ◌==◌, true, false, List, [], ◌∷◌, length, Option}
use Rattle.std.proofs.Common.{Some, Result, Ok, Err, IfErr, inr, refl}
use Rattle.std.specs.Prelude.{slice_get}
use Rattle.flutejoin.specs.JoinFaults.{JoinToFails}
use Rattle.flutejoin.specs.JoinInputs.{AreInputs, IsInput}
use Rattle.flutejoin.specs.Joined.{Choice}
use Rattle.flutejoin.specs.declared.command_fault.CommandFault.{CommandFault}
use Rattle.flutejoin.specs.declared.join.join_input.JoinInput.{JoinInput}
use Rattle.flutejoin_c.specs.Joins.{NotJoined, inputs_of}

module _ {R : Type 0} (unread : R → Option (List ℕ)) where
  same : (x y : JoinInput R) (bs cs : List ℕ) → x ≡ y → bs ≡ cs
      → IsInput unread x bs → IsInput unread y cs
  same x y bs cs e f is = rw (← e, ← f) is

  pub one_input : (input : JoinInput R) (bytes : List ℕ) → IsInput unread input bytes
      → AreInputs unread (input ∷ []) (bytes ∷ [])
  one_input input bytes is = record { as_many = refl; each = each }
    where
      each : (k : ℕ) (x : JoinInput R) (bs : List ℕ) → slice_get (input ∷ []) k ≡ Some x
          → slice_get (bytes ∷ []) k ≡ Some bs → IsInput unread x bs
      each zero x bs e f = same input x bytes bs (cc) (cc) is
      each (suc k) x bs e f = absurd cc

  pub two_inputs : (input other : JoinInput R) (bytes others : List ℕ)
      → IsInput unread input bytes → IsInput unread other others
      → AreInputs unread (input ∷ other ∷ []) (bytes ∷ others ∷ [])
  two_inputs input other bytes others is is_other = record { as_many = refl; each = each }
    where
      each : (k : ℕ) (x : JoinInput R) (bs : List ℕ)
          → slice_get (input ∷ other ∷ []) k ≡ Some x
          → slice_get (bytes ∷ others ∷ []) k ≡ Some bs → IsInput unread x bs
      each zero x bs e f = same input x bytes bs (cc) (cc) is
      each (suc zero) x bs e f = same other x others bs (cc) (cc) is_other
      each (suc (suc k)) x bs e f = absurd cc

-- the first input has no bytes, or has some
pub alone : (first second : List ℕ) → (length first == 0) ≡ true
    → second ∷ [] ≡ inputs_of first second
alone first second e = rw e refl

pub both : (first second : List ℕ) → (length first == 0) ≡ false
    → first ∷ second ∷ [] ≡ inputs_of first second
both first second e = rw e refl

pub not_joined : {T : Type 0} (choice : Choice) (inputs : List (List ℕ))
    (r : Result T CommandFault) → IfErr r (JoinToFails choice inputs)
    → IfErr r (NotJoined choice inputs)
not_joined choice inputs (Ok t) h = tt
not_joined choice inputs (Err fault) h = inr h

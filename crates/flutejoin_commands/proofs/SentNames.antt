-- carousel: what was sent of an opened input, stated of its name.
use Rattle.std.proofs.Common.{rules, ◌⊎◌, ℕ, List, Option, Some, None, Result, Ok, Err}
use Rattle.std.proofs.Common.{IfErr}
use Rattle.std.proofs.Common.{inr, sym, subst}
use Rattle.std.specs.Prelude.{OnOk}
use Rattle.flute_parts.specs.declared.key.Key.{Key}
use Rattle.flutejoin_commands.specs.Works.{SendsRead, SendReadFails}
use Rattle.flutejoin.specs.declared.command_fault.CommandFault.{CommandFault}
use Rattle.flutejoin_commands.specs.Files.{Files, HasBytes}
use Rattle.flutejoin_commands.specs.Named.{MeasureFails, SendsName, SendNameFails}
use Rattle.flutejoin_commands.specs.Works.{datagrams_line}
use Rattle.flutejoin_commands.specs.Worlds.{IsAgain, Leaves, FailsToLeave, Outside}
use Rattle.flutejoin_commands.proofs.OfNames.{told_of, left_of, fails_told}

-- an input that has the same bytes has those of the name
pub again_has : (files : Option Files) (name : List ℕ) (old new : Option (List ℕ))
    → HasBytes files name old → IsAgain files old new → HasBytes files name new
again_has None name old new h a = tt
again_has (Some files) name None new h a = absurd (search rules)
again_has (Some files) name (Some bytes) new h a =
    subst (λ x. HasBytes (Some files) name x) (sym a) h

module _ (files : Option Files) (name : List ℕ) (known : Option (List ℕ))
    (h : HasBytes files name known) (key : Key) (symbol block : ℕ) where
  module _ (out : List ℕ) (old new : Outside) (r : Result (Unit {0}) CommandFault) where
    pub sent : OnOk r (Leaves (SendsRead known key symbol block)
        (SendsRead known key symbol block) datagrams_line out old new)
        → OnOk r (Leaves (SendsName files name key symbol block)
        (SendsName files name key symbol block) datagrams_line out old new)
    sent = left_of (λ (k : Option (List ℕ)). SendsRead k key symbol block)
        (λ (k : Option (List ℕ)). SendsRead k key symbol block)
        (λ (k : Option (List ℕ)). SendReadFails k key symbol block)
        files name known h out old new datagrams_line r

    pub not_sent : IfErr r (FailsToLeave (SendsRead known key symbol block)
        (SendReadFails known key symbol block) out old new)
        → IfErr r (FailsToLeave (SendsName files name key symbol block)
        (SendNameFails files name key symbol block) out old new)
    not_sent = elim r as (λ r. IfErr r (FailsToLeave (SendsRead known key symbol block)
        (SendReadFails known key symbol block) out old new)
        → IfErr r (FailsToLeave (SendsName files name key symbol block)
        (SendNameFails files name key symbol block) out old new)) [
          | Ok u ↦ λ l. tt
          | Err e ↦ λ l. fails_told (SendsRead known key symbol block)
              (SendsRead known key symbol block) (SendsName files name key symbol block)
              (SendsName files name key symbol block)
              (λ n o w. told_of files name known h (λ k. SendsRead k key symbol block n o w))
              (λ n o w. told_of files name known h (λ k. SendsRead k key symbol block n o w))
              out (SendReadFails known key symbol block) (SendNameFails files name key symbol block)
              old new e (λ w. inr (told_of files name known h
              (λ k. MeasureFails k e ⊎ SendReadFails k key symbol block e) (inr w))) l
        ]

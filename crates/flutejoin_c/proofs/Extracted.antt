-- extract: what is written of an object, or why not, stated of the bytes alone (specs/Objects).
use Rattle.std.proofs.Common.{ℕ, List, Option, Some, Result, Ok, Err, IfErr, IfOk}
use Rattle.flute_parts.specs.declared.key.Key.{Key}
use Rattle.flutejoin.specs.Extract.{AnswersFrom}
use Rattle.flutejoin.specs.Extract as writes
use Rattle.flutejoin.specs.Limits.{Limits}
use Rattle.flutejoin.specs.declared.command_fault.CommandFault.{CommandFault}
use Rattle.flutejoin.specs.declared.command_fault.CommandFault.TheVariants.{CannotWrite}
use Rattle.flutejoin.specs.declared.command_fault.CommandFault.TheVariants.{ConflictingInformation}
use Rattle.flutejoin.specs.declared.command_fault.CommandFault.TheVariants.{Full, Input, NoObject}
use Rattle.flutejoin.specs.declared.command_fault.CommandFault.TheVariants.{NoInformation, NotWhole}
use Rattle.flutejoin_c.specs.Objects.{ExtractFails, Extracts, IsNotGiven}

module _ {W : Type 0} (written : W → Option (List ℕ)) (most : Limits) (journal : List ℕ)
    (left : Option (List ℕ)) (key : Key) (old new : W) where
  abbrev Answers : Result ℕ CommandFault → Type 0
  Answers r = AnswersFrom most (Some journal) left (λ F. writes.Extracts written F key old new r) r

  pub extracted : (r : Result ℕ CommandFault) → Answers r
      → IfOk r (λ _. Extracts most journal key (written old) (written new))
  extracted (Ok n) a = record {
    entries = a.entries;
    journal_is = a.journal;
    within = a.within;
    info = a.holds.info;
    whole = a.holds.whole;
    bytes = a.holds.bytes;
  }
  extracted (Err fault) a = tt

  why : (fault : CommandFault) → Answers (Err fault)
      → AnswersFrom most (Some journal) left (λ F. IsNotGiven F key fault) (Err fault)
  why (Input number fault) a = a
  why Full a = a
  why NoObject a = record {
    entries = a.entries;
    journal = a.journal;
    read = a.read;
    within = a.within;
    holds = a.holds.0;
  }
  why NoInformation a = record {
    entries = a.entries;
    journal = a.journal;
    read = a.read;
    within = a.within;
    holds = a.holds.0;
  }
  why ConflictingInformation a = record {
    entries = a.entries;
    journal = a.journal;
    read = a.read;
    within = a.within;
    holds = a.holds.0;
  }
  why (NotWhole sbn esi) a = record {
    entries = a.entries;
    journal = a.journal;
    read = a.read;
    within = a.within;
    holds = a.holds;
  }
  why CannotWrite a = record {
    entries = a.entries;
    journal = a.journal;
    read = a.read;
    within = a.within;
    holds = (a.holds.info, a.holds.whole);
  }
  why fault a = absurd a.holds

  pub not_extracted : (r : Result ℕ CommandFault) → Answers r
      → IfErr r (λ fault. ExtractFails most journal key fault)
  not_extracted (Ok n) a = tt
  not_extracted (Err fault) a = (left, why fault a)

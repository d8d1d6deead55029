-- extract: what it writes, stated of the bytes alone and not of the sink (specs/Works).
use Rattle.std.proofs.Common.{ℕ, List, Option, Result, Ok, Err, IfErr, IfOk, ap}
use Rattle.flute_parts.specs.Facts.{Same}
use Rattle.flute_parts.specs.declared.key.Key.{Key}
use Rattle.flute_parts.specs.declared.fact.Fact.{Fact}
use Rattle.flutejoin.specs.Extract.{AnswersFrom, Extracts}
use Rattle.flutejoin.specs.declared.command_fault.CommandFault.{CommandFault}
use Rattle.flutejoin.specs.declared.command_fault.CommandFault.TheVariants.{Input}
use Rattle.flutejoin.specs.declared.command_fault.CommandFault.TheVariants.{Full}
use Rattle.flutejoin.specs.declared.command_fault.CommandFault.TheVariants.{NoObject, NoInformation}
use Rattle.flutejoin.specs.declared.command_fault.CommandFault.TheVariants.{ConflictingInformation}
use Rattle.flutejoin.specs.declared.command_fault.CommandFault.TheVariants.{NotWhole}
use Rattle.flutejoin.specs.declared.command_fault.CommandFault.TheVariants.{CannotWrite}
use Rattle.flutejoin.specs.Limits.{Limits}
use Rattle.flutejoin_commands.specs.Works.{WritesObject, ExtractFails}

-- the result stated of the sink follows from that stated of its bytes
of_bytes : {W : Type 0} (written : W → Option (List ℕ)) (F : List Fact) (key : Key) (old new : W)
    (r : Result ℕ CommandFault) → Extracts written F key old new r
    → Extracts (λ x. x) F key (written old) (written new) r
of_bytes written F key old new (Ok n) e = record {
  info = e.info;
  whole = e.whole;
  bytes =
      e.bytes;
  length_is = e.length_is;
  exact = e.exact;
}
of_bytes written F key old new (Err NoObject) e = (e.0, ap written e.1)
of_bytes written F key old new (Err NoInformation) e = (e.0, ap written e.1)
of_bytes written F key old new (Err ConflictingInformation) e = (e.0, ap written e.1)
of_bytes written F key old new (Err (NotWhole sbn esi)) e = e
of_bytes written F key old new (Err CannotWrite) e =
    record { info = e.info; whole = e.whole; bytes = e.bytes }
of_bytes written F key old new (Err fault) e = e

-- what holds of the entries under one reading holds under a weaker one
answers_map : (most : Limits) (input left : Option (List ℕ)) (P Q : List Fact → Type 0)
    (r : Result ℕ CommandFault) → ((F : List Fact) → P F → Q F) → AnswersFrom most input left P r
    → AnswersFrom most input left Q r
answers_map most input left P Q (Ok n) f a = record {
  entries = a.entries;
  journal = a.journal;
  read =
      a.read;
  within = a.within;
  holds = f a.entries a.holds;
}
answers_map most input left P Q (Err (Input x y)) f a = a
answers_map most input left P Q (Err Full) f a = a
answers_map most input left P Q (Err fault) f a = record {
  entries = a.entries;
  journal = a.journal;
  read = a.read;
  within = a.within;
  holds = f a.entries a.holds;
}

-- a call of extract: the object, and the input and the sink before and after
pub record Extraction (W : Type 0) : Type 0 where
  pub key : Key
  pub input : Option (List ℕ)
  pub left : Option (List ℕ)
  pub old : W
  pub new : W

module _ {W : Type 0} (written : W → Option (List ℕ)) (most : Limits) (x : Extraction W) where
  -- for any facts with the values of those of the journal, the sink has what is extracted of them
  abbrev SinkHas : Result ℕ CommandFault → List Fact → Type 0
  SinkHas r others = AnswersFrom most x.input x.left
      (λ F. Same F others → Extracts written others x.key x.old x.new r) r

  -- so do the bytes that it was given
  told_of_bytes : (r : Result ℕ CommandFault) (others : List Fact) → SinkHas r others
      → AnswersFrom most x.input x.left (λ F. Same F others
      → Extracts (λ y. y) others x.key (written x.old) (written x.new) r) r
  told_of_bytes r others a =
      answers_map most x.input x.left
      (λ F. Same F others → Extracts written others x.key x.old x.new r)
      (λ F. Same F others → Extracts (λ y. y) others x.key (written x.old) (written x.new) r) r
      (λ F f s. of_bytes written others x.key x.old x.new r (f s)) a

  pub object_written : (r : Result ℕ CommandFault) → ((others : List Fact) → SinkHas r others)
      → IfOk r (λ n. WritesObject most x.input x.key n (written x.old) (written x.new))
  object_written (Ok n) a = (x.left, λ others. told_of_bytes (Ok n) others (a others))
  object_written (Err e) a = tt

  pub object_fails : (r : Result ℕ CommandFault) → ((others : List Fact) → SinkHas r others)
      → IfErr r (λ fault. ExtractFails most x.input x.key fault)
  object_fails (Ok n) a = tt
  object_fails (Err e) a =
      (x.left, written x.old, written x.new, λ others. told_of_bytes (Err e) others (a others))

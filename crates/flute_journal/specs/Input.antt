-- What is read of a source whose bytes are known.
use Rattle.std.specs.Prelude.{◌≡◌, ℕ, ◌+◌, ◌<◌, ◌≤◌, ◌⊎◌, Bool, true}
use Rattle.std.specs.Prelude.{false, MatchBool, List, [], ◌++◌, length, Option, Some, Result}
use Rattle.std.specs.Prelude.{Ok, Err, IfSome, OnErr, MatchResult}
use Rattle.std.specs.Io.KnownBytes.{Consumes, IsAtEnd}
use Rattle.flute_journal.specs.declared.fault.ReadFault.{ReadFault}
use Rattle.flute_journal.specs.declared.fault.ReadFault.TheVariants as faults

-- at most n bytes were read
abbrev pub Advances : Option (List ℕ) → Option (List ℕ) → ℕ → Type 0
Advances old new n = (bytes : List ℕ) × Consumes old new bytes × (length bytes ≤ n)

-- reading gave these bytes: n of them, or fewer at the end of the input
pub record Fills (old new : Option (List ℕ)) (n : ℕ) (bytes : List ℕ) : Type 0 where
  pub read : Consumes old new bytes
  pub most : length bytes ≤ n
  pub fewer : length bytes < n → IsAtEnd new

-- reading gave these bytes: n of them, or fewer at the end of the input, or if the source failed
pub record ReadsUpTo (old new : Option (List ℕ)) (n : ℕ) (failed : Bool)
    (bytes : List ℕ) : Type 0 where
  pub read : Consumes old new bytes
  pub most : length bytes ≤ n
  pub fewer : length bytes < n → failed ≡ false → IsAtEnd new
  pub short : failed ≡ true → length bytes < n

-- a fault that a failing source leaves: the bytes before it may have one, but are not cut there
abbrev pub left_by : ReadFault → ReadFault
left_by faults.Cut = faults.Read
left_by f = f

-- what `or_failed` gives, whether or not the source failed after the bytes
abbrev pub or_failed : {T : Type 0} → Bool → Result T ReadFault → Result T ReadFault
or_failed false result = result
or_failed true (Ok x) = Err faults.Read
or_failed true (Err f) = Err (left_by f)

-- How often the source failed in a call that gave this: once at `Read`; never if a value
-- was given, the input ended or memory ran out; and at most once if the bytes before
-- it have another fault.
abbrev pub Fails : {T : Type 0} → ℕ → ℕ → Result T ReadFault → Type 0
Fails old new (Ok x) = new ≡ old
Fails old new (Err faults.Read) = new ≡ old + 1
Fails old new (Err faults.Cut) = new ≡ old
Fails old new (Err faults.OutOfMemory) = new ≡ old
Fails old new (Err f) = (new ≡ old) ⊎ (new ≡ old + 1)

-- and in one that reads only then
abbrev pub FailsIf : {T : Type 0} → Bool → ℕ → ℕ → Result T ReadFault → Type 0
FailsIf reads old new result = MatchBool reads (Fails old new result) (new ≡ old)

-- whatever follows these bytes, they have no fault but that they end too early
abbrev pub IsSettled : (List ℕ → Option ReadFault) → List ℕ → Type 0
IsSettled fault bytes = (more : List ℕ) → IfSome (fault (bytes ++ more)) (λ f. f ≡ faults.Cut)

-- memory is asked for once the bytes that were read, and others that were seen after them,
-- have no fault
pub record AsksMemory (fault : List ℕ → Option ReadFault) (old new : Option (List ℕ)) : Type 0 where
  pub read : List ℕ
  pub seen : List ℕ
  pub consumed : Consumes old new read
  pub follows : IfSome new (λ bytes. (rest : List ℕ) × (bytes ≡ seen ++ rest))
  pub settled : IsSettled fault (read ++ seen)

-- It is the first fault of the bytes that were left. A source may fail at any field: the bytes
-- that were read until then have no fault but that they end too early. Memory may run out where it
-- is asked for.
abbrev pub IsFaultOf : (List ℕ → Option ReadFault) → Option (List ℕ) → Option (List ℕ) → ReadFault
    → Type 0
IsFaultOf fault old new faults.Read =
    (part : List ℕ) × Consumes old new part × (fault part ≡ Some faults.Cut)
IsFaultOf fault old new faults.OutOfMemory = AsksMemory fault old new
IsFaultOf fault old new f = IfSome old (λ bytes. fault bytes ≡ Some f)

-- the same if the source may also fail after these bytes, which nothing may follow
abbrev pub IsFaultUpTo : List ℕ → (List ℕ → Option ReadFault) → Option (List ℕ) → Option (List ℕ)
    → ReadFault → Type 0
IsFaultUpTo whole fault old new faults.Read =
    IsFaultOf fault old new faults.Read ⊎ Consumes old new whole
IsFaultUpTo whole fault old new f = IsFaultOf fault old new f

-- a value was read, as it is spelled and no byte more; or the bytes have a fault
abbrev pub Reads : {T : Type 0} → (T → List ℕ) → (T → Type 0) → (List ℕ → Option ReadFault)
    → Option (List ℕ) → Option (List ℕ) → Result T ReadFault → Type 0
Reads spelling IsValid fault old new result =
    MatchResult result (λ x. IsValid x × Consumes old new (spelling x)) (IsFaultOf fault old new)

-- the bytes hold nothing after a whole value
abbrev pub IsWithin : {T : Type 0} → (T → List ℕ) → (T → Type 0) → List ℕ → Type 0
IsWithin {T} spelling IsValid bytes =
    (x : T) (more : List ℕ) → IsValid x → bytes ≡ spelling x ++ more → more ≡ []

-- if it failed, no byte after a whole value was read
abbrev pub StaysWithin : {T X : Type 0} → (T → List ℕ) → (T → Type 0) → Option (List ℕ)
    → Option (List ℕ) → Result X ReadFault → Type 0
StaysWithin spelling IsValid old new result =
    OnErr result ((part : List ℕ) × Consumes old new part × IsWithin spelling IsValid part)

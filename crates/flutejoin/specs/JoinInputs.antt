-- The inputs of a join: which bytes they are.
use Rattle.std.specs.Prelude.{◌≡◌, ℕ, List, [], length, take, drop, slice_get, Option, Some}
use Rattle.std.specs.Prelude.{if◌then◌else◌, nat_le}
use Rattle.std.specs.Io.KnownBytes.{prepend_known}
use Rattle.flute_journal.specs.Kinds.{HasKind, IsNeither}
use Rattle.flutejoin.specs.declared.join.join_input.JoinInput.{JoinInput}
use Rattle.flutejoin.specs.declared.join.join_input.JoinInput.TheVariants.{Journal, Datagrams}
use Rattle.flutejoin.specs.declared.join.join_input.JoinInput.TheVariants.{Unknown}
use Rattle.flutejoin.specs.declared.join.peeked_source.PeekedSource.{PeekedSource}
use Rattle.flute_journal.specs.declared.kind.Kind.TheVariants as kinds

-- the bytes of a source that were read ahead
abbrev pub front_of : {R : Type 0} → PeekedSource R → List ℕ
front_of source = take source.count source.first

-- what its buffer lends: nothing before those were given
abbrev pub buffer_of : {R : Type 0} → (R → List ℕ) → PeekedSource R → List ℕ
buffer_of buffered source =
    if nat_le source.count source.given then buffered source.source else []

module _ {R : Type 0} (unread : R → Option (List ℕ)) where
  -- what a source has left: of the bytes that were read ahead, and after them
  abbrev pub left : PeekedSource R → Option (List ℕ)
  left source = prepend_known (drop source.given (front_of source)) (unread source.source)

  -- the input is these bytes, and of the kind that their first four are of
  abbrev pub IsInput : JoinInput R → List ℕ → Type 0
  IsInput (Journal journal) bytes =
      HasKind kinds.Journal bytes × (left journal.stream.source ≡ Some bytes)
  IsInput (Datagrams source) bytes = HasKind kinds.Datagrams bytes × (left source ≡ Some bytes)
  IsInput Unknown bytes = IsNeither bytes

  -- each of the inputs is the bytes at its place
  pub record AreInputs (inputs : List (JoinInput R)) (contents : List (List ℕ)) : Type 0 where
    pub as_many : length inputs ≡ length contents
    pub each : (k : ℕ) (input : JoinInput R) (bytes : List ℕ)
        → slice_get inputs k ≡ Some input → slice_get contents k ≡ Some bytes
        → IsInput input bytes

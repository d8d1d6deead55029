-- Streams that are advanced together.
use Rattle.std.specs.Prelude.{◌≡◌, ◌≢◌, ℕ, zero, suc, List, [], ◌∷◌, ◌⊎◌, Option}
use Rattle.flute_parts.specs.declared.address.Address.{Address}
use Rattle.flute_journal.specs.declared.fault.LoadFault.{LoadFault}
use Rattle.flute_streams.specs.declared.merge.streams_fault.InputFault.{InputFault}
use Rattle.flute_streams.specs.Streams.{Behaviour, address_of, GoesOn, StopsAt, IsNew}

module _ {S : Type 0} (b : Behaviour S) where
  -- a stream is advanced if it holds that address, and is unchanged otherwise
  abbrev pub GoesOnAt : Option Address → S → S → Type 0
  GoesOnAt place old new =
      ((address_of (b.held old) ≡ place) × GoesOn b old new)
      ⊎ ((address_of (b.held old) ≢ place) × (new ≡ old))

  -- each stream that is at the address went on, and each other stayed
  abbrev pub GoOnAt : Option Address → List S → List S → Type 0
  GoOnAt place [] [] = Unit {0}
  GoOnAt place (s ∷ old) (t ∷ new) = GoesOnAt place s t × GoOnAt place old new
  GoOnAt place _ _ = ⊥

  -- those before this number were advanced, this one stopped at the fault, and those after
  -- it are unchanged
  abbrev pub StopAt : Option Address → ℕ → LoadFault → List S → List S → Type 0
  StopAt place zero fault (s ∷ old) (t ∷ new) =
      (address_of (b.held s) ≡ place) × StopsAt b s t fault × (new ≡ old)
  StopAt place (suc number) fault (s ∷ old) (t ∷ new) =
      GoesOnAt place s t × StopAt place number fault old new
  StopAt place _ fault _ _ = ⊥

  -- the stream with the fault's number failed as it went on
  abbrev pub StopsIn : Option Address → List S → List S → InputFault → Type 0
  StopsIn place old new fault = StopAt place fault.number fault.fault old new

  -- nothing was read of them
  abbrev pub AreNew : List S → Type 0
  AreNew [] = Unit {0}
  AreNew (s ∷ streams) = IsNew b s × AreNew streams

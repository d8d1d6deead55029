-- The datagrams of a file, handed on one by one.
use Rattle.std.specs.Prelude.{◌≡◌, ℕ, List, length, Option, IfSome}
use Rattle.flute_journal.specs.declared.fault.ReadFault.{ReadFault}
use Rattle.flute_journal.specs.declared.readers.each_datagram.EachFault.{EachFault}
use Rattle.flute_journal.specs.declared.readers.each_datagram.EachFault.TheVariants.{Read, Datagram}
use Rattle.flute_journal.specs.declared.readers.reader_state.ReaderState.{ReaderState}
use Rattle.flute_journal.specs.FileFraming.{file_framing}
use Rattle.flute_journal.specs.Framing.{HasFault, Sofar}
use Rattle.flute_journal.specs.Records.{IsFileWithin}

-- all datagrams of a file were taken, so many
pub record TakesFile {D : Type 0} (takes : D → List (List ℕ) → D → Type 0) (limit : ℕ)
    (unread : Option (List ℕ)) (old new : D) (count : ℕ) : Type 0 where
  pub datagrams : List (List ℕ)
  pub taken : takes old datagrams new
  pub file : IfSome unread (λ bytes. IsFileWithin limit bytes datagrams)
  pub number : count ≡ length datagrams

-- the first datagrams of a file were taken, and nothing behind them was read
pub record TakesFirst {D : Type 0} (takes : D → List (List ℕ) → D → Type 0) (limit : ℕ)
    (unread left : Option (List ℕ)) (state : ReaderState ℕ) (old new : D) : Type 0 where
  pub datagrams : List (List ℕ)
  pub taken : takes old datagrams new
  pub first : Sofar file_framing limit unread left state datagrams

-- what was taken before a fault: if it is one of the file, its datagrams before that
abbrev pub TakesBefore : {D F : Type 0} → (D → List (List ℕ) → D → Type 0)
    → (D → D → Type 0) → ℕ → Option (List ℕ) → D → D → EachFault F → Type 0
TakesBefore takes fails limit unread old new (Read f) =
    HasFault file_framing limit unread f
    × ((left : Option (List ℕ)) × (state : ReaderState ℕ)
    × TakesFirst takes limit unread left state old new)
TakesBefore takes fails limit unread old new (Datagram f) = fails old new

-- A stream whose parts are lent is advanced as one that owns them (specs/Loans).
use Rattle.std.proofs.Common.{rules}
use Rattle.flute_streams.proofs.Common.{LoadFault, Behaviour, GoesOn}
use Rattle.flute_streams.proofs.Common.{StopsAt}
use Rattle.flute_streams.specs.Loans.{lent_as}

module _ {S L : Type 0} (whole : L → S) (Same : L → L → Type 0) (b : Behaviour S) (s t : L)
    (same : (start : L) → Same start s → Same start t) where
  pub lent_goes_on : GoesOn b (whole s) (whole t) → GoesOn (lent_as whole Same b) s t
  lent_goes_on = search rules

  pub lent_stops : (f : LoadFault) → StopsAt b (whole s) (whole t) f
      → StopsAt (lent_as whole Same b) s t f
  lent_stops = search rules

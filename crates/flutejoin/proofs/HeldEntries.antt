-- The entry that is held of a journal is let go of, or none is held.
use Rattle.std.proofs.lemmas.Grind.{common_steps}
use Rattle.std.proofs.Common.{◌≡◌, ◌∙◌, ℕ, List, Option, Some, None, ap, arith, refl, sym}
use Rattle.std.specs.Borrow.{Bor}
use Rattle.std.specs.Io.KnownBytes.{Consumes}
use Rattle.std.specs.Prelude.{option_copied}
use Rattle.flute_parts.specs.Addresses.{address, fact_of}
use Rattle.flute_parts.specs.declared.address.Address.{Address}
use Rattle.flute_parts.specs.declared.fact.Fact.{Fact}
use Rattle.flute_parts.specs.declared.fact.FactRef.{FactRef}
use Rattle.flute_journal.specs.Framing.{GivesItem}
use Rattle.flute_journal.specs.HeldEntries.{address_of, fact_held, fact_in, left_behind}
use Rattle.flute_journal.specs.JournalFraming.{journal_framing}
use Rattle.flute_journal.specs.declared.readers.entry_fields.Before.{Before}
use Rattle.flute_journal.specs.declared.readers.held_entry.HeldEntry.{HeldEntry}
use Rattle.flute_journal.specs.declared.readers.reader_state.ReaderState.{ReaderState}

-- what was read up to the end of the entry that is held is read once that is let go of
pub let_go_after : (input u v : Option (List ℕ)) (held bytes : List ℕ) → Consumes u v held
    → Consumes input (left_behind held u) bytes → Consumes input v bytes
let_go_after = grind (arith, common_steps)

pub let_go_given : {limit : ℕ} {from to : ReaderState Before} {w : Option (List ℕ)} {f : Fact}
    (u v : Option (List ℕ)) (held : List ℕ) → Consumes u v held → GivesItem journal_framing limit
    from to w (left_behind held u) f → GivesItem journal_framing limit from to w v f
let_go_given {w} u v held taken g = record {
  told = g.told;
  open_before = g.open_before;
  valid = g.valid;
  in_order = g.in_order;
  within = g.within;
  goes_on = g.goes_on;
  bytes = let_go_after w u v _ _ taken g.bytes;
}

-- ---- what is lent of the entry that is held

module _ {r : Option FactRef} {b buffer : List ℕ} (e : HeldEntry)
    (lent : fact_in r ≡ fact_held b e) (of_buffer : b ≡ buffer) where
  pub one_held : {fact : FactRef} → r ≡ Some fact → fact_held buffer e ≡ Some (fact_of fact)
  one_held is = sym (cc) ∙ sym lent ∙ ap fact_in is

  pub none_held : r ≡ None → fact_held buffer e ≡ None
  none_held is = sym (cc) ∙ sym lent ∙ ap fact_in is

-- the address that is lent is that of the fact
pub address_held : (held : Option Fact) {r : Option (Bor Address)} {place : Bor Address}
    → option_copied r ≡ address_of held → r ≡ Some place
    → (f : Fact) × (held ≡ Some f) × (address f ≡ place.now)
address_held (Some f) lent is = (f, refl, grind (arith, lent, is))
address_held None lent is = absurd cc

pub none_addressed : (held : Option Fact) {r : Option (Bor Address)}
    → option_copied r ≡ address_of held → r ≡ None → held ≡ None
none_addressed (Some f) lent is = absurd cc
none_addressed None _ is = refl

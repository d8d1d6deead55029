-- Lists of facts, facts above them, and their journals.
use Rattle.std.proofs.Common.{◌≡◌, ◌≢◌, ℕ, List, [], ◌∷◌, ◌++◌, length, None, sym, ap, ◌∙◌, arith}
use Rattle.std.specs.List.{AllByRecursion}
use Rattle.flute_parts.specs.declared.address.Address.{Address}
use Rattle.flute_parts.specs.declared.fact.Fact.{Fact}
use Rattle.flute_parts.specs.declared.fact.Fact.TheVariants.{Info, InfoConflict}
use Rattle.flute_parts.specs.declared.fact.Fact.TheVariants.{Symbol, SymbolConflict}
use Rattle.flute_parts.specs.Addresses.{symbol_address}
use Rattle.flute_parts.specs.Facts.{fact_at, Same, Below}
use Rattle.flute_parts.proofs.Public.{Below-from_Same, Below-trans, fact_at-append, joined}
use Rattle.flute_parts.proofs.Public.{joined-none, Over-below, rising_unique}
use Rattle.flute_parts.proofs.Public.{Same-swap, Same-sym, Same-trans}
use Rattle.flute_store.specs.Held.{HasCell}
use Rattle.flute_journal.specs.declared.fault.ReadFault.{ReadFault}
use Rattle.flute_journal.specs.Journal.{Journal, IsJournal, IsJournalWithin}
use Rattle.flute_journal.specs.JournalFraming.{journal_framing}
use Rattle.flute_journal.specs.Framing.{Stops}
use Rattle.flute_journal.specs.Stores.{BeginsWith}
use Rattle.flute_journal.proofs.Public.{beyond, journal_parts, without_end-below}
use Rattle.flutejoin.specs.declared.limits.TheConstants.{MAX_ENTRIES}
use Rattle.flutejoin.proofs.Public.{Below-left}
use Rattle.flutejoin_replicas.specs.Held.{Capacity, IsOver}
use Rattle.flutejoin_replicas.specs.Outcome.{IsLonger}

pub Below-right : (F G : List Fact) → Below G (F ++ G)
Below-right F G =
    Below-trans G (G ++ F) (F ++ G) (Below-left G F)
    (Below-from_Same (G ++ F) (F ++ G) (Same-swap G F))

-- what passes a capacity passes it with more
pub IsOver-below : (F G : List Fact) (c : Capacity) → Below F G → IsOver F c → IsOver G c
IsOver-below F G c below over = Over-below F G c.sessions c.objects c.symbols below over

-- an address that has a value keeps one if facts are added
stays : (F G : List Fact) (a : Address) → Below F G → fact_at F a ≢ None → fact_at G a ≢ None
stays F G a below some none =
    some (sym (joined-none a (fact_at F a)) ∙ ap (joined a (fact_at F a)) (sym none) ∙ sym
    (fact_at-append F G a) ∙ below.each a ∙ none)

pub HasCell-below : (F G : List Fact) (f : Fact) → Below F G → HasCell F f → HasCell G f
HasCell-below F G (Info key info) below h =
    (h.0, stays F G (record { key = key; part = h.0 }) below h.1)
HasCell-below F G (InfoConflict key) below h =
    (h.0, stays F G (record { key = key; part = h.0 }) below h.1)
HasCell-below F G (Symbol key id bytes) below h = stays F G (symbol_address key id) below h
HasCell-below F G (SymbolConflict key id) below h = stays F G (symbol_address key id) below h

pub HasCells-below : (F G fs : List Fact) → Below F G → AllByRecursion (HasCell F) fs
    → AllByRecursion (HasCell G) fs
HasCells-below F G [] below h = tt
HasCells-below F G (f ∷ fs) below h =
    (HasCell-below F G f below h.0, HasCells-below F G fs below h.1)

pub Journal-of_same : (bs : List ℕ) (F G : List Fact) → Same F G → Journal bs F → Journal bs G
Journal-of_same bs F G same j = (
  j.0,
  record {
    valid = j.1.valid;
    rising = j.1.rising;
    same =
        Same-trans G F j.0 (Same-sym F G same) j.1.same;
  },
  j.2,
  j.3,
)

-- bytes are no journal and at fault too
pub never_both : (bs : List ℕ) (entries es : List Fact) (f : ReadFault)
    → IsJournalWithin MAX_ENTRIES bs entries → Stops journal_framing bs MAX_ENTRIES es f → ⊥
never_both bs entries es f j stops =
    let b = beyond j.are_items.told entries j.are_items.valid
    j.are_items.in_order (omega (arith, j.are_items.few)) j.bytes_are stops in
    omega (arith, b.1, j.are_items.few)

-- a journal stops its reader only after too many entries
pub too_many : (bs : List ℕ) (F es : List Fact) (f : ReadFault) → IsJournal bs F
    → Stops journal_framing bs MAX_ENTRIES es f → (f ≡ ReadFault.TooMany) × IsLonger F MAX_ENTRIES
too_many bs F es f (v, journal) stops =
    let j = journal_parts v bs F journal in
    let b = beyond v j.entries j.valid j.collects.rising j.small j.bytes_are
    stops in (
      b.0,
      record {
        entries = j.entries;
        rising = j.collects.rising;
        same = j.collects.same;
        many =
            b.1;
      },
    )

-- if one of two lists with the same values has more than so many addresses, the other has too
pub IsLonger-same : (F G : List Fact) (limit : ℕ) → Same F G → IsLonger F limit → IsLonger G limit
IsLonger-same F G limit same h =
    record {
      entries = h.entries;
      rising = h.rising;
      same =
          Same-trans G F h.entries (Same-sym F G same) h.same;
      many = h.many;
    }

pub not_longer : (F entries : List Fact) (bs : List ℕ) → IsJournalWithin MAX_ENTRIES bs entries
    → Same F entries → IsLonger F MAX_ENTRIES → ⊥
not_longer F entries bs j same h =
    let e = rising_unique h.entries entries h.rising j.are_items.in_order
    (Same-trans h.entries F entries (Same-sym F h.entries h.same) same) in
    let n : length h.entries ≡ length entries = ap length e in
    omega (arith, h.many, n, j.are_items.few)

-- a journal that begins with these entries contains their facts
pub begins_below : (bs : List ℕ) (F es : List Fact) → IsJournal bs F → BeginsWith MAX_ENTRIES bs es
    → Below es F
begins_below bs F es (v, j) begins =
    without_end-below v begins.are_items.told F es begins.rest j begins.are_items.valid begins.whole

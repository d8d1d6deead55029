-- HeldFiles::take: a datagram that was taken, or refused and counted.
use Rattle.std.proofs.Common.{◌≡◌, ◌<◌, ◌++◌, ◌↔◌, ℕ, zero, suc, List, Option, Some, None, true}
use Rattle.std.proofs.Common.{false, Result, Ok, Err, refl, ap, arith, append-nil, [], ◌∙◌, Bool}
use Rattle.std.specs.Prelude.{is_none}
use Rattle.flute_parts.specs.Information.{Information}
use Rattle.flute_parts.specs.declared.fact.Fact.{Fact}
use Rattle.flute_parts.specs.declared.key.Key.{Key}
use Rattle.flute_parts.specs.declared.symbol_id.SymbolId.{SymbolId}
use Rattle.flute_parts.specs.Facts.{Same}
use Rattle.flute_parts.proofs.Public.{Same-itself}
use Rattle.flute_wire.specs.Content.{Content}
use Rattle.flute_wire.specs.Datagram.{Spells}
use Rattle.flute_wire.specs.Refusals.{Applies, Refuses, rank}
use Rattle.flute_wire.specs.Reading.{packet, facts}
use Rattle.flute_wire.specs.declared.refusal.Refusal.{Refusal}
use Rattle.flute_wire.specs.Facts.{key_of, facts_of, info_facts, symbol_facts}
use Rattle.flute_wire.proofs.Public.{facts-refused, facts-Spells, packet-iff}
use Rattle.flute_streams.specs.Scopes.{chosen}
use Rattle.flute_store.specs.declared.taken.Taken.{Taken}
use Rattle.flute_store.specs.declared.taken.TakeFault.{TakeFault}
use Rattle.flute_store.specs.declared.taken.TakeFault.TheVariants.{Datagram}
use Rattle.flutejoin.specs.Joined.{Choice, facts_by, is_of_others}
use Rattle.flutejoin.specs.Refused.{is_refused}
use Rattle.flutejoin.proofs.join_lemmas.Held.{IsPassed}

abbrev pub IsPacket : List ℕ → Type 0
IsPacket d = (p : Content) × Spells d p

-- each datagram is a packet, or some refusal applies, and never both
pub record HasOneReading (d : List ℕ) : Type 0 where
  pub some : IsPacket d ↔ ((r : Refusal) → ¬ Applies r d)

pub is_refused-no : (d : List ℕ) → IsPacket d → is_refused d ≡ false
is_refused-no d p = ap is_none ((packet-iff d _).1 p.1)

pub is_refused-yes : (d : List ℕ) (r : Refusal) → HasOneReading d → Applies r d
    → is_refused d ≡ true
is_refused-yes d r one applies = go _ refl
  where
    go : (o : Option Content) → packet d ≡ o → is_none o ≡ true
    go None e = refl
    go (Some p) e = absurd (one.some.0 (p, (packet-iff d p).0 e) r applies)

-- where no refusal is the first to apply, none applies
none_applies : (d : List ℕ) → ((r : Refusal) → ¬ Refuses d r) → (n : ℕ) (r : Refusal)
    → rank r < n → ¬ Applies r d
none_applies d none zero r below applies = omega arith
none_applies d none (suc n) r below applies =
    none r (record { applies = applies; first = λ q before. none_applies d none n q (omega arith) })

pub is_packet : (d : List ℕ) → HasOneReading d → ((r : Refusal) → ¬ Refuses d r) → IsPacket d
is_packet d one none = one.some.1 (λ r. none_applies d none (suc (rank r)) r (omega arith))

-- what the call of a store says of its refusals
abbrev pub TellsRefusals : List ℕ → Result Taken TakeFault → Type 0
TellsRefusals d result = (r : Refusal) → (result ≡ Err (Datagram r)) ↔ Refuses d r

pub ok_is_packet : (d : List ℕ) (result : Result Taken TakeFault) (t : Taken) → HasOneReading d
    → TellsRefusals d result → result ≡ Ok t → IsPacket d
ok_is_packet d result t one tells is =
    is_packet d one (λ r refuses. let e = (tells r).1 refuses in cc)

-- a refused datagram gives nothing
pub refused_same : (sender : ℕ) (old new : List Fact) (d : List ℕ) (r : Refusal) → Applies r d
    → new ≡ old → Same new (old ++ facts sender d)
refused_same sender old new d r applies same =
    rw (facts-refused _ d r applies, append-nil old, same) (Same-itself _)

-- all facts of an object are taken, or none
module _ (takes : Key → Bool) (key : Key) where
  all_of : (i : Option Information) (s : Option (SymbolId × List ℕ)) → takes key ≡ true → chosen
      takes (info_facts key i ++ symbol_facts key s) ≡ info_facts key i ++ symbol_facts key s
  all_of None None e = refl
  all_of (Some i) None e = rw e refl
  all_of None (Some s) e = rw e refl
  all_of (Some i) (Some s) e = rw e refl

  none_of : (i : Option Information) (s : Option (SymbolId × List ℕ)) → takes key ≡ false
      → chosen takes (info_facts key i ++ symbol_facts key s) ≡ []
  none_of None None e = refl
  none_of (Some i) None e = rw e refl
  none_of None (Some s) e = rw e refl
  none_of (Some i) (Some s) e = rw e refl

-- What a datagram was read as, by whether its object is taken: a packet, or none.
module _ (choice : Choice) (d : List ℕ) where
  pub record IsTaken (p : Content) : Type 0 where
    pub told : facts_by choice d ≡ facts_of choice.sender p
    pub kept : is_refused d ≡ false
    pub own : is_of_others choice d ≡ false

  pub record IsNoPacket : Type 0 where
    pub none : facts_by choice d ≡ []
    pub refused : is_refused d ≡ true
    pub own : is_of_others choice d ≡ false

  pub packet_taken : (p : Content) → Spells d p → choice.takes (key_of choice.sender p) ≡ true
      → IsTaken p
  packet_taken p s e =
      let told = facts-Spells _ d p s in
      record {
        told = ap (chosen choice.takes) told ∙ all_of choice.takes _ _ _ e;
        kept = is_refused-no d (p, s);
        own = cc ((packet-iff d p).1 s);
      }

  pub packet_passed : (p : Content) → Spells d p → choice.takes (key_of choice.sender p) ≡ false
      → IsPassed choice d
  packet_passed p s e = record {
    none = cc (facts-Spells _ d p s, none_of choice.takes (key_of choice.sender p) p.info p.symbol e);
    kept = is_refused-no d (p, s);
    other = cc ((packet-iff d p).1 s);
  }

  pub no_packet : (r : Refusal) → Applies r d → ((p : Content) → ¬ Spells d p) → IsNoPacket
  no_packet r applies never = record {
    none = cc (facts-refused _ d r applies);
    refused = cc (go _ refl);
    own = cc (go _ refl);
  }
    where
      go : (o : Option Content) → packet d ≡ o → packet d ≡ None
      go None e = e
      go (Some p) e = absurd (never p ((packet-iff d p).0 e))

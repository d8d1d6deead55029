-- Lemmas on framed files, and what the calls of a reader give (specs/Framing).
use Rattle.std.proofs.Common.{rules}
use Rattle.flute_journal.proofs.Common.{◌≡◌, ℕ, ◌+◌, ◌<◌, List, [], ◌∷◌, ◌++◌, length, drop}
use Rattle.flute_journal.proofs.Common.{drop_at, Option, Some, None, Result, Ok, Err, IsTrue, true}
use Rattle.flute_journal.proofs.Common.{refl, ap, ◌∙◌, arith, IfSome, IfErr, Consumes}
use Rattle.flute_journal.proofs.Common.{Consumes-trans, ReadFault, IsFaultOf}
use Rattle.flute_journal.proofs.Common.{StaysWithin}
use Rattle.flute_journal.proofs.framing_lemmas.ReadsUpTo.{IsBehind, asked, fault_up_to}
use Rattle.flute_journal.proofs.framing_lemmas.ReadsUpTo.{fault_up_to-behind}
use Rattle.flute_journal.specs.declared.fault.ReadFault.TheVariants as faults
use Rattle.flute_journal.specs.declared.readers.reader_state.ReaderState.{ReaderState}
use Rattle.flute_journal.specs.declared.readers.reader_state.ReaderState.TheVariants.{Header, Items}
use Rattle.flute_journal.specs.Input.{Advances}
use Rattle.flute_journal.specs.Framing.{Framing, or_else, is_open, ReadsNext, ReadsFrom, count_at}
use Rattle.flute_journal.specs.Framing.{place_at, end_bytes, fault_from, state_after, Gives}
use Rattle.flute_journal.specs.Framing.{GivesItem, in_opening, in_item}

-- a header is read back, and a place counts the items before it
pub record IsSound {V P T : Type 0} (framing : Framing V P T) : Type 0 where
  pub header_size : (told : T) → length (framing.frame.header told) ≡ 6
  pub header_passes : (told : T) (r : List ℕ)
      → framing.header_fault (framing.frame.header told ++ r) ≡ None
  pub header_told : (told : T) (r : List ℕ)
      → framing.told_in (framing.frame.header told ++ r) ≡ told
  pub header_is : (y : List ℕ) → framing.header_fault y ≡ None
      → y ≡ framing.frame.header (framing.told_in y) ++ drop 6 y
  pub told_is : (told : T) (xs : List V) → framing.told (framing.place_after told xs) ≡ told
  pub counted : (told : T) (xs : List V) → framing.count (framing.place_after told xs) ≡ length xs
  pub next_is : (told : T) (xs : List V) (x : V)
      → framing.next (framing.place_after told xs) x ≡ framing.place_after told (xs ++ x ∷ [])
  pub next_counted : (place : P) (x : V)
      → framing.count (framing.next place x) ≡ framing.count place + 1
  pub none_in_order : framing.frame.AreInOrder []
  pub more_in_order : (told : T) (xs : List V) (x : V) → framing.frame.AreInOrder xs
      → IsTrue (framing.may_follow (framing.place_after told xs) x)
      → framing.frame.AreInOrder (xs ++ x ∷ [])

known_header : (u : Option (List ℕ)) (p q : List ℕ → Option ReadFault) (f : ReadFault)
    → IfSome u (λ bs. p bs ≡ Some f) → IfSome u (λ bs. or_else (p bs) (q bs) ≡ Some f)
known_header x0 x1 x2 x3 x4 = search rules

-- a fault of the header is one of header and item, if memory did not run out
fault-first : (u v : Option (List ℕ)) (p q : List ℕ → Option ReadFault) (f : ReadFault) →
    (f ≡ faults.OutOfMemory → ⊥) → IsFaultOf p u v f → IsFaultOf (λ bs. or_else (p bs) (q bs)) u v f
fault-first u v p q faults.Read some h = (h.0, h.1, ap (λ o. or_else o (q h.0)) h.2)
fault-first u v p q faults.OutOfMemory some h = absurd (some refl)
fault-first u v p q f some h = known_header u p q f h

-- What a call gives, in each state: the end, an item, or a fault.
module _ {V P T : Type 0} (framing : Framing V P T) where
  -- the next item, the end or a fault was read at this place, and nothing after a whole item
  pub record ReadsWithin (limit : ℕ) (place : P) (u v : Option (List ℕ))
      (r : Result (Option V) ReadFault) : Type 0 where
    pub next : ReadsNext framing limit place u v r
    pub within : StaysWithin (framing.frame.item (framing.told place))
        (framing.frame.IsItem (framing.told place)) u v r
    pub possible : IfErr r framing.IsFault

  pub reads_on : {limit : ℕ} (told : T) {place : P} {u v : Option (List ℕ)}
      (r : Result (Option V) ReadFault) → ReadsWithin limit place u v r
      → ReadsFrom framing told limit (Items place) u v r
  reads_on {limit = limit} told {place = place} {u = u} {v = v} (Err f) h =
      let w = h.within in
      record {
        fault = h.next;
        possible = h.possible;
        asks = search rules;
        part = w.0;
        read = w.1;
        is_part = in_item w.0 refl w.2;
      }
  reads_on told (Ok other) h = h.next

  pub gives : (limit : ℕ) (told : T) (old : ReaderState P) {new : ReaderState P}
      (u v : Option (List ℕ)) (r : Result (Option V) ReadFault) → new ≡ state_after framing
      (place_at framing told old) r → (is_open old ≡ true) × ReadsFrom framing told limit old u v r
      → Gives framing limit old new u v r
  gives x0 x1 x2 x3 x4 x5 x6 x7 = search rules

  -- the same of a state that is known by an equation
  pub gives_from : (limit : ℕ) (told : T) {at old new : ReaderState P} (u v : Option (List ℕ))
      (r : Result (Option V) ReadFault) → old ≡ at → new ≡ state_after framing
      (place_at framing told at) r → (is_open at ≡ true) × ReadsFrom framing told limit at u v r →
      Gives framing limit old new u v r
  gives_from limit told {at = at} {new = new} u v r is after h = search rules

module _ {V P T : Type 0} {framing : Framing V P T} (sound : IsSound framing) where
  pub reads_header : (limit : ℕ) (told : T) (u v : Option (List ℕ)) {f : ReadFault}
      → IsFaultOf framing.header_fault u v f → (f ≡ faults.OutOfMemory → ⊥)
      → framing.IsFault f → Advances u v 6 → ReadsFrom framing told limit Header u v (Err f)
  reads_header limit told u v {f = f} h some k a = record {
    fault = fault_up_to (end_bytes framing told Header) (fault_from framing Header limit) u v f
        (fault-first u v framing.header_fault
        (λ bs. framing.next_fault (framing.place_after (framing.told_in bs) []) limit
        (drop 6 bs)) f some h);
    possible = k;
    asks = λ e. absurd (some e);
    part = a.0;
    read = a.1;
    is_part = in_opening (omega (arith, a.2, sound.header_size told));
  }

  -- the fault of the bytes of a header, and of what follows it
  header_comes : (limit : ℕ) (told : T) (r : List ℕ) → fault_from framing Header limit
      (framing.frame.header told ++ r) ≡ framing.next_fault (framing.place_after told []) limit r
  header_comes limit told r =
      let whole = framing.frame.header told ++ r in
      ap (λ o. or_else o (framing.next_fault (framing.place_after (framing.told_in whole) []) limit
      (drop 6 whole))) (sound.header_passes told r)
      ∙ ap (λ (t : T). framing.next_fault (framing.place_after t []) limit (drop 6 whole))
      (sound.header_told told r)
      ∙ ap (λ (x : List ℕ). framing.next_fault (framing.place_after told []) limit x)
      (drop_at (framing.frame.header told) r 6 (sound.header_size told))

  pub reads_first : {limit : ℕ} (told : T) (u : Option (List ℕ)) {v w : Option (List ℕ)}
      (r : Result (Option V) ReadFault) → Consumes u v (framing.frame.header told) → ReadsWithin
      framing limit (framing.place_after told []) v w r → ReadsFrom framing told limit Header u w r
  reads_first told u {v = v} {w = w} (Ok (Some x)) took h = (
    h.next.0,
    h.next.1,
    h.next.2,
    Consumes-trans u v w (framing.frame.header told)
        (framing.frame.item (framing.told (framing.place_after told [])) x) took h.next.3,
  )
  reads_first told u {v = v} {w = w} (Ok None) took h = (
    Consumes-trans u v w
        (framing.frame.header told) (framing.frame.end (framing.count (framing.place_after told [])))
        took h.next.0,
    h.next.1,
  )
  reads_first {limit = limit} told u {v = v} {w = w} (Err f) took h =
      let place = framing.place_after told [] in
      let behind : IsBehind u v (framing.frame.header told) (fault_from framing Header limit)
      (framing.next_fault place limit) = record { took = took; comes = header_comes limit told } in
      let s = h.within in
      record {
        fault = fault_up_to-behind w (framing.frame.end (framing.count place)) f behind h.next;
        possible = h.possible;
        asks = λ e. (
          v,
          took,
          asked (framing.frame.end (framing.count place))
              (framing.next_fault place limit) v w f h.next e,
        );
        part = framing.frame.header told ++ s.0;
        read = Consumes-trans u v w (framing.frame.header told) s.0 took s.1;
        is_part = in_item s.0 refl s.2;
      }

  counted_at : (told : T) (state : ReaderState P)
      → framing.count (place_at framing told state) ≡ count_at framing state
  counted_at told other = search rules

  -- an item more was given, within the limit
  pub one_given : (limit : ℕ) (old new : ReaderState P) (u v : Option (List ℕ)) (x : V)
      → GivesItem framing limit old new u v x
      → (count_at framing new ≡ count_at framing old + 1) × (count_at framing old < limit)
  one_given limit old new u v x g = search rules

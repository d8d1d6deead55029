-- A framed file that is read item by item: Sofar and GivesFault (specs/Framing).
use Rattle.std.proofs.lemmas.Grind.{common_steps}
use Rattle.std.proofs.Common.{rules}
use Rattle.flute_journal.proofs.Common.{◌≡◌, ℕ, ◌<◌, List, [], ◌∷◌, ◌++◌, length, drop, Option}
use Rattle.flute_journal.proofs.Common.{Some, None, Ok, IsTrue, true, inl, inr, refl, sym, ap, ◌∙◌}
use Rattle.flute_journal.proofs.Common.{subst, arith, append_assoc, length-append}
use Rattle.flute_journal.proofs.Common.{IfSome, Consumes}
use Rattle.flute_journal.proofs.Common.{Consumes-trans, Consumes-whole, IsAtEnd, IsSettled}
use Rattle.flute_journal.proofs.Common.{ReadFault}
use Rattle.flute_journal.proofs.Each.{all_more}
use Rattle.flute_journal.proofs.framing_lemmas.Framed.{IsSound}
use Rattle.flute_journal.specs.declared.fault.ReadFault.TheVariants as faults
use Rattle.flute_journal.specs.declared.readers.reader_state.ReaderState.{ReaderState}
use Rattle.flute_journal.specs.declared.readers.reader_state.ReaderState.TheVariants.{Header, Items}
use Rattle.flute_journal.specs.declared.readers.reader_state.ReaderState.TheVariants.{Ended, Failed}
use Rattle.flute_journal.specs.Framing.{Framing, or_else, is_open, Stops, in_header, after_items}
use Rattle.flute_journal.specs.Framing.{HasFault, MayRunOut, AsksForItem, place_at, opening}
use Rattle.flute_journal.specs.Framing.{fault_from, GivesItem, GivesFault, Gives, IsPart}
use Rattle.flute_journal.specs.Framing.{in_opening, in_item, IsAtFault, state_at, read_of, Sofar}
use Rattle.flute_journal.specs.Frame.{up_to_end, AreItems, IsWhole}

-- an input that was read to the end of its file
pub record AtEnd {V P T : Type 0} (framing : Framing V P T) (limit : ℕ)
    (input left : Option (List ℕ)) (items : List V) : Type 0 where
  pub are_items : AreItems framing.frame limit items
  pub read : Consumes input left
      (up_to_end framing.frame are_items.told items ++ framing.frame.end (length items))
  pub at_end : IsAtEnd left

-- an input of which these items are settled, and one is held or the end was read
abbrev pub Side : {V P T : Type 0} → Framing V P T → ℕ → Option (List ℕ) → Option (List ℕ)
    → ReaderState P → List V → Option V → Type 0
Side framing limit input left state settled (Some x) =
    Sofar framing limit input left state (settled ++ x ∷ [])
Side framing limit input left state settled None = AtEnd framing limit input left settled

-- a fault after these items, and what was read up to it
pub record FaultAfter {V P T : Type 0} (framing : Framing V P T) (limit : ℕ)
    (u x w : Option (List ℕ)) (items : List V) (f : ReadFault) : Type 0 where
  pub are_items : AreItems framing.frame limit items
  pub before_it : Consumes u x (read_of framing are_items.told items)
  pub at_fault : IsAtFault framing are_items.told limit (state_at framing are_items.told items) x w
      f

module _ {V P T : Type 0} (framing : Framing V P T) where
  state_more : (t : T) (xs : List V) (x : V)
      → Items (framing.place_after t (xs ++ x ∷ [])) ≡ state_at framing t (xs ++ x ∷ [])
  state_more x0 x1 x2 = grind (arith, common_steps)

  read_more : (t : T) (xs : List V) (x : V) → read_of framing t xs ++
      (opening framing t (state_at framing t xs) ++ framing.frame.item t x) ≡ read_of framing t
      (xs ++ x ∷ [])
  read_more x0 x1 x2 = grind (arith, common_steps)

  -- no item is held back before the next one
  pub all_read : (t : T) (xs : List V) (end : List ℕ) → read_of framing t xs ++
      (opening framing t (state_at framing t xs) ++ end) ≡ up_to_end framing.frame t xs ++ end
  all_read x0 x1 x2 = search rules

  pub read_some : (t : T) (xs : List V) (x : V)
      → read_of framing t (xs ++ x ∷ []) ≡ up_to_end framing.frame t (xs ++ x ∷ [])
  read_some x0 x1 x2 = grind (arith, common_steps)

  open_at : (t : T) (xs : List V) → is_open (state_at framing t xs) ≡ true
  open_at x0 x1 = search rules

  not_ended : (t : T) (xs : List V) → state_at framing t xs ≡ Ended → ⊥
  not_ended x0 x1 x2 = search rules

  not_failed : (t : T) (xs : List V) (f : ReadFault) → state_at framing t xs ≡ Failed f → ⊥
  not_failed x0 x1 x2 x3 = search rules

  -- the state of a reader, given what the header contains that is still to be read
  record Placed (told : T) (limit : ℕ) (u v : Option (List ℕ)) (state : ReaderState P) (xs : List V)
      : Type 0 where
    are_items : AreItems framing.frame limit xs
    read : Consumes u v (read_of framing are_items.told xs)
    place : place_at framing told state ≡ framing.place_after are_items.told xs
    start : opening framing told state ≡ opening framing are_items.told
        (state_at framing are_items.told xs)

  placed : (told : T) (limit : ℕ) (u v : Option (List ℕ)) (state : ReaderState P) (xs : List V)
      → Sofar framing limit u v state xs → Placed told limit u v state xs
  placed told limit u v state [] s = record {
    are_items = record {
      told = told;
      valid = tt;
      in_order = s.are_items.in_order;
      few = s.are_items.few;
    };
    read = s.read;
    place = ap (place_at framing told) s.state_is;
    start = ap (opening framing told) s.state_is;
  }
  placed told limit u v state (y ∷ ys) s = record {
    are_items = s.are_items;
    read = s.read;
    place = ap (place_at framing told) s.state_is;
    start = ap (opening framing told) s.state_is;
  }

  part_of : (t told : T) (place : P) (part : List ℕ) → IsPart framing t (Items place) part
      → IsPart framing told (Items place) part
  part_of t told place part (in_opening few) = in_opening few
  part_of t told place part (in_item more e w) = in_item more e w

module _ {V P T : Type 0} {framing : Framing V P T} where
  pub open_after : (limit : ℕ) (u v : Option (List ℕ)) (state : ReaderState P) (xs : List V)
      → Sofar framing limit u v state xs → IsTrue (is_open state)
  open_after limit u v state xs s = search rules

  -- the fault of a call is the fault after the items that were read

  fault_after : {told : T} {limit : ℕ} {u x w : Option (List ℕ)} {state : ReaderState P}
      (xs : List V) {f : ReadFault} → Sofar framing limit u x state xs
      → IsAtFault framing told limit state x w f → FaultAfter framing limit u x w xs f
  fault_after {told = told} {limit = limit} {x = x} {w = w} [] {f = f} s h = record {
    are_items = record {
      told = told;
      valid = tt;
      in_order = s.are_items.in_order;
      few = s.are_items.few;
    };
    before_it = s.read;
    at_fault = subst (λ (z : ReaderState P). IsAtFault framing told limit z x w f) s.state_is h;
  }
  fault_after {told = told} {limit = limit} {x = x} {w = w} (y ∷ ys) {f = f} s h =
      let t = s.are_items.told in
      let g = subst (λ (z : ReaderState P). IsAtFault framing told limit z x w f) s.state_is h in
      record {
        are_items = s.are_items;
        before_it = s.read;
        at_fault = record {
          fault = g.fault;
          possible = g.possible;
          asks = g.asks;
          part = g.part;
          read = g.read;
          is_part = part_of framing told t (framing.place_after t (y ∷ ys)) g.part g.is_part;
        };
      }

  pub found_now : {limit : ℕ} {u x w : Option (List ℕ)} {old new : ReaderState P} {xs : List V}
      {f : ReadFault} → Sofar framing limit u x old xs → GivesFault framing limit old new x w f
      → FaultAfter framing limit u x w xs f
  found_now {xs = xs} {f = f} s h = elim h.found [
    | inl p ↦ search rules
    | inr p ↦ fault_after xs s p.1
  ]

module _ {V P T : Type 0} {framing : Framing V P T} (sound : IsSound framing) where
  -- before the first call nothing was read
  pub sofar-none : (told : T) (limit : ℕ) (u : Option (List ℕ)) → Sofar framing limit u u Header []
  sofar-none told limit u = search rules

  -- a call that gives an item adds it to those that were read
  pub sofar-next : {limit : ℕ} {u v w : Option (List ℕ)} {old new : ReaderState P} {xs : List V}
      {x : V} → Sofar framing limit u v old xs
      → GivesItem framing limit old new v w x → Sofar framing limit u w new (xs ++ x ∷ [])
  sofar-next {limit = limit} {u = u} {v = v} {w = w} {old = old} {new = new} {xs = xs} {x = x} s h =
      let p = placed framing h.told limit u v old xs s in
      let a = p.are_items in
      let t = a.told in
      let told : framing.told (place_at framing h.told old) ≡ t = ap framing.told p.place ∙
      sound.told_is t xs in
      let valid : framing.frame.IsItem t x = subst (λ (z : T). framing.frame.IsItem z x) told
      h.valid in
      let follows : IsTrue (framing.may_follow (framing.place_after t xs) x) = subst
      (λ (z : P). IsTrue (framing.may_follow z x)) p.place h.in_order in
      let within : length xs < limit = subst (λ n. n < limit)
      (ap framing.count p.place ∙ sound.counted t xs) h.within in
      let goes : new ≡ Items (framing.place_after t (xs ++ x ∷ [])) = h.goes_on ∙ ap
      (λ (z : P). Items (framing.next z x)) p.place ∙ ap Items (sound.next_is t xs x) in
      let bytes : Consumes v w (opening framing t (state_at framing t xs) ++ framing.frame.item t x)
      = subst (Consumes v w) (λ i. p.start i ++ framing.frame.item (told i) x) h.bytes in record {
        are_items = record {
          told = t;
          valid = all_more (framing.frame.IsItem t) xs x a.valid valid;
          in_order = sound.more_in_order t xs x a.in_order follows;
          few = omega (arith, within, length-append xs (x ∷ []));
        };
        state_is = goes ∙ state_more framing t xs x;
        read = subst (Consumes u w) (read_more framing t xs x) (Consumes-trans u v w
            (read_of framing t xs)
            (opening framing t (state_at framing t xs) ++ framing.frame.item t x) p.read bytes);
      }

  -- a reader that has read these items gives an item or the end
  pub side-from : {limit : ℕ} {u v : Option (List ℕ)} (w : Option (List ℕ)) {old : ReaderState P}
      (new : ReaderState P) {settled : List V} (o : Option V) → Sofar framing limit u v old settled
      → Gives framing limit old new v w (Ok o) → Side framing limit u w new settled o
  side-from w new (Some x) s g = sofar-next s g
  side-from {limit = limit} {u = u} {v = v} w {old = old} new {settled = settled} None s g = elim
      g.bytes [
        | inl b ↦ absurd (not_ended framing s.are_items.told settled (sym s.state_is ∙ b.0))
        | inr b ↦ let p = placed framing g.told limit u v old settled s in
            let t = p.are_items.told in
            let count : framing.count (place_at framing g.told old) ≡ length settled = ap
            framing.count p.place ∙ sound.counted t settled in
            let start = opening framing t (state_at framing t settled) in
            let last : Consumes v w (start ++ framing.frame.end (length settled)) = subst
            (Consumes v w) (λ i. p.start i ++ framing.frame.end (count i)) b.1 in record {
              are_items = p.are_items;
              read = subst (Consumes u w)
                  (all_read framing t settled (framing.frame.end (length settled))) (Consumes-trans
                  u v w (read_of framing t settled) (start ++ framing.frame.end (length settled))
                  p.read last);
              at_end = b.2;
            }
      ]

  -- a file that was read to its end
  pub whole-at : (limit : ℕ) (u w : Option (List ℕ)) (items : List V)
      → AtEnd framing limit u w items → IfSome u (λ bytes. IsWhole framing.frame limit bytes items)
  whole-at limit u w items s = Consumes-whole u w
      (up_to_end framing.frame s.are_items.told items ++ framing.frame.end (length items))
      (λ bytes. IsWhole framing.frame limit bytes items) s.read s.at_end
      (record { are_items = s.are_items; bytes_are = refl })

  -- the bytes have the fault at which reading stopped

  from_header : (limit : ℕ) (y : List ℕ) (f : ReadFault) (o : Option ReadFault)
      → framing.header_fault y ≡ o
      → or_else o (framing.next_fault (framing.place_after (framing.told_in y) []) limit
      (drop 6 y)) ≡ Some f → Stops framing y limit [] f
  from_header limit y f (Some g) e h = in_header refl (e ∙ h)
  from_header limit y f None e h =
      let t = framing.told_in y in
      after_items
      (record { are_items = search rules; rest = drop 6 y; whole = search rules; first = h })

  pub stops_at : (limit : ℕ) (x y : List ℕ) (xs : List V) (f : ReadFault)
      (a : AreItems framing.frame limit xs) → x ≡ read_of framing a.told xs ++ y → fault_from
      framing (state_at framing a.told xs) limit y ≡ Some f → Stops framing x limit xs f
  stops_at limit x y [] f a took h = subst (λ (z : List ℕ). Stops framing z limit [] f) (sym took)
      (from_header limit y f (framing.header_fault y) refl h)
  stops_at limit x y (z ∷ zs) f a took h =
      after_items (record { are_items = a; rest = y; whole = took; first = h })

  pub stops_by : (limit : ℕ) (u x : Option (List ℕ)) (xs : List V) (f : ReadFault)
      (a : AreItems framing.frame limit xs) → Consumes u x (read_of framing a.told xs)
      → IfSome x (λ y. fault_from framing (state_at framing a.told xs) limit y ≡ Some f)
      → IfSome u (λ z. Stops framing z limit xs f)
  stops_by x0 x1 x2 x3 x4 x5 x6 x7 = search (rules, stops_at)

  -- a fault after these items is one at which the bytes stop
  some_stop : (limit : ℕ) (u : Option (List ℕ)) (xs : List V) (f : ReadFault)
      → IfSome u (λ z. Stops framing z limit xs f)
      → IfSome u (λ z. (items : List V) × Stops framing z limit items f)
  some_stop x0 x1 x2 x3 x4 = search rules

  place_same : (t : T) (xs : List V)
      → place_at framing t (state_at framing t xs) ≡ framing.place_after t xs
  place_same x0 x1 = search rules

  -- memory ran out after these items
  run_out : {limit : ℕ} (u w : Option (List ℕ)) {xs : List V} (a : AreItems framing.frame limit xs)
      (read seen : List ℕ) → Consumes u w
      (read_of framing a.told xs ++ (opening framing a.told (state_at framing a.told xs) ++ read)) →
      IfSome w (λ bytes. (rest : List ℕ) × (bytes ≡ seen ++ rest)) → IsSettled
      (framing.next_fault (place_at framing a.told (state_at framing a.told xs)) limit)
      (read ++ seen) → IfSome u (λ bytes. (items : List V) × MayRunOut framing bytes limit items)
  run_out None w a read seen took follows settled = tt
  run_out (Some z) None a read seen took follows settled = absurd took
  run_out {limit = limit} (Some z) (Some y) {xs = xs} a read seen took follows settled =
      let t = a.told in
      let start = read_of framing t xs ++ (opening framing t (state_at framing t xs) ++ read) in
      let front = up_to_end framing.frame t xs in
      let rest = follows.0 in (
        xs,
        record {
          are_items = a;
          seen = read ++ seen;
          rest = rest;
          whole = took ∙ ap (λ (l : List ℕ). start ++ l) follows.1 ∙ ap
              (λ (l : List ℕ). l ++ (seen ++ rest)) (all_read framing t xs read) ∙ append_assoc front
              read (seen ++ rest) ∙ ap (λ (l : List ℕ). front ++ l)
              (sym (append_assoc read seen rest));
          settled = subst (λ (p : P). IsSettled (framing.next_fault p limit) (read ++ seen))
              (place_same t xs) settled;
        },
      )

  asked_behind : (limit : ℕ) (u x w : Option (List ℕ)) (xs : List V)
      (a : AreItems framing.frame limit xs) → Consumes u x (read_of framing a.told xs)
      → AsksForItem framing a.told limit (state_at framing a.told xs) x w
      → IfSome u (λ bytes. (items : List V) × MayRunOut framing bytes limit items)
  asked_behind limit u x w xs a before asks =
      let start = opening framing a.told (state_at framing a.told xs) in
      let m = asks.2 in
      run_out u w a m.read m.seen
      (Consumes-trans u x w (read_of framing a.told xs) (start ++ m.read) before
      (Consumes-trans x asks.0 w start m.read asks.1 m.consumed)) m.follows m.settled

  has_fault : (limit : ℕ) (u x w : Option (List ℕ)) (xs : List V) (f : ReadFault)
      → FaultAfter framing limit u x w xs f → HasFault framing limit u f
  has_fault limit u x w xs faults.Read i = tt
  has_fault limit u x w xs faults.OutOfMemory i =
      asked_behind limit u x w xs i.are_items i.before_it (i.at_fault.asks refl)
  has_fault limit u x w xs f i =
      some_stop limit u xs f (stops_by limit u x xs f i.are_items i.before_it i.at_fault.fault)

  -- a call that gives a fault: the bytes have it
  pub sofar-fault : {limit : ℕ} {u v w : Option (List ℕ)} {old new : ReaderState P}
      {xs : List V} {f : ReadFault} → Sofar framing limit u v old xs
      → GivesFault framing limit old new v w f → HasFault framing limit u f
  sofar-fault {limit = limit} {u = u} {v = v} {w = w} {xs = xs} {f = f} s h =
      has_fault limit u v w xs f (found_now s h)

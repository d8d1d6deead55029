-- Bytes are a framed file, or they stop at a fault: this is decided (specs/Framing).
use Rattle.std.proofs.Common.{rules}
use Rattle.flute_journal.proofs.Common.{◌≡◌, ℕ, zero, suc, ◌<◌, ◌≤◌, List, [], ◌∷◌, ◌++◌, length}
use Rattle.flute_journal.proofs.Common.{drop, Option, Some, None, IsTrue, inl, inr, ◌⊎◌, refl, sym}
use Rattle.flute_journal.proofs.Common.{ap, ◌∙◌, subst, arith, append_assoc}
use Rattle.flute_journal.proofs.Common.{length-append, flat_map_more, AllByRecursion, IsByte}
use Rattle.flute_journal.proofs.Common.{ReadFault, Framing, AreItems, IsWhole, Stops, in_header}
use Rattle.flute_journal.proofs.Common.{after_items, up_to_end}
use Rattle.flute_journal.proofs.Each.{all_more, all_split}
use Rattle.flute_journal.proofs.Numbers.{octets-drop}
use Rattle.flute_journal.proofs.framing_lemmas.Framed.{IsSound}

-- bytes without a fault at a place: they are the end, or begin with an item
pub data Next {V P T : Type 0} (framing : Framing V P T) (limit : ℕ) (place : P) (rest : List ℕ) :
    Type 0 where
  at_end : rest ≡ framing.frame.end (framing.count place) → Next framing limit place rest
  at_item : (x : V) (more : List ℕ) → rest ≡ framing.frame.item (framing.told place) x ++ more
      → 0 < length (framing.frame.item (framing.told place) x)
      → framing.frame.IsItem (framing.told place) x
      → IsTrue (framing.may_follow place x) → framing.count place < limit
      → Next framing limit place rest

abbrev pub Decided : {V P T : Type 0} → Framing V P T → ℕ → List ℕ → Type 0
Decided {V} framing limit bytes = ((xs : List V) × IsWhole framing.frame limit bytes xs) ⊎
    ((xs : List V) × ((f : ReadFault) × Stops framing bytes limit xs f))

module _ {V P T : Type 0} {framing : Framing V P T} (sound : IsSound framing)
    (found : (limit : ℕ) (place : P) (rest : List ℕ) → AllByRecursion IsByte rest
    → framing.next_fault place limit rest ≡ None → Next framing limit place rest) where
  -- the bytes begin with these items
  record Begins (limit : ℕ) (bytes : List ℕ) (xs : List V) (rest : List ℕ) : Type 0 where
    octets : AllByRecursion IsByte rest
    are_items : AreItems framing.frame limit xs
    whole : bytes ≡ up_to_end framing.frame are_items.told xs ++ rest

  -- the decision for the bytes after more items
  abbrev Again : ℕ → List ℕ → List ℕ → Type 0
  Again limit bytes rest = (xs : List V) (more : List ℕ) → length more < length rest
      → Begins limit bytes xs more → Decided framing limit bytes

  -- after these items: without a fault the bytes are the end, or one item more is read
  goes_on : {limit : ℕ} {bytes : List ℕ} {xs : List V} {rest : List ℕ} → Again limit bytes rest →
      (b : Begins limit bytes xs rest) (place : P) → place ≡ framing.place_after b.are_items.told xs
      → Next framing limit place rest → Decided framing limit bytes
  goes_on {xs = xs} again b place is (at_end e) =
      let t = b.are_items.told in
      let count : framing.count place ≡ length xs = ap framing.count is ∙ sound.counted t xs in
      inl (
        xs,
        record {
          are_items = b.are_items;
          bytes_are = b.whole ∙ ap (λ (l : List ℕ). up_to_end framing.frame t xs ++ l)
              (e ∙ ap framing.frame.end count);
        },
      )
  goes_on {xs = xs} {rest = rest} again b place is (at_item x more e some valid follows few) =
      let a = b.are_items in
      let t = a.told in
      let told : framing.told place ≡ t = ap framing.told is ∙ sound.told_is t xs in
      let count : framing.count place ≡ length xs = ap framing.count is ∙ sound.counted t xs in
      let here : rest ≡ framing.frame.item t x ++ more =
      e ∙ ap (λ (z : T). framing.frame.item z x ++ more) told in
      again (xs ++ x ∷ []) more
      (omega (
        arith,
        some,
        length-append (framing.frame.item (framing.told place) x) more,
        ap length
            e,
      )) (record {
        octets = (all_split IsByte (framing.frame.item t x) more
            (subst (AllByRecursion IsByte) here b.octets)).1;
        are_items = record {
          told = t;
          valid = all_more (framing.frame.IsItem t) xs x a.valid
              (subst (λ (z : T). framing.frame.IsItem z x) told valid);
          in_order =
              sound.more_in_order t xs x a.in_order
              (subst (λ (z : P). IsTrue (framing.may_follow z x)) is follows);
          few = omega (arith, few, count, length-append xs (x ∷ []));
        };
        whole = b.whole ∙ ap (λ (l : List ℕ). up_to_end framing.frame t xs ++ l) here
            ∙ sym (append_assoc (up_to_end framing.frame t xs) (framing.frame.item t x) more)
            ∙ ap (λ (l : List ℕ). l ++ more)
            (flat_map_more (framing.frame.item t) (framing.frame.header t) xs x);
      })

  -- after these items the bytes are a file, or stop at this fault
  stops_or : (limit : ℕ) (bytes : List ℕ) (xs : List V) (rest : List ℕ) → Again limit bytes rest →
      (b : Begins limit bytes xs rest) (o : Option ReadFault) → framing.next_fault
      (framing.place_after b.are_items.told xs) limit rest ≡ o → Decided framing limit bytes
  stops_or limit bytes xs rest again b (Some f) h = inr (
    xs,
    (
      f,
      after_items
          (record { are_items = b.are_items; rest = rest; whole = b.whole; first = h }),
    ),
  )
  stops_or limit bytes xs rest again b None h =
      let place = framing.place_after b.are_items.told xs in
      goes_on again b place refl (found limit place rest b.octets h)

  -- the decision, item by item, as many as there are bytes
  decides : (fuel limit : ℕ) (bytes : List ℕ) (xs : List V) (rest : List ℕ) → length rest ≤ fuel
      → Begins limit bytes xs rest → Decided framing limit bytes
  decides zero limit bytes xs rest le b =
      stops_or limit bytes xs rest (λ ys more few c. absurd (omega (arith, few, le))) b _ refl
  decides (suc fuel) limit bytes xs rest le b = stops_or limit bytes xs rest
      (λ ys more few c. decides fuel limit bytes ys more (omega (arith, few, le)) c) b _ refl

  -- the decision from the header on
  from_header : (limit : ℕ) (bytes : List ℕ) → AllByRecursion IsByte bytes → (o : Option ReadFault)
      → framing.header_fault bytes ≡ o → Decided framing limit bytes
  from_header limit bytes oct (Some f) e = inr ([], (f, in_header refl e))
  from_header limit bytes oct None e =
      let t = framing.told_in bytes in
      decides (length (drop 6 bytes)) limit bytes [] (drop 6 bytes) (omega arith)
      (record { octets = octets-drop 6 bytes oct; are_items = search rules; whole = search rules })

  pub decided : (bytes : List ℕ) (limit : ℕ) → AllByRecursion IsByte bytes
      → Decided framing limit bytes
  decided bytes limit oct = from_header limit bytes oct (framing.header_fault bytes) refl

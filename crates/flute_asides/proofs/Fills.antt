-- Bytes that are written to a file at its end.
use Rattle.std.proofs.Common.{◌≡◌, ◌++◌, ◌+◌, ◌-◌, ◌≤◌, ℕ, List, length, take, drop, refl, sym, ap, ◌∙◌, subst, arith, append_assoc, append-nil, take_all, length-append, length-drop, Result, Ok, Err, OnErr}
use Rattle.std.proofs.lemmas.List.{length-take-le}
use Rattle.std.proofs.Math.Seq.{take-add}
use Rattle.flute_calls.specs.Disks.{Disk, Grows, Spoils, Touches}
use Rattle.flute_output.specs.DiskWrites.{Extends}
use Rattle.flute_asides.specs.Asides.{Opened, IsAtEnd, bytes_of, moved}

touches-trans : (k : ℕ) (a b c : Disk) → Touches k a b → Touches k b c → Touches k a c
touches-trans k a b c ab bc = record {
  names = λ n. bc.names n ∙ ab.names n;
  others = λ j apart. bc.others j apart ∙ ab.others j apart;
}

pub touches-refl : (k : ℕ) (a : Disk) → Touches k a a
touches-refl k a = record { names = λ n. refl; others = λ j apart. refl }

-- so many of the bytes are written
pub record IsFilled (o p : Opened) (xs : List ℕ) (w : ℕ) (d e : Disk) : Type 0 where
  pub place : p ≡ moved (o.at + w) o
  pub extends : Extends o.number (take w xs) d e

module _ (o : Opened) (xs : List ℕ) (d : Disk) where
  pub fills-none : IsFilled o o xs 0 d d
  fills-none = record {
    place = ap (λ n. moved n o) (sym (omega arith));
    extends = record { bytes = sym (append-nil _); touches = touches-refl o.number d };
  }

  module _ (p : Opened) (w : ℕ) (e : Disk) (start : IsAtEnd o d) (within : w ≤ length xs)
      (so : IsFilled o p xs w d e) where
    pub fills-end : IsAtEnd p e
    fills-end = subst (λ q. IsAtEnd q e) (sym so.place)
        (let long = ap length so.extends.bytes ∙ length-append (bytes_of o d) (take w xs) in
        let count = length-take-le w xs within in
        omega (arith, start, long, count))

    pub fills-more : (q : Opened) (n : ℕ) (f : Disk) → q ≡ moved (p.at + n) p
        → Grows p.number (take n (drop w xs)) e f → IsFilled o q xs (w + n) d f
    fills-more q n f is grows =
        let k = ap (λ r. r.number) so.place in
        let g = subst (λ j. Grows j (take n (drop w xs)) e f) k grows in
        record {
          place = is ∙ ap (λ r. moved (r.at + n) r) so.place
              ∙ ap (λ i. moved i o) (omega arith);
          extends = record {
            bytes = ap (λ h. h.bytes) g.file ∙ ap (λ l. l ++ take n (drop w xs)) so.extends.bytes
                ∙ append_assoc (bytes_of o d) (take w xs) (take n (drop w xs))
                ∙ ap (λ l. bytes_of o d ++ l) (sym (take-add w n xs));
            touches = touches-trans o.number d e f so.extends.touches g.touches;
          };
        }

    pub fills-fails : (f : Disk) → Spoils p.number e f → Spoils o.number d f
    fills-fails f spoils =
        let s = subst (λ j. Spoils j e f) (ap (λ r. r.number) so.place) spoils in
        record {
          rest = take w xs ++ s.rest;
          bytes = s.bytes ∙ ap (λ l. l ++ s.rest) so.extends.bytes
              ∙ append_assoc (bytes_of o d) (take w xs) s.rest;
          touches = touches-trans o.number d e f so.extends.touches s.touches;
        }

  pub fills-all : (p : Opened) (w : ℕ) (e : Disk) → w ≡ length xs → IsFilled o p xs w d e
      → (p ≡ moved (o.at + length xs) o) × Extends o.number xs d e
  fills-all p w e is so = (
    so.place ∙ ap (λ n. moved (o.at + n) o) is,
    subst (λ l. Extends o.number l d e) (take_all w xs (omega (arith, is))) so.extends,
  )

-- what is left after w bytes is all of the rest
pub rest-all : (w : ℕ) (xs : List ℕ) → take (length xs - w) (drop w xs) ≡ drop w xs
rest-all w xs = take_all _ _ (omega (arith, length-drop w xs))

pub on_err : {T E : Type 0} (r : Result T E) (P : Type 0) → P → OnErr r P
on_err (Ok x) P p = tt
on_err (Err e) P p = p

-- Bytes that are copied piece by piece.
use Rattle.std.proofs.Common.{rules, ◌≡◌, ◌≢◌, ◌++◌, ◌+◌, ◌-◌, ◌<◌, ◌≤◌, ℕ, List, [], length, take, Option, Some, None, refl, sym, ap, ◌∙◌, subst, arith, append_assoc, length-append, append-nil, ◌∷◌, Bool, if◌then◌else◌, true, false, option_map}
use Rattle.std.proofs.lemmas.List.{length-take-le}
use Rattle.std.proofs.Math.Seq.{take-append-add}
use Rattle.std.proofs.lemmas.Option.{none-some, same_Some}
use Rattle.std.proofs.KnownBytes.{Appends-nil, Appends-trans, Consumes-nil, Consumes-trans}
use Rattle.std.specs.Io.KnownBytes.{Appends, Consumes}
use Rattle.flute_asides.specs.declared.pouring.Poured.{Poured}
use Rattle.flute_asides.specs.declared.pouring.Poured.TheVariants.{All, Copied as All-copied, Part}
use Rattle.flute_calls.specs.Disks.{Disk}
use Rattle.flute_asides.specs.Asides.{Opened, all_of, left_in, moved}
use Rattle.flute_parts.specs.Devices.{AppendsPart}

-- what is left to read of a file, if contracts see it
abbrev pub known_of : Bool → Option Opened → Disk → Option (List ℕ)
known_of told o d = if told then Some (left_in o d) else None

-- so many bytes were to be copied, and this many are left
pub record Copied (old new taken_old taken : Option (List ℕ)) (count left : ℕ) : Type 0 where
  pub done : List ℕ
  pub consumed : Consumes old new done
  pub counted : length done + left ≡ count
  pub appended : Appends taken_old taken done

pub copied-none : (a b : Option (List ℕ)) (count : ℕ) → Copied a a b b count count
copied-none a b count = record {
  done = [];
  consumed = Consumes-nil a;
  counted = omega arith;
  appended = Appends-nil b;
}

module _ (old mid new w v u : Option (List ℕ)) (count left : ℕ) (so : Copied old mid w v count left)
    (buf : List ℕ) (reads : Consumes mid new buf) where
  pub copied-more : (part : ℕ) → length buf ≡ part → part ≤ left → Appends v u buf
      → Copied old new w u count (left - part)
  copied-more part is le writes = record {
    done = so.done ++ buf;
    consumed = Consumes-trans old mid new so.done buf so.consumed reads;
    counted = omega (arith, length-append so.done buf, is, le, so.counted);
    appended = Appends-trans w v u so.done buf so.appended writes;
  }

-- the bytes that were there before begin with those that were consumed
begins : (old new : Option (List ℕ)) (done all : List ℕ) → old ≡ Some all → Consumes old new done
    → (ys : List ℕ) × (all ≡ done ++ ys)
begins (Some xs) (Some ys) done all is so = (ys, sym (same_Some xs all is) ∙ so)
begins (Some xs) None done all is so = absurd so
begins None new done all is so = absurd (none-some all is)

cons_nil : (x : ℕ) (l : List ℕ) → x ∷ l ≡ [] → ⊥
cons_nil x l e = omega (arith, ap length e)

front_nil : (a b : List ℕ) → a ++ b ≡ [] → a ≡ []
front_nil [] b e = refl
front_nil (x ∷ a) b e = absurd (cons_nil x (a ++ b) e)

not_nil : (l : List ℕ) → 0 < length l → l ≢ []
not_nil l lt is = omega (arith, lt, ap length is)

module _ (old new w v : Option (List ℕ)) (count left : ℕ) (so : Copied old new w v count left)
    (all : List ℕ) (is : old ≡ Some all) where
  -- of all that is to be copied, what is done comes first
  split : (ys : List ℕ) → all ≡ so.done ++ ys → take count all ≡ so.done ++ take left ys
  split ys e = ap (take count) e ∙ ap (λ n. take n (so.done ++ ys)) (sym so.counted)
      ∙ take-append-add so.done ys left

  pub copied-all : left ≡ 0 → Appends w v (take count all)
  copied-all none =
      let b = begins old new so.done all is so.consumed in
      subst (λ l. Appends w v l)
      (sym (split b.0 b.1 ∙ ap (λ n. so.done ++ take n b.0) none ∙ append-nil so.done)) so.appended

  pub copied-part : 0 < left → count ≤ length all → AppendsPart w v (take count all)
  copied-part some within =
      let b = begins old new so.done all is so.consumed in
      let long = ap length b.1 ∙ length-append so.done b.0 in
      let le : left ≤ length b.0 = omega (arith, long, within, so.counted) in
      record {
        part = so.done;
        rest = take left b.0;
        appended = so.appended;
        whole = split b.0 b.1;
        cut = not_nil _ (omega (arith, some, length-take-le left b.0 le));
      }

module _ (old mid new w v u : Option (List ℕ)) (count left : ℕ) (so : Copied old mid w v count left)
    (buf all : List ℕ) (reads : Consumes mid new buf) (is : old ≡ Some all) where
  pub copied-failed : length buf ≤ left → AppendsPart v u buf → AppendsPart w u (take count all)
  copied-failed le fails =
      let b = begins old new (so.done ++ buf) all is
      (Consumes-trans old mid new so.done buf so.consumed reads) in
      let rest = take (left - length buf) b.0 in
      record {
        part = so.done ++ fails.part;
        rest = fails.rest ++ rest;
        appended = Appends-trans w v u so.done fails.part so.appended fails.appended;
        whole = ap (take count) b.1
            ∙ ap (λ n. take n ((so.done ++ buf) ++ b.0))
            (sym (omega (arith, length-append so.done buf, so.counted, le)))
            ∙ take-append-add (so.done ++ buf) b.0 (left - length buf)
            ∙ ap (λ l. (so.done ++ l) ++ rest) fails.whole
            ∙ ap (λ l. l ++ rest) (sym (append_assoc so.done fails.part fails.rest))
            ∙ append_assoc (so.done ++ fails.part) fails.rest rest;
        cut = λ e. fails.cut (front_nil fails.rest rest e);
      }

-- nothing was copied yet of what there is
pub part-none : (w : Option (List ℕ)) (count : ℕ) (xs : List ℕ) → 0 < count → count ≤ length xs
    → AppendsPart w w (take count xs)
part-none w count xs some within = record {
  part = [];
  rest = take count xs;
  appended = Appends-nil w;
  whole = refl;
  cut = not_nil _ (omega (arith, some, length-take-le count xs within));
}

-- more is left behind what is left
pub part-before : (w v : Option (List ℕ)) (xs ys : List ℕ) → AppendsPart w v xs
    → AppendsPart w v (xs ++ ys)
part-before w v xs ys so = record {
  part = so.part;
  rest = so.rest ++ ys;
  appended = so.appended;
  whole = ap (λ l. l ++ ys) so.whole ∙ append_assoc so.part so.rest ys;
  cut = λ e. so.cut (front_nil so.rest ys e);
}

pub part-behind : (w v u : Option (List ℕ)) (xs ys : List ℕ) → Appends w v xs → AppendsPart v u ys
    → AppendsPart w u (xs ++ ys)
part-behind w v u xs ys done so = record {
  part = xs ++ so.part;
  rest = so.rest;
  appended = Appends-trans w v u xs so.part done so.appended;
  whole = ap (λ l. xs ++ l) so.whole ∙ sym (append_assoc xs so.part so.rest);
  cut = so.cut;
}

pub part-all : (w v : Option (List ℕ)) (xs ys : List ℕ) → Appends w v xs → ys ≢ []
    → AppendsPart w v (xs ++ ys)
part-all w v xs ys done some =
    record { part = xs; rest = ys; appended = done; whole = refl; cut = some }

-- something is left, if the file was not copied, or bytes are left behind it
pub left-some : (p : Poured) (w v : Option (List ℕ)) (xs ys : List ℕ)
    → (p ≢ Part → Appends w v xs) → (p ≡ Part → AppendsPart w v xs) → (p ≢ Part → ys ≢ [])
    → AppendsPart w v (xs ++ ys)
left-some All w v xs ys all part some =
    let not : All ≢ Part = search rules in part-all w v xs ys (all not) (some not)
left-some All-copied w v xs ys all part some =
    let not : All-copied ≢ Part = search rules in part-all w v xs ys (all not) (some not)
left-some Part w v xs ys all part some = part-before w v xs ys (part refl)

-- what contracts see is there
pub seen-all : (told : Bool) (xs bytes : List ℕ) → (if told then Some xs else None) ≡ Some bytes
    → (told ≡ true) × (xs ≡ bytes)
seen-all true xs bytes is = (refl, same_Some xs bytes is)
seen-all false xs bytes is = absurd (none-some bytes is)

-- a file that is read from its start
pub known-start : (told : Bool) (o p : Option Opened) (d e : Disk) → told ≡ true
    → p ≡ option_map (moved 0) o → e ≡ d → known_of told p e ≡ Some (all_of o d)
known-start told None p d e t is same =
    ap (λ b. if b then Some (left_in p e) else None) t ∙ ap (λ q. Some (left_in q e)) is
known-start told (Some o) p d e t is same =
    ap (λ b. if b then Some (left_in p e) else None) t ∙ ap (λ q. Some (left_in q e)) is
    ∙ ap (λ x. Some (all_of (Some o) x)) same

-- The items of a list, written one after the other.
use Rattle.std.proofs.Common.{◌≡◌, ℕ, ◌+◌, suc, List, [], ◌∷◌, ◌++◌, Option, Result, Ok, Err, true}
use Rattle.std.proofs.Common.{false, if◌then◌else◌, is_ok, is_err, refl, sym, ap, ◌∙◌, subst}
use Rattle.std.proofs.Common.{append_assoc, arith}
use Rattle.std.specs.Prelude.{Contains}
use Rattle.std.specs.List.{flat_map}
use Rattle.std.specs.Io.KnownBytes.{Appends}
use Rattle.std.proofs.KnownBytes.{Appends-trans}
use Rattle.std.proofs.lemmas.List.{append-nil, flat_map_more}
use Rattle.std.proofs.lemmas.Grind.{flat_map-append}
use Rattle.flute_parts.specs.Devices.{AppendsPart, Writes}
use Rattle.flute_parts.proofs.Public.{AppendsPart-first, AppendsPart-second}

-- the items before the rest were written
pub record Listed {X : Type 0} (f : X → List ℕ) (all rest : List X)
    (old new : Option (List ℕ)) : Type 0 where
  pub done : List X
  pub split : all ≡ done ++ rest
  pub written : Appends old new (flat_map f done)

-- the rest begins with this item
pub listed-at : {X : Type 0} {f : X → List ℕ} {all rest more : List X} {x : X}
    {s t : Option (List ℕ)} → Listed f all rest s t → rest ≡ x ∷ more
    → Listed f all (x ∷ more) s t
listed-at {f = f} {all = all} {s = s} {t = t} h e = subst (λ l. Listed f all l s t) e h

pub listed-next : {X : Type 0} {f : X → List ℕ} {all rest : List X} {x : X}
    {s t t' : Option (List ℕ)} → Listed f all (x ∷ rest) s t → Appends t t' (f x)
    → Listed f all rest s t'
listed-next {f = f} {rest = rest} {x = x} {s = s} {t = t} {t' = t'} h one = record {
  done = h.done ++ x ∷ [];
  split = h.split ∙ sym (append_assoc h.done (x ∷ []) rest);
  written =
      subst (λ (l : List ℕ). Appends s t' l) (flat_map_more f [] h.done x)
      (Appends-trans s t t' (flat_map f h.done) (f x) h.written one);
}

-- an item was written in part
pub listed-part : {X : Type 0} {f : X → List ℕ} {all rest : List X} {x : X}
    {s t : Option (List ℕ)} (t' : Option (List ℕ)) → Listed f all (x ∷ rest) s t
    → AppendsPart t t' (f x) → AppendsPart s t' (flat_map f all)
listed-part {f = f} {all = all} {rest = rest} {x = x} {s = s} {t = t} t' h part =
    let front = flat_map f h.done in
    let last = f x ++ flat_map f rest in
    let whole : front ++ last ≡ flat_map f all =
    sym (flat_map-append f h.done (x ∷ rest)) ∙ ap (flat_map f) (sym h.split) in
    subst (λ (l : List ℕ). AppendsPart s t' l) whole
    (AppendsPart-second s t t' front last h.written
    (AppendsPart-first t t' (f x) (flat_map f rest) part))

pub listed-all : {X : Type 0} {f : X → List ℕ} {all rest : List X} {s t : Option (List ℕ)}
    → Listed f all rest s t → rest ≡ [] → Appends s t (flat_map f all)
listed-all {f = f} {s = s} {t = t} h e =
    let whole = h.split ∙ ap (λ l. h.done ++ l) e ∙ append-nil h.done in
    subst (λ l. Appends s t (flat_map f l)) (sym whole) h.written

contains_at : {X : Type 0} (done rest : List X) (x : X) → Contains (done ++ x ∷ rest) x
contains_at [] rest x = (0, omega arith, refl)
contains_at (d ∷ ds) rest x = let c = contains_at ds rest x in (suc c.0, omega (arith, c.1), c.2)

-- the next item is one of them
pub listed-contains : {X : Type 0} {f : X → List ℕ} {all rest : List X} {x : X}
    {s t : Option (List ℕ)} → Listed f all (x ∷ rest) s t → Contains all x
listed-contains {rest = rest} {x = x} h =
    subst (λ l. Contains l x) (sym h.split) (contains_at h.done rest x)

-- what a write has left, by its result

pub all_written : {T E : Type 0} (old new : Option (List ℕ)) (bytes : List ℕ) (r : Result T E)
    → is_err r ≡ false → Writes old new bytes r → Appends old new bytes
all_written old new bytes (Ok x) e h = h
all_written old new bytes (Err x) e h = absurd cc

pub part_written : {T E : Type 0} (old new : Option (List ℕ)) (bytes : List ℕ) (r : Result T E)
    → is_err r ≡ true → Writes old new bytes r → AppendsPart old new bytes
part_written old new bytes (Ok x) e h = absurd cc
part_written old new bytes (Err x) e h = h

pub no_write_failure : {T E : Type 0} (r : Result T E) (n m k : ℕ) → is_err r ≡ false
    → n ≡ m + (if is_ok r then 0 else 1) → m ≡ k → n ≡ k
no_write_failure (Ok x) n m k e h i = omega (arith, h, i)
no_write_failure (Err x) n m k e h i = absurd cc

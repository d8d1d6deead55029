-- The extensions that a list of bytes contains (specs/Walk).
use Rattle.std.proofs.Common.{rules}
use Rattle.std.proofs.lemmas.Grind.{common_steps}
use Rattle.std.proofs.Common.{◌≡◌, ℕ, ◌≤◌, ◌<◌, List, [], ◌∷◌, ◌++◌}
use Rattle.std.proofs.Common.{length, map, filter, take, drop, Bool, true, false, cond, eqb}
use Rattle.std.proofs.Common.{Option, refl, sym, ap, ◌∙◌, append_assoc}
use Rattle.std.proofs.Common.{arith}
use Rattle.std.specs.Prelude.{IfSome}
use Rattle.std.specs.Option.{option_to_list}
use Rattle.std.specs.List.{flat_map, AllByRecursion}
use Rattle.std.proofs.lemmas.Bool.{eqb-true, le-ltb}
use Rattle.std.proofs.lemmas.List.{take_at, drop_at, append-nil}
use Rattle.flute_wire.specs.Extensions.{HeaderExtension, IsExtension, HasExtensions}
use Rattle.flute_wire.specs.Extensions.{extension_bytes, bodies, words, ext_fti, ext_fdt, ext_cenc}
use Rattle.flute_wire.specs.declared.extensions.Occurrence.{Occurrence}
use Rattle.flute_wire.specs.Walk.{Occurs}

-- two lists with the same front length that begin alike
pub same_front : (a b x y : List ℕ) → length a ≡ length b → a ++ x ≡ b ++ y → (a ≡ b) × (x ≡ y)
same_front a b x y len e = (
  sym (take_at a x (length a) refl) ∙ ap (take (length a)) e ∙ take_at b
      y (length a) (sym len),
  sym (drop_at a x (length a) refl) ∙ ap (drop (length a)) e ∙ drop_at b y
      (length a) (sym len),
)

-- an extension has a byte after its type
pub has_body : (e : HeaderExtension) → IsExtension e → 0 < length e.body
has_body e h = omega arith

-- no extension begins another
pub same_extension : (e f : HeaderExtension) (x y : List ℕ) → IsExtension e → IsExtension f
    → extension_bytes e ++ x ≡ extension_bytes f ++ y → (e ≡ f) × (x ≡ y)
same_extension e f x y he hf same = grind (arith, common_steps, has_body, words, same_front)

-- the bytes after the first of the extensions of a list
pub rest_of : (es all : List HeaderExtension) (area rest : List ℕ) → area ≡ flat_map extension_bytes
    es ++ rest → AllByRecursion IsExtension es → HasExtensions area all →
    (tail : List HeaderExtension) × HasExtensions rest tail × (all ≡ es ++ tail)
rest_of [] all area rest joined each x =
    (all, record { joined = sym joined ∙ x.joined; each = x.each }, refl)
rest_of (e ∷ es) [] area rest joined each x = let none = sym x.joined ∙ joined in absurd cc
rest_of (e ∷ es) (f ∷ fs) area rest joined each x =
    let same : extension_bytes e ++ (flat_map extension_bytes es ++ rest) ≡ extension_bytes f ++
    flat_map extension_bytes fs = sym
    (append_assoc (extension_bytes e) (flat_map extension_bytes es) rest) ∙ sym joined ∙ x.joined in
    let s = same_extension e f (flat_map extension_bytes es ++ rest) (flat_map extension_bytes fs)
    each.0 x.each.0 same in
    let r = rest_of es fs (flat_map extension_bytes es ++ rest) rest refl each.1
    (record { joined = s.1; each = x.each.1 }) in (
      r.0,
      r.1,
      ap (λ (g : HeaderExtension). g ∷ fs)
          (sym s.0) ∙ ap (λ (gs : List HeaderExtension). e ∷ gs) r.2,
    )

pub no_bytes : (es : List HeaderExtension) → HasExtensions [] es → es ≡ []
no_bytes [] x = refl
no_bytes (e ∷ es) x = let none = x.joined in absurd cc

-- bytes are one list of extensions at most
pub same_extensions : (bs : List ℕ) (es fs : List HeaderExtension) → HasExtensions bs es
    → HasExtensions bs fs → es ≡ fs
same_extensions bs es fs x y =
    let r = rest_of es fs bs [] (x.joined ∙ sym (append-nil (flat_map extension_bytes es))) x.each y
    in sym (r.2 ∙ ap (λ (t : List HeaderExtension). es ++ t) (no_bytes r.0 r.1) ∙ append-nil es)

-- the walk has passed these extensions, and this is left
pub record HasWalked (area rest : List ℕ) (f d c : Occurrence) : Type 0 where
  pub passed : List HeaderExtension
  pub joined : area ≡ flat_map extension_bytes passed ++ rest
  pub each : AllByRecursion IsExtension passed
  pub fti : Occurs f (bodies ext_fti passed)
  pub fdt : Occurs d (bodies ext_fdt passed)
  pub cenc : Occurs c (bodies ext_cenc passed)

pub each_more : (es : List HeaderExtension) (e : HeaderExtension) → AllByRecursion IsExtension es
    → IsExtension e → AllByRecursion IsExtension (es ++ e ∷ [])
each_more [] e each h = (h, tt)
each_more (f ∷ es) e each h = (each.0, each_more es e each.1 h)

pub joined_more : (area rest after : List ℕ) (es : List HeaderExtension) (e : HeaderExtension)
    → area ≡ flat_map extension_bytes es ++ rest → rest ≡ extension_bytes e ++ after
    → area ≡ flat_map extension_bytes (es ++ e ∷ []) ++ after
joined_more area rest after es e joined front = grind (arith, common_steps)

-- at the end the bytes are the extensions passed
pub all_walked : (area : List ℕ) (es : List HeaderExtension) → area ≡ flat_map extension_bytes es ++
    [] → AllByRecursion IsExtension es → HasExtensions area es
all_walked area es joined each = search rules

no_front : (rest : List ℕ) (tail : List HeaderExtension) → (rest ≡ [] → ⊥)
    → ((e : HeaderExtension) (after : List ℕ) → IsExtension e
    → rest ≡ extension_bytes e ++ after → ⊥) → HasExtensions rest tail → ⊥
no_front rest [] some none x = some x.joined
no_front rest (e ∷ es) some none x = none e (flat_map extension_bytes es) x.each.0 x.joined

-- if no extension is at the front of what is left, the bytes are no extensions
pub is_stuck : {area : List ℕ} (rest : List ℕ) (es : List HeaderExtension) → area ≡ flat_map
    extension_bytes es ++ rest → AllByRecursion IsExtension es → (rest ≡ [] → ⊥) →
    ((e : HeaderExtension) (after : List ℕ) → IsExtension e → rest ≡ extension_bytes e ++ after → ⊥)
    → (all : List HeaderExtension) → HasExtensions area all → ⊥
is_stuck {area = area} rest es joined each some none all x =
    let r = rest_of es all area rest joined each x in
    no_front rest r.0 some none r.1

-- ---- extensions of one word

short_more : (b : Bool) (e : HeaderExtension) (es : List HeaderExtension) →
    (b ≡ true → length e.body ≡ 3) → AllByRecursion (λ body. length body ≡ 3)
    (map (λ (f : HeaderExtension). f.body) es) → AllByRecursion (λ body. length body ≡ 3)
    (map (λ (f : HeaderExtension). f.body) (cond b (e ∷ es) es))
short_more true e es one all = (one refl, all)
short_more false e es one all = all

one_word : (e : HeaderExtension) (het : ℕ) → 128 ≤ het → IsExtension e
    → eqb e.het het ≡ true → length e.body ≡ 3
one_word e het high h same =
    let is : e.het ≡ het = eqb-true _ _ same in
    let w : words e ≡ 1 = rw (le-ltb e.het 128 (omega arith)) refl in
    omega arith

-- from type 128 on each body has three bytes
pub short_bodies : (het : ℕ) → 128 ≤ het → (es : List HeaderExtension) → AllByRecursion IsExtension
    es → AllByRecursion (λ body. length body ≡ 3) (bodies het es)
short_bodies het high [] each = tt
short_bodies het high (e ∷ es) each =
    short_more (eqb e.het het) e (filter (λ (f : HeaderExtension). eqb f.het het) es)
    (one_word e het high each.0) (short_bodies het high es each.1)

pub short_body : (found : Option (List ℕ)) (bs : List (List ℕ)) → bs ≡ option_to_list found
    → AllByRecursion (λ body. length body ≡ 3) bs → IfSome found (λ body. length body ≡ 3)
short_body x0 x1 x2 x3 = search rules

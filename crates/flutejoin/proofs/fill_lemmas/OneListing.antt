-- Bytes are lines of gaps in one way (specs/FillLists: IsListing).
use Rattle.std.proofs.Common.{rules}
use Rattle.std.proofs.Common.{◌≡◌, ℕ, ◌<◌, ◌*◌, ◌^◌, false, List, [], ◌∷◌, ◌++◌, codes, decimal}
use Rattle.std.proofs.Common.{length, length-append, append_assoc, get_or, add-zero, refl, sym, ap, ◌∙◌, arith}
use Rattle.std.proofs.Common.{inl, inr, Option, Some, None}
use Rattle.std.specs.Char.{is_ascii_digit}
use Rattle.std.specs.Int.{bytes_high_first}
use Rattle.std.specs.List.{flat_map, AllByRecursion}
use Rattle.std.proofs.Math.Seq.{get_or-append-add}
use Rattle.std.proofs.lemmas.Bool.{cases_Bool}
use Rattle.std.proofs.lemmas.Bool.Decides.{nat_tests}
use Rattle.std.proofs.lemmas.List.{append_cancel_left, get_or_append_left}
use Rattle.byteorder.specs.Numbers.{length-bytes_high_first}
use Rattle.hex.specs.Hex.{encode_lower, lower_digits}
use Rattle.hex.proofs.HexLemmas.{length-encode_with}
use Rattle.flute_parts.specs.ObjectName.{IsObjectName}
use Rattle.flute_parts.specs.Session.{IsSender}
use Rattle.flute_parts.specs.declared.key.Key.{Key}
use Rattle.flute_parts.specs.declared.object_key.ObjectName.{ObjectName}
use Rattle.flute_parts.specs.declared.object_key.ObjectName.TheVariants.{Instance, File}
use Rattle.flute_store.specs.declared.gap.Gap.{Gap}
use Rattle.flute_store.specs.declared.gap.Reason.{Reason}
use Rattle.flute_store.specs.declared.gap.Reason.TheVariants.{Missing, Conflicting, Misfit}
use Rattle.flute_store.specs.declared.status.Status.{Status}
use Rattle.flute_store.specs.declared.status.Status.TheVariants.{ConflictingInformation}
use Rattle.flute_store.specs.declared.status.Status.TheVariants.{NoInformation, Partial, Whole}
use Rattle.flutejoin.specs.FillLists.{AreInOrder, HasCounts, HasIds, IsListed, IsListing, MayCome, text_of}
use Rattle.flutejoin.specs.Lines.{gap_line, key_words, line, object_words, reason_words}
use Rattle.flutejoin.specs.Lines.{source_words, status_line, status_words}
use Rattle.flutejoin.specs.declared.fill.listed_line.ListedLine.{ListedLine}
use Rattle.flutejoin.specs.declared.fill.listed_line.ListedLine.TheVariants.{Object as ObjectLine}
use Rattle.flutejoin.specs.declared.fill.listed_line.ListedLine.TheVariants.{Gap as GapLine}
use Rattle.flutejoin.proofs.extract_lemmas.NamesApart.{numbers_same, same_split, senders_same}
use Rattle.flutejoin.proofs.fill_lemmas.ReadLines.{apart}
use Rattle.flutejoin.proofs.info_lemmas.LineNumbers.{digit_in_decimal, digits_end, DigitsOf, wide}
use Rattle.flutejoin.proofs.info_lemmas.LinePieces.{no_fdt, source_chain, source_none}

-- ---- numbers

-- no digit is first
abbrev Stops : List ℕ → Type 0
Stops x = is_ascii_digit (get_or x 0 0) ≡ false

digits_of : (n : ℕ) (x : List ℕ) → n < 2 ^ 128 → Stops x
    → DigitsOf (decimal n ++ x) (length (decimal n))
digits_of n x small ends = record {
  within = omega (arith, length-append (decimal n) x);
  before = λ k l. ap is_ascii_digit (get_or_append_left (decimal n) x 0 k l) ∙ digit_in_decimal
      n k small l;
  stops = λ _. let at = (rw add-zero at (get_or-append-add (decimal n) x 0 0)) in ap
      is_ascii_digit at ∙ ends;
}

-- a number ends where its digits do
number : (n m : ℕ) (x y : List ℕ) → n < 2 ^ 128 → m < 2 ^ 128 → Stops x × Stops y
    → decimal n ++ x ≡ decimal m ++ y → (n ≡ m) × (x ≡ y)
number n m x y p q h e =
    let len = digits_end _ x n _ p h.0 (sym e) (digits_of m y q h.1) in
    let both = same_split _ _ x y (sym len) e in
    (numbers_same n m (wide n p) (wide m q) both.0, both.1)

-- a number after a word
after : (w : List ℕ) (n m : ℕ) {x y : List ℕ} → n < 2 ^ 128 → m < 2 ^ 128 → Stops x × Stops y
    → w ++ (decimal n ++ x) ≡ w ++ (decimal m ++ y) → (n ≡ m) × (x ≡ y)
after w n m {x} {y} p q h e = number n m x y p q h (append_cancel_left w _ _ e)

-- ---- the line of a gap

abbrev ended : List ℕ → List ℕ
ended x = codes "\n" ++ x

reason : (r s : Reason) (x y : List ℕ) → reason_words r ++ ended x ≡ reason_words s ++ ended y
    → (r ≡ s) × (x ≡ y)
reason Missing Missing x y e = (refl, append_cancel_left (codes " missing\n") x y e)
reason Conflicting Conflicting x y e = (refl, append_cancel_left (codes " conflicting\n") x y e)
reason Misfit Misfit x y e = (refl, append_cancel_left (codes " misfit\n") x y e)
reason Missing Conflicting x y e = search rules
reason Missing Misfit x y e = search rules
reason Conflicting Missing x y e = search rules
reason Conflicting Misfit x y e = search rules
reason Misfit Missing x y e = search rules
reason Misfit Conflicting x y e = search rules

reason_stops : (r : Reason) (x : List ℕ) → Stops (reason_words r ++ x)
reason_stops Missing x = refl
reason_stops Conflicting x = refl
reason_stops Misfit x = refl

abbrev from_last : Gap → List ℕ → List ℕ
from_last g x = codes "-" ++ (decimal g.last ++ (reason_words g.reason ++ ended x))

abbrev from_first : Gap → List ℕ → List ℕ
from_first g x = codes "/" ++ (decimal g.first ++ from_last g x)

gap_chain : (g : Gap) (x : List ℕ)
    → gap_line g ++ x ≡ codes "gap " ++ (decimal g.sbn ++ from_first g x)
unfolding gap_line
gap_chain g x =
    eight (codes "gap ") (decimal g.sbn) (codes "/") (decimal g.first) (codes "-") (decimal g.last)
    (reason_words g.reason) (codes "\n")
  where
    eight : (a b c d e f g h : List ℕ) → ((a ++ b ++ c ++ d ++ e ++ f ++ g) ++ h) ++ x
        ≡ a ++ (b ++ (c ++ (d ++ (e ++ (f ++ (g ++ (h ++ x)))))))
    eight a b c d e f g h = simp append_assoc refl

gap : (g h : Gap) (x y : List ℕ) → HasIds g → HasIds h → gap_line g ++ x ≡ gap_line h ++ y
    → (g ≡ h) × (x ≡ y)
gap g h x y p q e =
    let a = after (codes "gap ") _ _ (omega arith) (omega arith) (refl, refl)
    (sym (gap_chain g x) ∙ e ∙ gap_chain h y) in
    let b = after (codes "/") _ _ (omega arith) (omega arith) (refl, refl) a.1 in
    let c = after (codes "-") _ _ (omega arith) (omega arith)
    (reason_stops g.reason (ended x), reason_stops h.reason (ended y)) b.1 in
    let d = reason _ _ x y c.1 in
    (λ i. record { sbn = a.0 i; first = b.0 i; last = c.0 i; reason = d.0 i }, d.1)

-- ---- the line of an object

abbrev from_misfit : ℕ → List ℕ → List ℕ
from_misfit f x = codes " misfit " ++ (decimal f ++ ended x)

abbrev from_conflicting : ℕ → ℕ → List ℕ → List ℕ
from_conflicting d f x = codes " conflicting " ++ (decimal d ++ from_misfit f x)

partial_chain : (m d f : ℕ) (x : List ℕ) → status_words (Partial m d f) ++ ended x
    ≡ codes "partial missing " ++ (decimal m ++ from_conflicting d f x)
partial_chain m d f x =
    seven (codes "partial missing ") (decimal m) (codes " conflicting ") (decimal d)
    (codes " misfit ") (decimal f) (ended x)
  where
    seven : (a b c d e f g : List ℕ) → (a ++ b ++ c ++ d ++ e ++ f) ++ g
        ≡ a ++ (b ++ (c ++ (d ++ (e ++ (f ++ g)))))
    seven a b c d e f g = simp append_assoc refl

whole_chain : (n : ℕ) (x : List ℕ)
    → status_words (Whole n) ++ ended x ≡ codes "whole " ++ (decimal n ++ ended x)
whole_chain n x = append_assoc (codes "whole ") (decimal n) (ended x)

status : (s t : Status) (x y : List ℕ) → HasCounts s → HasCounts t
    → status_words s ++ ended x ≡ status_words t ++ ended y → (s ≡ t) × (x ≡ y)
status NoInformation NoInformation x y p q e =
    (refl, append_cancel_left (codes "no information\n") x y e)
status ConflictingInformation ConflictingInformation x y p q e =
    (refl, append_cancel_left (codes "conflicting information\n") x y e)
status (Whole n) (Whole m) x y p q e =
    let a = after (codes "whole ") n m (omega arith) (omega arith) (refl, refl) (cc) in
    (cc a.0, append_cancel_left (codes "\n") x y a.1)
status (Partial m d f) (Partial n c g) x y p q e =
    let a = after (codes "partial missing ") m n (omega arith) (omega arith) (refl, refl)
    (sym (partial_chain m d f x) ∙ e ∙ partial_chain n c g y) in
    let b = after (codes " conflicting ") d c (omega arith) (omega arith) (refl, refl) a.1 in
    let k = after (codes " misfit ") f g (omega arith) (omega arith) (refl, refl) b.1 in
    (λ i. Partial (a.0 i) (b.0 i) (k.0 i), append_cancel_left (codes "\n") x y k.1)
status NoInformation ConflictingInformation x y p q e = search rules
status NoInformation (Partial m d f) x y p q e = search rules
status NoInformation (Whole m) x y p q e = search rules
status ConflictingInformation NoInformation x y p q e = search rules
status ConflictingInformation (Partial m d f) x y p q e = search rules
status ConflictingInformation (Whole m) x y p q e = search rules
status (Partial m d f) NoInformation x y p q e = search rules
status (Partial m d f) ConflictingInformation x y p q e = search rules
status (Partial m d f) (Whole n) x y p q e = search rules
status (Whole n) NoInformation x y p q e = search rules
status (Whole n) ConflictingInformation x y p q e = search rules
status (Whole n) (Partial m d f) x y p q e = search rules

fdt_chain : (n : ℕ) (x : List ℕ)
    → object_words (Instance n) ++ x ≡ codes "object " ++ (codes "fdt " ++ (decimal n ++ x))
fdt_chain n x = append_assoc (codes "object fdt ") (decimal n) x

file_chain : (n : ℕ) (x : List ℕ) → object_words (File n) ++ x ≡ codes "object " ++ (decimal n ++ x)
file_chain n x = append_assoc (codes "object ") (decimal n) x

object : (o p : ObjectName) (x y : List ℕ) → IsObjectName o → IsObjectName p → Stops x × Stops y
    → object_words o ++ x ≡ object_words p ++ y → (o ≡ p) × (x ≡ y)
object (Instance n) (Instance m) x y p q h e =
    let a = after (codes "object fdt ") n m (omega arith) (omega arith) h (cc) in
    (cc a.0, a.1)
object (File n) (File m) x y p q h e =
    let a = after (codes "object ") n m (omega arith) (omega arith) h (cc) in
    (ap File a.0, a.1)
object (Instance n) (File m) x y p q h e = absurd (no_fdt m y _ (omega arith)
    (sym (append_cancel_left (codes "object ") _ _ (sym (fdt_chain n x) ∙ e ∙ file_chain m y))))
object (File n) (Instance m) x y p q h e = absurd (no_fdt n x _ (omega arith)
    (append_cancel_left (codes "object ") _ _ (sym (file_chain n x) ∙ e ∙ fdt_chain m y)))

no_source : (x y : List ℕ) → codes "session " ++ x ≡ codes "source " ++ y → ⊥
no_source x y e = search rules

source : (n m : ℕ) (x y : List ℕ) → IsSender n → IsSender m → source_words n ++
    (codes "session " ++ x) ≡ source_words m ++ (codes "session " ++ y) → (n ≡ m) × (x ≡ y)
source n m x y p q e = elim (cases_Bool _) [
  | inl a ↦ elim (cases_Bool _) [
    | inl b ↦ (
      grind (arith, nat_tests, a, b),
      append_cancel_left (codes "session ") x y
          (sym (source_none n _ a) ∙ e
          ∙ source_none m _ b),
    )
    | inr b ↦ absurd (no_source x _ (sym (source_none n _ a) ∙ e
        ∙ source_chain m _ b))
  ]
  | inr a ↦ elim (cases_Bool _) [
    | inl b ↦ absurd (no_source y _ (sym (source_none m _ b) ∙ sym e
        ∙ source_chain n _ a))
    | inr b ↦
        let both = same_split _
        _ _ _ (digits n ∙ sym (digits m))
        (append_cancel_left (codes "source ") _ _ (sym (source_chain n _ a) ∙ e
        ∙ source_chain m _ b)) in (
          senders_same n m p q both.0,
          append_cancel_left (codes " session ") x y both.1,
        )
  ]
]
  where
    digits : (n : ℕ) → length (encode_lower (bytes_high_first 16 n)) ≡ 32
    digits n = length-encode_with lower_digits (bytes_high_first 16 n)
        ∙ ap (λ x. 2 * x) (length-bytes_high_first 16 n)

abbrev from_status : Status → List ℕ → List ℕ
from_status s x = status_words s ++ ended x

abbrev from_name : Key → Status → List ℕ → List ℕ
from_name key s x = codes " " ++ (object_words key.object ++ (codes " " ++ from_status s x))

object_chain : (key : Key) (s : Status) (x : List ℕ) → status_line key s ++ x ≡ source_words
    key.session.sender ++ (codes "session " ++ (decimal key.session.tsi ++ from_name key s x))
unfolding status_line
object_chain key s x =
    eight (source_words key.session.sender) (codes "session ") (decimal key.session.tsi) (codes " ")
    (object_words key.object) (codes " ") (status_words s) (codes "\n")
  where
    eight : (a b c d e f g h : List ℕ) → (((a ++ b ++ c ++ d ++ e) ++ f ++ g) ++ h) ++ x
        ≡ a ++ (b ++ (c ++ (d ++ (e ++ (f ++ (g ++ (h ++ x)))))))
    eight a b c d e f g h = simp append_assoc refl

object_line : (k l : Key) (s t : Status) (x y : List ℕ)
    → IsListed (ObjectLine k s) × IsListed (ObjectLine l t) → status_line k s ++ x ≡ status_line l t ++ y
    → (ObjectLine k s ≡ ObjectLine l t) × (x ≡ y)
object_line k l s t x y (p, q) e =
    let a = source _ _ _ _ p.0.0.0 q.0.0.0 (sym (object_chain k s x) ∙ e ∙ object_chain l t y) in
    let b = number _ _ _ _ (omega arith) (omega arith) (refl, refl) a.1 in
    let c = object _ _ _ _ p.0.1 q.0.1 (refl, refl) (append_cancel_left (codes " ") _ _ b.1) in
    let d = status s t x y p.1 q.1 (append_cancel_left (codes " ") _ _ c.1) in (
      λ i. ObjectLine (record { session = record { sender = a.0 i; tsi = b.0 i }; object = c.0 i })
          (d.0 i),
      d.1,
    )

-- ---- lines

no_gap : (g : Gap) (key : Key) (s : Status) (x y : List ℕ)
    → gap_line g ++ x ≡ status_line key s ++ y → ⊥
no_gap g key s x y e = apart _ _ _ (sym (gap_chain g x) ∙ e ∙ object_chain _ s y)

same_line : (p : Option ListedLine) (l m : ListedLine) (x y : List ℕ) → IsListed l × IsListed m
    → MayCome p l × MayCome p m → text_of l ++ x ≡ text_of m ++ y → (l ≡ m) × (x ≡ y)
same_line p (ObjectLine k s) (ObjectLine l t) x y i c e = object_line k l s t x y i e
same_line p (ObjectLine k s) (GapLine l h) x y i c e = absurd (no_gap h k s y x (sym e))
same_line p (GapLine k g) (ObjectLine l t) x y i c e = absurd (no_gap g l t x y e)
same_line None (GapLine k g) (GapLine l h) x y i c e = absurd c.0
same_line (Some b) (GapLine k g) (GapLine l h) x y i c e =
    let same = gap g h x y i.0 i.1 e in
    (λ n. GapLine ((sym c.0.1 ∙ c.1.1) n) (same.0 n), same.1)

ended_some : (w x : List ℕ) → 0 < length (line w ++ x)
ended_some w x = omega (arith, length-append (w ++ codes "\n") x, length-append w (codes "\n"))

no_text : (l : ListedLine) (x : List ℕ) → text_of l ++ x ≡ [] → ⊥
unfolding gap_line status_line
no_text (ObjectLine key s) x e =
    omega (arith, ended_some (key_words key ++ codes " " ++ status_words s) x, ap length e)
no_text (GapLine key g) x e = omega (
  arith,
  ended_some (codes "gap " ++ decimal g.sbn ++ codes "/"
      ++ decimal g.first ++ codes "-" ++ decimal g.last ++ reason_words g.reason) x,
  ap length e,
)

same_lines : (p : Option ListedLine) (xs ys : List ListedLine) → AllByRecursion IsListed xs
    → AllByRecursion IsListed ys → AreInOrder p xs × AreInOrder p ys
    → flat_map text_of xs ≡ flat_map text_of ys → xs ≡ ys
unfolding AreInOrder
same_lines p [] [] i j o e = refl
same_lines p [] (m ∷ ys) i j o e = absurd (no_text m _ (sym e))
same_lines p (l ∷ xs) [] i j o e = absurd (no_text l _ e)
same_lines p (l ∷ xs) (m ∷ ys) i j o e =
    let same = same_line p l m _ _ (i.0, j.0) (o.0.0, o.1.0) e in
    let rest = same_lines _ xs ys i.1 j.1 (o.0.1, rw same.0 o.1.1) same.1 in
    λ n. same.0 n ∷ rest n

pub one_listing : (bytes : List ℕ) (lines others : List ListedLine) → IsListing bytes lines
    → IsListing bytes others → lines ≡ others
one_listing _ lines others h k = same_lines _ _ _ h.listed k.listed (h.in_order, k.in_order) (cc)

-- A datagram spells at most one packet, and one exactly if no refusal applies (specs/Datagram).
use Rattle.std.proofs.Common.{rules}
use Rattle.std.proofs.Common.{◌≡◌, ℕ, ◌+◌, ◌-◌, ◌<◌, ◌≤◌, ◌⊎◌, List}
use Rattle.std.proofs.Common.{[], ◌∷◌, ◌++◌, length, take, drop, Option, Some}
use Rattle.std.proofs.Common.{None, inl, inr, refl, sym, ap, ◌∙◌, arith}
use Rattle.std.specs.Prelude.{IsSomeAnd, slice_range}
use Rattle.std.proofs.lemmas.List.{take_at, drop_at, drop-drop, length-append}
use Rattle.flute_parts.specs.Information.{info_fault}
use Rattle.flute_wire.specs.declared.refusal.Refusal.{Refusal}
use Rattle.flute_wire.specs.declared.refusal.Refusal.TheVariants.{TooLong, TooShort, LctVersion}
use Rattle.flute_wire.specs.declared.refusal.Refusal.TheVariants.{HeaderLength, HeaderCut, NoTsi}
use Rattle.flute_wire.specs.declared.refusal.Refusal.TheVariants.{NoToi, Codepoint, ExtensionLength}
use Rattle.flute_wire.specs.declared.refusal.Refusal.TheVariants.{Repeated, FtiLength, Information}
use Rattle.flute_wire.specs.declared.refusal.Refusal.TheVariants.{NoInstance, FluteVersion}
use Rattle.flute_wire.specs.declared.refusal.Refusal.TheVariants.{ContentEncoded, PayloadIdCut}
use Rattle.flute_wire.specs.declared.first_word.FirstWord.{FirstWord}
use Rattle.flute_parts.specs.BigEndian.{big_endian}
use Rattle.flute_wire.specs.Header.{fields, first_word, cci_len, tsi_len, toi_len, header_len}
use Rattle.flute_wire.specs.Header.{fixed_words, tsi_at, toi_at, extensions_at, extension_area}
use Rattle.flute_wire.specs.Header.{after_header}
use Rattle.flute_wire.specs.Extensions.{HasExtensions, bodies, ext_fti, ext_fdt, ext_cenc}
use Rattle.flute_wire.specs.Extensions.{fti_information, fdt_version}
use Rattle.flute_wire.specs.Extensions.{content_encoding, first}
use Rattle.flute_wire.specs.Content.{Content}
use Rattle.flute_wire.specs.Datagram.{Parts, HasParts, IsAccepted, content_of, Spells}
use Rattle.flute_wire.specs.Refusals.{Applies}
use Rattle.flute_wire.specs.Reading.{content_by}
use Rattle.flute_wire.proofs.Walking.{same_extensions}
use Rattle.flute_wire.proofs.FirstRefusal.{carried, not_both}

-- a part that begins at offset i, and what follows it
next : (d a rest : List ℕ) (i j : ℕ) → drop i d ≡ a ++ rest → i + length a ≡ j
    → (slice_range d i j ≡ a) × (drop j d ≡ rest)
next d a rest i j at len =
    let n : length a ≡ j - i = omega arith in
    let back : i + length a ≡ j = len in (
      ap (take (j - i)) at ∙ take_at a rest (j - i) n,
      ap (λ (k : ℕ). drop k d) (sym back) ∙ sym
          (drop-drop (length a) i d) ∙ ap (drop (length a)) at ∙ drop_at a rest (length a) refl,
    )

-- the parts, by place
pub record ByPlace (d : List ℕ) (p : Parts) : Type 0 where
  pub word : fields (big_endian p.word) ≡ first_word d
  pub tsi : slice_range d (tsi_at (first_word d)) (toi_at (first_word d)) ≡ p.tsi
  pub toi : slice_range d (toi_at (first_word d)) (extensions_at (first_word d)) ≡ p.toi
  pub area : extension_area d ≡ p.area
  pub tail : after_header d ≡ p.tail
  pub long : 4 ≤ length d
  pub fixed : fixed_words (first_word d) ≤ (first_word d).header_words
  pub header : header_len (first_word d) ≤ length d

pub by_place : (d : List ℕ) (p : Parts) → HasParts d p → ByPlace d p
by_place d p h =
    let w = first_word d in
    let start : take 4 d ≡ p.word = ap (take 4) h.joined ∙ take_at p.word
    (p.cci ++ (p.tsi ++ (p.toi ++ (p.area ++ p.tail)))) 4 h.word in
    let word : fields (big_endian p.word) ≡ first_word d = search rules in
    let after : drop 4 d ≡ p.cci ++ (p.tsi ++ (p.toi ++ (p.area ++ p.tail))) = search rules in
    let len_cci : length p.cci ≡ cci_len w = h.cci ∙ ap cci_len word in
    let len_tsi : length p.tsi ≡ tsi_len w = h.tsi ∙ ap tsi_len word in
    let len_toi : length p.toi ≡ toi_len w = h.toi ∙ ap toi_len word in
    let len_all : length p.word + length p.cci + length p.tsi + length p.toi + length p.area ≡
    header_len w = h.header ∙ ap header_len word in
    let one = next d p.cci (p.tsi ++ (p.toi ++ (p.area ++ p.tail))) 4 (tsi_at w) after
    (omega (arith, len_cci)) in
    let two = next d p.tsi (p.toi ++ (p.area ++ p.tail)) (tsi_at w) (toi_at w) one.1
    (omega (arith, len_tsi)) in
    let three = next d p.toi (p.area ++ p.tail) (toi_at w) (extensions_at w) two.1
    (omega (arith, len_toi)) in
    let four = next d p.area p.tail (extensions_at w) (header_len w) three.1
    (omega (arith, len_cci, len_tsi, len_toi, len_all, h.word)) in
    let whole : length d ≡ length p.word +
    (length p.cci + (length p.tsi + (length p.toi + (length p.area + length p.tail)))) = ap length
    h.joined ∙ simp length-append in record {
      word = word;
      tsi = two.0;
      toi = three.0;
      area = four.0;
      tail = four.1;
      long = omega (arith, whole, h.word);
      fixed = omega (arith, len_cci, len_tsi, len_toi, len_all, h.word);
      header = omega (arith, whole, len_all);
    }

pub content_is : (d : List ℕ) (p : Parts) → ByPlace d p → content_of p ≡ content_by d p.extensions
content_is d p b = search rules

-- a datagram spells one packet at most
pub one_packet : (d : List ℕ) (a b : Content) → Spells d a → Spells d b → a ≡ b
one_packet d a b s t =
    let p = by_place d s.0 s.1 in
    let q = by_place d t.0 t.1 in
    let x : HasExtensions (extension_area d) s.0.extensions = search rules in
    let y : HasExtensions (extension_area d) t.0.extensions = search rules in
    let es = same_extensions (extension_area d) s.0.extensions t.0.extensions x y in
    s.3 ∙ content_is d s.0 p ∙ ap (content_by d) es ∙ sym (content_is d t.0 q) ∙ sym t.3

one_only : (bs : List (List ℕ)) → length bs ≤ 1 → 1 < length bs → ⊥
one_only bs one two = omega arith

some_first : (bs : List (List ℕ)) (P : List ℕ → Type 0) → IsSomeAnd (first bs) P → bs ≡ [] → ⊥
some_first [] P h e = h
some_first (b ∷ bs) P h e = cc

both_some : (o : Option (List ℕ)) (P Q : List ℕ → Type 0)
    (no_both : (b : List ℕ) → P b → Q b → ⊥) → IsSomeAnd o P → IsSomeAnd o Q → ⊥
both_some None P Q no_both h k = k
both_some (Some b) P Q no_both h k = no_both b h k

none_by : (d : List ℕ) (p : Parts) → HasParts d p → IsAccepted d p → ByPlace d p
    → HasExtensions (extension_area d) p.extensions → (r : Refusal) → Applies r d → ⊥
none_by d p h t b x TooLong a = let l = t.limit in omega arith
none_by d p h t b x TooShort a = let l = b.long in omega arith
none_by d p h t b x LctVersion a = a (ap (λ (w : FirstWord). w.version) (sym b.word) ∙ t.version)
none_by d p h t b x HeaderLength a = let l = b.fixed in omega arith
none_by d p h t b x HeaderCut a = let l = b.header in omega arith
none_by d p h t b x NoTsi a = let l = h.tsi ∙ ap tsi_len b.word in let m = t.tsi in omega arith
none_by d p h t b x NoToi a = let l = h.toi ∙ ap toi_len b.word in let m = t.toi in omega arith
none_by d p h t b x Codepoint a = a (ap (λ (w : FirstWord). w.codepoint) (sym b.word) ∙ t.codepoint)
none_by d p h t b x ExtensionLength a = a p.extensions x
none_by d p h t b x Repeated a = elim (carried d p.extensions x (λ es.
    (1 < length (bodies ext_fti es)) ⊎
    ((1 < length (bodies ext_fdt es)) ⊎ (1 < length (bodies ext_cenc es)))) a) [
      | inl two ↦ search rules
      | inr rest ↦ search rules
    ]
none_by d p h t b x FtiLength a = not_both (first (bodies ext_fti p.extensions))
    (λ body. (length body ≡ 15) × (info_fault (fti_information body) ≡ None))
    (λ body. length body ≡ 15 → ⊥) (λ body m n. n m.0) t.information (carried d p.extensions x
    (λ es. IsSomeAnd (first (bodies ext_fti es)) (λ body. length body ≡ 15 → ⊥)) a)
none_by d p h t b x (Information f) a = not_both (first (bodies ext_fti p.extensions))
    (λ body. (length body ≡ 15) × (info_fault (fti_information body) ≡ None))
    (λ body. info_fault (fti_information body) ≡ Some f) (λ body m n. let e = sym m.1 ∙ n in cc)
    t.information (carried d p.extensions x (λ es. IsSomeAnd (first (bodies ext_fti es))
    (λ body. info_fault (fti_information body) ≡ Some f)) a)
none_by d p h t b x NoInstance a = some_first (bodies ext_fdt p.extensions)
    (λ body. fdt_version body ≡ 2) (t.instance (ap big_endian (sym b.toi) ∙ a.0))
    (carried d p.extensions x (λ es. bodies ext_fdt es ≡ []) a.1)
none_by d p h t b x FluteVersion a = both_some (first (bodies ext_fdt p.extensions))
    (λ body. fdt_version body ≡ 2) (λ body. fdt_version body ≡ 2 → ⊥) (λ body m n. n m)
    (t.instance (ap big_endian (sym b.toi) ∙ a.0)) (carried d p.extensions x
    (λ es. IsSomeAnd (first (bodies ext_fdt es)) (λ body. fdt_version body ≡ 2 → ⊥)) a.1)
none_by d p h t b x ContentEncoded a = not_both (first (bodies ext_cenc p.extensions))
    (λ body. content_encoding body ≡ 0) (λ body. content_encoding body ≡ 0 → ⊥) (λ body m n. n m)
    t.plain (carried d p.extensions x
    (λ es. IsSomeAnd (first (bodies ext_cenc es)) (λ body. content_encoding body ≡ 0 → ⊥)) a)
none_by d p h t b x PayloadIdCut a =
    let len = ap length b.tail in
    elim t.payload [ inl none ↦ search rules | inr four ↦ omega (arith, a.0, a.1) ]

-- no refusal applies to what spells a packet
pub none_applies : (d : List ℕ) (c : Content) → Spells d c → (r : Refusal) → Applies r d → ⊥
none_applies d c s r a =
    let b = by_place d s.0 s.1 in
    let x : HasExtensions (extension_area d) s.0.extensions = search rules in
    none_by d s.0 s.1 s.2 b x r a

-- The packet that `packet` computes is the one that the datagram spells (specs/Reading).
use Rattle.std.proofs.Common.{rules}
use Rattle.std.proofs.Common.{◌≡◌, ℕ, zero, suc, ◌-◌, ◌*◌, ◌<◌, ◌≤◌}
use Rattle.std.proofs.Common.{◌⊎◌, List, [], ◌∷◌, ◌++◌, length, take, drop, Bool}
use Rattle.std.proofs.Common.{true, false, ◌&&◌, cond, eqb, ltb, leb, Option, Some, None, inl}
use Rattle.std.proofs.Common.{inr, refl, sym, ap, subst, ◌∙◌, arith}
use Rattle.std.specs.Prelude.{IfSome, IsSomeAnd, is_none, ◌↔◌}
use Rattle.std.specs.Option.{option_map, option_and_then}
use Rattle.std.proofs.lemmas.Bool.{and_parts, and_from, or_cases}
use Rattle.std.proofs.lemmas.Bool.{leb-true, ltb-true, eqb-true, le-leb, lt-ltb}
use Rattle.std.proofs.lemmas.Bool.{eq-eqb}
use Rattle.std.proofs.lemmas.List.{length-drop, take-append-drop, nil_from_length}
use Rattle.flute_parts.specs.Information.{info_fault}
use Rattle.flute_parts.specs.declared.info.InfoFault.{InfoFault}
use Rattle.flute_parts.specs.BigEndian.{big_endian}
use Rattle.flute_wire.specs.Header.{first_word, tsi_len, toi_len, toi_in, extension_area}
use Rattle.flute_wire.specs.Header.{after_header}
use Rattle.flute_wire.specs.Extensions.{HeaderExtension, HasExtensions, IsExtension}
use Rattle.flute_wire.specs.Extensions.{extension_bytes, bodies, ext_fti, ext_fdt, ext_cenc}
use Rattle.flute_wire.specs.Extensions.{fti_information, fdt_version, content_encoding, first}
use Rattle.flute_wire.specs.Content.{Content}
use Rattle.flute_wire.specs.Datagram.{Spells}
use Rattle.flute_wire.specs.Facts.{facts_of}
use Rattle.flute_wire.specs.declared.refusal.Refusal.{Refusal}
use Rattle.flute_wire.specs.Refusals.{Applies}
use Rattle.flute_wire.specs.Reading.{words_at, extensions_in, has_header, is_accepted, passes, has}
use Rattle.flute_wire.specs.Reading.{content_by, accepted, packet, packet_facts, facts}
use Rattle.flute_wire.proofs.Decision.{words_first, front, goes_on}
use Rattle.flute_wire.proofs.Walking.{no_bytes, same_extension}
use Rattle.flute_wire.proofs.OneReading.{by_place, content_is, none_applies}
use Rattle.flute_wire.proofs.Spelling.{IsWhole, parts_of, has_parts}

-- ---- the extensions

-- one extension more
step : (t : Bool) (e : HeaderExtension) (o : Option (List HeaderExtension))
    (es : List HeaderExtension) → cond t (option_map (λ more. e ∷ more) o) None ≡ Some es
    → (t ≡ true) × ((more : List HeaderExtension) × (o ≡ Some more) × (e ∷ more ≡ es))
step x0 x1 x2 x3 x4 = search rules

made : (t : Bool) (e f : HeaderExtension) (o : Option (List HeaderExtension))
    (fs : List HeaderExtension) → t ≡ true → o ≡ Some fs → e ≡ f
    → cond t (option_map (λ more. e ∷ more) o) None ≡ Some (f ∷ fs)
made t e f o fs a b c = rw (a, b, c) refl

pub extensions_in-HasExtensions : (n : ℕ) (bs : List ℕ) (es : List HeaderExtension)
    → extensions_in n bs ≡ Some es → HasExtensions bs es
unfolding extensions_in
extensions_in-HasExtensions n [] es h = search rules
extensions_in-HasExtensions zero (het ∷ bs) es h = absurd cc
extensions_in-HasExtensions (suc n) (het ∷ bs) es h =
    let k = words_at het bs in
    let body = 4 * k - 1 in
    let e : HeaderExtension = record { het = het; body = take body bs } in
    let s = step (ltb 0 k && leb body (length bs)) e (extensions_in n (drop body bs)) es h in
    let t = and_parts (ltb 0 k) (leb body (length bs)) s.0 in
    let some : 0 < k = ltb-true 0 k t.0 in
    let room : body ≤ length bs = leb-true body (length bs) t.1 in
    let is : het ∷ bs ≡ extension_bytes e ++ drop body bs = ap (λ (l : List ℕ). het ∷ l)
    (sym (take-append-drop body bs)) in
    let more = extensions_in-HasExtensions n (drop body bs) s.1.0 s.1.1 in
    subst (λ (x : List HeaderExtension). HasExtensions (het ∷ bs) x) s.1.2 (goes_on e (het ∷ bs)
    (drop body bs) is (front het bs k refl some (omega (arith, some, room))) s.1.0 more)

pub extensions_in-Some : (n : ℕ) (bs : List ℕ) (es : List HeaderExtension) → length bs ≤ n
    → HasExtensions bs es → extensions_in n bs ≡ Some es
unfolding extensions_in
extensions_in-Some n [] es le x = ap (λ (l : List HeaderExtension). Some l) (sym (no_bytes es x))
extensions_in-Some zero (het ∷ bs) es le x = absurd (omega arith)
extensions_in-Some (suc n) (het ∷ bs) [] le x = let e = x.joined in absurd cc
extensions_in-Some (suc n) (het ∷ bs) (f ∷ fs) le x =
    let k = words_at het bs in
    let body = 4 * k - 1 in
    let e : HeaderExtension = record { het = het; body = take body bs } in
    let w = words_first het bs f fs x in
    let is : het ∷ bs ≡ extension_bytes e ++ drop body bs = ap (λ (l : List ℕ). het ∷ l)
    (sym (take-append-drop body bs)) in
    let whole : IsExtension e = front het bs k refl w.1 w.0 in
    let s = same_extension e f (drop body bs) _ whole x.each.0 (sym is ∙ x.joined) in
    let more = extensions_in-Some n (drop body bs) fs (omega (arith, length-drop body bs))
    (record { joined = s.1; each = x.each.1 }) in made (ltb 0 k && leb body (length bs)) e f
    (extensions_in n (drop body bs)) fs (and_from (ltb 0 k) (leb body (length bs)) (lt-ltb 0 k w.1)
    (le-leb body (length bs) (omega (arith, w.0)))) more s.0

-- ---- the header

pub has_header-IsWhole : (d : List ℕ) → has_header d ≡ true → IsWhole d (first_word d)
has_header-IsWhole d h =
    let w = first_word d in
    let a = and_parts _ _ h in
    let b = and_parts _ _ a.1 in
    let c = and_parts _ _ b.1 in
    let e = and_parts _ _ c.1 in
    let f = and_parts _ _ e.1 in
    let g = and_parts _ _ f.1 in
    let i = and_parts _ _ g.1 in
    record {
      limit = leb-true _ _ a.0;
      word = leb-true _ _ b.0;
      version = eqb-true _ _ c.0;
      fixed = leb-true _ _ e.0;
      header = leb-true _ _ f.0;
      tsi = ltb-true _ _ g.0;
      toi = ltb-true _ _ i.0;
      codepoint = eqb-true _ _ i.1;
    }

pub has_header-true : (d : List ℕ) → IsWhole d (first_word d) → has_header d ≡ true
has_header-true d h = search rules

-- ---- what the extensions say

-- this profile takes what the extensions say, and what follows the header
pub record Accepts (d : List ℕ) (es : List HeaderExtension) : Type 0 where
  pub one_fti : length (bodies ext_fti es) ≤ 1
  pub one_fdt : length (bodies ext_fdt es) ≤ 1
  pub one_cenc : length (bodies ext_cenc es) ≤ 1
  pub information : IfSome (first (bodies ext_fti es))
      (λ body. (length body ≡ 15) × (info_fault (fti_information body) ≡ None))
  pub instance : toi_in d ≡ 0 → IsSomeAnd (first (bodies ext_fdt es)) (λ body. fdt_version body ≡ 2)
  pub plain : IfSome (first (bodies ext_cenc es)) (λ body. content_encoding body ≡ 0)
  pub payload : (after_header d ≡ []) ⊎ (4 ≤ length (after_header d))

none_is : (o : Option InfoFault) → is_none o ≡ true → o ≡ None
none_is x0 x1 = search rules

is_none-true : (o : Option InfoFault) → o ≡ None → is_none o ≡ true
is_none-true o e = rw e refl

fti_passes : (o : Option (List ℕ)) → passes
    (λ body. (eqb (length body) 15) && is_none (info_fault (fti_information body))) o ≡ true →
    IfSome o (λ body. (length body ≡ 15) × (info_fault (fti_information body) ≡ None))
fti_passes None h = tt
fti_passes (Some body) h = let a = and_parts _ _ h in (eqb-true _ _ a.0, none_is _ a.1)

passes_fti : (o : Option (List ℕ)) → IfSome o
    (λ body. (length body ≡ 15) × (info_fault (fti_information body) ≡ None)) → passes
    (λ body. (eqb (length body) 15) && is_none (info_fault (fti_information body))) o ≡ true
passes_fti None h = refl
passes_fti (Some body) h = and_from _ _ (eq-eqb _ _ h.0) (is_none-true _ h.1)

cenc_passes : (o : Option (List ℕ)) → passes (λ body. eqb (content_encoding body) 0) o ≡ true
    → IfSome o (λ body. content_encoding body ≡ 0)
cenc_passes x0 x1 = search rules

passes_cenc : (o : Option (List ℕ)) → IfSome o (λ body. content_encoding body ≡ 0)
    → passes (λ body. eqb (content_encoding body) 0) o ≡ true
passes_cenc x0 x1 = search rules

fdt_has : (o : Option (List ℕ)) → has (λ body. eqb (fdt_version body) 2) o ≡ true
    → IsSomeAnd o (λ body. fdt_version body ≡ 2)
fdt_has x0 x1 = search rules

-- a test that is asked for TOI 0 alone
when_zero : (toi : ℕ) (b : Bool) → cond (eqb toi 0) b true ≡ true → toi ≡ 0 → b ≡ true
when_zero toi b h e = let t : eqb toi 0 ≡ true = eq-eqb toi 0 e in rw t at h

pub is_accepted-Accepts : (d : List ℕ) (es : List HeaderExtension) → is_accepted d es ≡ true
    → Accepts d es
is_accepted-Accepts d es h =
    let a = and_parts _ _ h in
    let b = and_parts _ _ a.1 in
    let c = and_parts _ _ b.1 in
    let e = and_parts _ _ c.1 in
    let f = and_parts _ _ e.1 in
    let g = and_parts _ _ f.1 in
    record {
      one_fti = leb-true _ _ a.0;
      one_fdt = leb-true _ _ b.0;
      one_cenc = leb-true _ _ c.0;
      information = fti_passes _ e.0;
      instance = search rules;
      plain = cenc_passes _ g.0;
      payload = elim (or_cases _ _ g.1) [
        | inl none ↦ inl (nil_from_length _ (eqb-true _ _ none))
        | inr four ↦ inr (leb-true _ _ four)
      ];
    }

pub is_accepted-true : (d : List ℕ) (es : List HeaderExtension) → Accepts d es
    → is_accepted d es ≡ true
is_accepted-true d es h = search rules

-- ---- the packet

spells_by : (d : List ℕ) (es : List HeaderExtension) → IsWhole d (first_word d)
    → HasExtensions (extension_area d) es → Accepts d es → Spells d (content_by d es)
unfolding parts_of
spells_by d es w x a =
    let h = has_parts d es w x in (
      parts_of d es,
      h,
      record {
        limit = w.limit;
        version = w.version;
        codepoint = w.codepoint;
        tsi = omega (arith, h.tsi, w.tsi);
        toi = omega (arith, h.toi, w.toi);
        one_fti = a.one_fti;
        one_fdt = a.one_fdt;
        one_cenc = a.one_cenc;
        information = a.information;
        instance = a.instance;
        plain = a.plain;
        payload = a.payload;
      },
      refl,
    )

-- a computation of an option that gives a value has gone through
through_if : (t : Bool) (o : Option Content) (c : Content) → cond t o None ≡ Some c
    → (t ≡ true) × (o ≡ Some c)
through_if true o c h = (refl, h)
through_if false o c h = absurd cc

through_then : (f : List HeaderExtension → Option Content) (o : Option (List HeaderExtension))
    (c : Content) → option_and_then f o ≡ Some c
    → (es : List HeaderExtension) × (o ≡ Some es) × (f es ≡ Some c)
through_then f None c h = absurd cc
through_then f (Some es) c h = (es, refl, h)

some_is : {p q : Content} → (let a : Option Content = Some p in a) ≡ Some q → p ≡ q
some_is e = cc

packet-Spells : (d : List ℕ) (c : Content) → packet d ≡ Some c → Spells d c
unfolding packet
packet-Spells d c h =
    let a = through_if (has_header d) _ c h in
    let b = through_then (accepted d) (extensions_in (length (extension_area d)) (extension_area d))
    c a.1 in
    let e = through_if (is_accepted d b.0) (Some (content_by d b.0)) c b.2 in
    subst (λ (x : Content). Spells d x) (some_is e.1) (spells_by d b.0 (has_header-IsWhole d a.0)
    (extensions_in-HasExtensions _ _ b.0 b.1) (is_accepted-Accepts d b.0 e.0))

packet-Some : (d : List ℕ) (c : Content) → Spells d c → packet d ≡ Some c
unfolding packet
packet-Some d c s =
    let p = s.0 in
    let h = s.1 in
    let t = s.2 in
    let b = by_place d p h in
    let tsi = h.tsi ∙ ap tsi_len b.word in
    let toi = h.toi ∙ ap toi_len b.word in
    let whole : IsWhole d (first_word d) = search rules in
    let x : HasExtensions (extension_area d) p.extensions = search rules in
    let a : Accepts d p.extensions = record {
      one_fti = t.one_fti;
      one_fdt = t.one_fdt;
      one_cenc = t.one_cenc;
      information = t.information;
      instance = λ zero. t.instance (ap big_endian (sym b.toi) ∙ zero);
      plain = t.plain;
      payload = subst (λ (l : List ℕ). (l ≡ []) ⊎ (4 ≤ length l)) (sym b.tail) t.payload;
    } in
    let one = has_header-true d whole in
    let two = extensions_in-Some (length (extension_area d)) (extension_area d) p.extensions
    (omega arith) x in
    let three = is_accepted-true d p.extensions a in
    let four = s.3 ∙ content_is d p b in
    rw (one, two, three) (ap (λ (z : Content). Some z) (sym four))

-- what is computed is the packet that is spelled
pub packet-iff : (d : List ℕ) (c : Content) → (packet d ≡ Some c) ↔ Spells d c
packet-iff d c = (packet-Spells d c, packet-Some d c)

pub facts-Spells : (sender : ℕ) (d : List ℕ) (c : Content) → Spells d c
    → facts sender d ≡ facts_of sender c
unfolding facts
facts-Spells sender d c s = ap (packet_facts sender) (packet-Some d c s)

facts_by : (sender : ℕ) (d : List ℕ) (o : Option Content) → packet d ≡ o
    → ((c : Content) → Spells d c → ⊥) → packet_facts sender o ≡ []
facts_by sender d None e none = refl
facts_by sender d (Some c) e none = absurd (none c (packet-Spells d c e))

-- a refused datagram contains no fact
pub facts-refused : (sender : ℕ) (d : List ℕ) (r : Refusal) → Applies r d → facts sender d ≡ []
unfolding facts
facts-refused sender d r a = facts_by sender d (packet d) refl (λ c s. none_applies d c s r a)

-- A datagram that passes the checks spells a packet (specs/Datagram: Spells).
use Rattle.std.proofs.Common.{rules}
use Rattle.std.proofs.Common.{◌≡◌, ℕ, ◌+◌, ◌-◌, ◌<◌, ◌≤◌, ◌⊎◌, List}
use Rattle.std.proofs.Common.{[], ◌++◌, length, take, drop, cond, eqb, Option, None}
use Rattle.std.proofs.Common.{refl, sym, ap, subst, ◌∙◌, arith}
use Rattle.std.specs.Prelude.{IfSome, IsSomeAnd, slice_range}
use Rattle.std.specs.Option.{option_to_list, option_map}
use Rattle.std.proofs.lemmas.List.{length-take-le, length-drop, take-append-drop, drop-drop}
use Rattle.flute_parts.specs.Information.{info_fault}
use Rattle.flute_wire.specs.declared.first_word.FirstWord.{FirstWord}
use Rattle.flute_wire.specs.declared.refusal.Refusal.TheVariants.{TooLong, TooShort, LctVersion}
use Rattle.flute_wire.specs.declared.refusal.Refusal.TheVariants.{HeaderLength, HeaderCut, NoTsi}
use Rattle.flute_wire.specs.declared.refusal.Refusal.TheVariants.{NoToi, Codepoint}
use Rattle.flute_wire.specs.Header.{first_word, tsi_len, toi_len, header_len, fixed_words, tsi_at}
use Rattle.flute_wire.specs.Header.{toi_at, extensions_at, tsi_in, toi_in, extension_area}
use Rattle.flute_wire.specs.Header.{after_header}
use Rattle.flute_wire.specs.Extensions.{HeaderExtension, HasExtensions, bodies, ext_fti, ext_fdt}
use Rattle.flute_wire.specs.Extensions.{ext_cenc, fti_information, fdt_version, fdt_instance}
use Rattle.flute_wire.specs.Extensions.{content_encoding, first}
use Rattle.flute_wire.specs.Content.{Content}
use Rattle.flute_wire.specs.Datagram.{Parts, HasParts, tail_symbol, Spells}
use Rattle.flute_wire.specs.Refusals.{PassesUpTo}
use Rattle.flute_wire.specs.Walk.{Finds}

-- a cut of a list
cut : (d : List ℕ) (i j : ℕ) → i ≤ j → drop i d ≡ slice_range d i j ++ drop j d
cut d i j le =
    let at : i + (j - i) ≡ j = omega arith in
    sym (take-append-drop (j - i) (drop i d)) ∙ ap (λ (l : List ℕ). take (j - i) (drop i d) ++ l)
    (drop-drop (j - i) i d ∙ ap (λ (k : ℕ). drop k d) at)

length-slice : (d : List ℕ) (i j : ℕ) → i ≤ j → j ≤ length d → length (slice_range d i j) ≡ j - i
length-slice d i j le fits = length-take-le (j - i) (drop i d) (omega (arith, length-drop i d))

pub stable : (m n : ℕ) → ((m ≡ n → ⊥) → ⊥) → m ≡ n
stable m n h = search rules

-- what the first checks leave true
pub record IsWhole (d : List ℕ) (w : FirstWord) : Type 0 where
  pub limit : length d ≤ 65535
  pub word : 4 ≤ length d
  pub version : w.version ≡ 1
  pub fixed : fixed_words w ≤ w.header_words
  pub header : header_len w ≤ length d
  pub tsi : 0 < tsi_len w
  pub toi : 0 < toi_len w
  pub codepoint : w.codepoint ≡ 0

pub is_whole : (d : List ℕ) → PassesUpTo 9 d → IsWhole d (first_word d)
is_whole d p =
    let a = p TooLong (omega arith) in
    let b = p TooShort (omega arith) in
    let c = p LctVersion (omega arith) in
    let e = p HeaderLength (omega arith) in
    let f = p HeaderCut (omega arith) in
    let g = p NoTsi (omega arith) in
    let h = p NoToi (omega arith) in
    let i = p Codepoint (omega arith) in
    record {
      limit = omega (arith, a);
      word = omega (arith, b);
      version = stable (first_word d).version 1 c;
      fixed = omega (arith, e);
      header = omega (arith, f);
      tsi = omega (arith, g);
      toi = omega (arith, h);
      codepoint = stable (first_word d).codepoint 0 i;
    }

-- if that is true, none of the first checks refuses
pub passes_whole : (d : List ℕ) → IsWhole d (first_word d) → PassesUpTo 9 d
passes_whole d h _ lt a = search rules

-- the parts, cut out by place
unfoldable pub parts_of : List ℕ → List HeaderExtension → Parts
parts_of d es = let w = first_word d in record {
  word = take 4 d;
  cci = slice_range d 4 (tsi_at w);
  tsi = slice_range d (tsi_at w) (toi_at w);
  toi = slice_range d (toi_at w) (extensions_at w);
  area = extension_area d;
  extensions = es;
  tail = after_header d;
}

pub has_parts : (d : List ℕ) (es : List HeaderExtension) → IsWhole d (first_word d)
    → HasExtensions (extension_area d) es → HasParts d (parts_of d es)
unfolding parts_of
has_parts d es h x =
    let w = first_word d in
    let one = length-take-le 4 d h.word in
    let two = length-slice d 4 (tsi_at w) (omega arith) (omega (arith, h.fixed, h.header)) in
    let three = length-slice d (tsi_at w) (toi_at w) (omega arith)
    (omega (arith, h.fixed, h.header)) in
    let four = length-slice d (toi_at w) (extensions_at w) (omega arith)
    (omega (arith, h.fixed, h.header)) in
    let five = length-slice d (extensions_at w) (header_len w) (omega (arith, h.fixed)) h.header in
    let cut_5 = cut d (extensions_at w) (header_len w) (omega (arith, h.fixed)) in
    let cut_4 = cut d (toi_at w) (extensions_at w) (omega arith) ∙ ap
    (λ (l : List ℕ). slice_range d (toi_at w) (extensions_at w) ++ l) cut_5 in
    let cut_3 = cut d (tsi_at w) (toi_at w) (omega arith) ∙ ap
    (λ (l : List ℕ). slice_range d (tsi_at w) (toi_at w) ++ l) cut_4 in
    let cut_2 = cut d 4 (tsi_at w) (omega arith) ∙ ap
    (λ (l : List ℕ). slice_range d 4 (tsi_at w) ++ l) cut_3 in record {
      joined = sym (take-append-drop 4 d) ∙ ap (λ (l : List ℕ). take 4 d ++ l) cut_2;
      word = one;
      cci = two ∙ omega arith;
      tsi = three ∙ omega arith;
      toi = four ∙ omega arith;
      header = omega (arith, one, two, three, four, five, h.fixed);
      extensions = x;
    }

pub few : (found : Option (List ℕ)) (bs : List (List ℕ)) → bs ≡ option_to_list found → length bs ≤ 1
few x0 x1 x2 = search rules

pub same_content : (a b : Content) → a.tsi ≡ b.tsi → a.toi ≡ b.toi
    → a.instance ≡ b.instance → a.info ≡ b.info → a.symbol ≡ b.symbol → a ≡ b
same_content a b one two three four five = search rules

-- what a datagram says, by place
pub content_at : List ℕ → Option (List ℕ) → Option (List ℕ) → Content
content_at d fti fdt = record {
  tsi = tsi_in d;
  toi = toi_in d;
  instance = cond (eqb (toi_in d) 0) (option_map fdt_instance fdt) None;
  info = option_map fti_information fti;
  symbol = tail_symbol (after_header d);
}

pub spells : {d : List ℕ} {fti fdt cenc : Option (List ℕ)} → PassesUpTo 9 d → Finds
    (extension_area d) fti fdt cenc → IfSome fti
    (λ body. (length body ≡ 15) × (info_fault (fti_information body) ≡ None)) →
    (toi_in d ≡ 0 → IsSomeAnd fdt (λ body. fdt_version body ≡ 2)) → IfSome cenc
    (λ body. content_encoding body ≡ 0) → (after_header d ≡ []) ⊎ (4 ≤ length (after_header d)) →
    Spells d (content_at d fti fdt)
unfolding parts_of content_at
spells {d = d} {fti = fti} {fdt = fdt} {cenc = cenc} p f one two three four =
    let w = is_whole d p in
    let fti_at : first (bodies ext_fti f.extensions) ≡ fti = search rules in
    let fdt_at : first (bodies ext_fdt f.extensions) ≡ fdt = search rules in
    let cenc_at : first (bodies ext_cenc f.extensions) ≡ cenc = search rules in
    let h = has_parts d f.extensions w f.spelled in (
      parts_of d f.extensions,
      h,
      record {
        limit = w.limit;
        version = w.version;
        codepoint = w.codepoint;
        tsi = omega (arith, h.tsi, w.tsi);
        toi = omega (arith, h.toi, w.toi);
        one_fti = few fti (bodies ext_fti f.extensions) f.fti_is;
        one_fdt = few fdt (bodies ext_fdt f.extensions) f.fdt_is;
        one_cenc = search rules;
        information = search rules;
        instance = search rules;
        plain = search rules;
        payload = four;
      },
      rw (fti_at, fdt_at) refl,
    )

pub spells_content : {d tail : List ℕ} (fti fdt : Option (List ℕ)) (c : Content) → Spells d
    (content_at d fti fdt) → tail ≡ after_header d → (c.tsi ≡ tsi_in d) × (c.toi ≡ toi_in d) →
    c.instance ≡ cond (eqb c.toi 0) (option_map fdt_instance fdt) None →
    (c.info ≡ option_map fti_information fti) × (c.symbol ≡ tail_symbol tail) → Spells d c
unfolding content_at
spells_content {d = d} fti fdt c s is (one, two) three (four, five) =
    let same : c ≡ content_at d fti fdt = search rules in subst (λ (x : Content). Spells d x) (sym same) s

-- Header::read: the fields of the first word, and where the others are.
use Rattle.std.proofs.Common.{rules}
use Rattle.std.proofs.lemmas.Grind.{common_steps}
use Rattle.std.proofs.Common.{◌≡◌, ℕ, ◌+◌, ◌*◌, ◌-◌, ◌^◌, ◌<◌, ◌≤◌, List, length, take, drop}
use Rattle.std.proofs.Common.{get_or, refl, sym, ap, subst, ◌∙◌, arith}
use Rattle.std.specs.Prelude.{slice_range}
use Rattle.std.proofs.lemmas.List.{take_all, length-drop}
use Rattle.byteorder.specs.Endian.{big_from}
use Rattle.flute_parts.specs.BigEndian.{big_endian}
use Rattle.flute_wire.specs.declared.first_word.FirstWord.{FirstWord}
use Rattle.flute_wire.specs.Header.{fields, first_word, fixed_words, header_len, tsi_at, toi_at}
use Rattle.flute_wire.specs.Header.{extensions_at}
use Rattle.flute_wire.specs.Refusals.{PassesUpTo}
use Rattle.flute_wire.proofs.BigEndian.{big_from-big_endian, below_bytes}
use Rattle.flute_wire.proofs.Spelling.{passes_whole}
use Rattle.flute_wire.proofs.header.Header.read.Goals as goal

range : (d : List ℕ) (a n i j : ℕ) → a ≡ i → n ≡ j - i → take n (drop a d) ≡ slice_range d i j
range d a n i j p q = rw (p, q) refl

behind : (d : List ℕ) (a : ℕ) → take (length d - a) (drop a d) ≡ drop a d
behind d a = take_all (length d - a) (drop a d) (let len = length-drop a d in omega arith)

-- the number in n bytes from place a on
number_at : {x : ℕ} (d : List ℕ) (a n i j : ℕ) → x ≡ big_from 0 n (take (length d - a) (drop a d)) →
    (a ≡ i) × (n ≡ j - i) → a + n ≤ length d → x ≡ big_endian (slice_range d i j)
number_at x0 x1 x2 x3 x4 x5 x6 x7 = grind (arith, common_steps, behind, big_from-big_endian, range)

below_at : (d : List ℕ) (a n x m : ℕ) → x ≡ big_from 0 n (take (length d - a) (drop a d))
    → ((i : ℕ) → get_or d i 0 < 256) → n ≤ m → x < 256 ^ m
below_at d a n x m is h le = subst (λ (y : ℕ). y < 256 ^ m)
    (sym (is ∙ ap (big_from 0 n) (behind d a))) (below_bytes a n m d h le)

passes_word : (d : List ℕ) → length d ≤ 65535 → 4 ≤ length d
    → (first_word d).version ≡ 1 → PassesUpTo 4 d
passes_word d limit word version _ lt a = search rules

pub returns-then-header_len-extensions_at-clause-refused :
    goal.returns-then-header_len-extensions_at-clause-refused
returns-then-header_len-extensions_at-clause-refused c =
    let d = c.args.datagram.now in
    let long : 4 ≤ length d = omega (arith, c.if-datagram-lt4.false) in
    let is : c.new-word.result ≡ first_word d = c.new-word.ensures ∙ ap fields
    (c.read_u32.ensures ∙ big_from-big_endian 4 d long) in
    let short : c.new-word.result.header_words < fixed_words c.new-word.result = omega (
      arith,
      c.from-half_word.ensures,
      c.from.ensures,
      c.from-2.ensures,
      c.from-3.ensures,
      c.from-header_len.ensures,
      c.if-header_len-extensions_at.true,
    ) in record {
      applies = search rules;
      first = passes_word d (omega (arith, c.if-datagram-gt-MAX_LEN.false)) long
          (ap (λ (w : FirstWord). w.version) (sym is) ∙ c.if-word-ne1.false);
    }

pub returns : goal.returns
returns c =
    let d = c.args.datagram.now in
    let w = c.new-word.result in
    let long : 4 ≤ length d = omega (arith, c.if-datagram-lt4.false) in
    let is : w ≡ first_word d =
    c.new-word.ensures ∙ ap fields (c.read_u32.ensures ∙ big_from-big_endian 4 d long) in
    let half = c.from-half_word.ensures ∙ ap (λ (v : FirstWord). v.half_word) is in
    let tsi = c.from.ensures ∙ ap (λ (v : FirstWord). v.tsi_words) is in
    let toi = c.from-2.ensures ∙ ap (λ (v : FirstWord). v.toi_words) is in
    let cci = c.from-3.ensures ∙ ap (λ (v : FirstWord). v.congestion_words) is in
    let header = c.from-header_len.ensures ∙ ap (λ (v : FirstWord). v.header_words) is in
    let f = first_word d in
    let fixed = c.if-header_len-extensions_at.false in
    let whole = c.if-datagram-header_len.false in
    let tsi_begins : 8 + 4 * c.from-3.result ≡ tsi_at f = omega (arith, cci) in
    let toi_begins : 8 + 4 * c.from-3.result + (4 * c.from.result + 2 * c.from-half_word.result)
    ≡ toi_at f = omega (arith, cci, tsi, half) in
    let begins : 8 + 4 * c.from-3.result + (4 * c.from.result + 2 * c.from-half_word.result)
    + (4 * c.from-2.result + 2 * c.from-half_word.result) ≡ extensions_at f =
    omega (arith, cci, tsi, toi, half) in
    let ends : 4 * c.from-header_len.result ≡ header_len f = omega (arith, header) in
    let bytes : (i : ℕ) → get_or d i 0 < 256 = λ i. (c.type_inv.datagram i).fits in
    record {
      tsi = number_at {x = c.read_uint.result} d (8 + 4 * c.from-3.result) _ (tsi_at f) (toi_at f)
          c.read_uint.ensures (tsi_begins, omega (arith, tsi, half))
          (omega (arith, fixed, whole));
      tsi_fits = below_at d (8 + 4 * c.from-3.result) _ c.read_uint.result 6 c.read_uint.ensures
          bytes (omega (arith, tsi, half));
      toi = number_at {x = c.read_uint128.result} d _ _ (toi_at f) (extensions_at f)
          c.read_uint128.ensures (toi_begins, omega (arith, toi, half))
          (omega (arith, fixed, whole));
      toi_fits = below_at d _ _ c.read_uint128.result 14 c.read_uint128.ensures bytes
          (omega (arith, toi, half));
      extensions = range d _ _ (extensions_at f) (header_len f) begins
          (omega (arith, begins, ends));
      tail = behind d (4 * c.from-header_len.result) ∙ ap (λ (n : ℕ). drop n d) ends;
      passes = passes_whole d (record {
        limit = omega (arith, c.if-datagram-gt-MAX_LEN.false);
        word = long;
        version = ap (λ (v : FirstWord). v.version) (sym is)
            ∙ c.if-word-ne1.false;
        fixed = omega (arith, fixed, cci, tsi, toi, half, header);
        header = omega (arith, whole, header);
        tsi = omega (arith, c.if-tsi_len-eq0.false, tsi, half);
        toi = omega (arith, c.if-toi_len-eq0.false, toi, half);
        codepoint = ap (λ (v : FirstWord). v.codepoint) (sym is)
            ∙ c.if-word-ne0.false;
      });
      refused = tt;
    }

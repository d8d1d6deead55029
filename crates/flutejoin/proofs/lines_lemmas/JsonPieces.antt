-- Lines of JSON in the pieces in which they are written (specs/Json).
use Rattle.std.proofs.Common.{◌≡◌, ℕ, List, ◌++◌, length, Option, Some, None, codes, decimal}
use Rattle.std.proofs.Common.{Result, append_assoc, ap, refl, subst, sym, ◌∙◌}
use Rattle.hex.specs.Hex.{encode_lower}
use Rattle.flute_parts.specs.Devices.{Writes}
use Rattle.flute_parts.specs.declared.symbol_id.SymbolId.{SymbolId}
use Rattle.flute_wire.specs.Content.{Content}
use Rattle.flutejoin.specs.Json.{json_packet_lines}
use Rattle.flutejoin.specs.Json.{json_symbol, json_symbol_or_null}
use Rattle.flutejoin.specs.Lines.{line}
use Rattle.flutejoin.specs.Pieces.{json_packet_head}

-- Members, one after another, after what was put before them.

pub members3 : (a b c d : List ℕ) → ((a ++ b) ++ c) ++ d ≡ a ++ ((b ++ c) ++ d)
members3 a b c d = simp append_assoc refl

pub members4 : (a b c d e : List ℕ) → (((a ++ b) ++ c) ++ d) ++ e ≡ a ++ (((b ++ c) ++ d) ++ e)
members4 a b c d e = simp append_assoc refl

pub members5 : (a b c d e f : List ℕ)
    → ((((a ++ b) ++ c) ++ d) ++ e) ++ f ≡ a ++ ((((b ++ c) ++ d) ++ e) ++ f)
members5 a b c d e f = simp append_assoc refl

-- The lines of a packet: those before the symbol's, and that.

-- with the words `a` to `n` for an opening brace, "tsi": , a closing brace and a line feed
regroup : (a s e n t o i l : List ℕ) → (((a ++ (s ++ t)) ++ e) ++ n) ++
    ((((a ++ o) ++ e) ++ n) ++ ((((a ++ i) ++ e) ++ n) ++ (((a ++ l) ++ e) ++ n))) ≡
    (((((((a ++ s) ++ t) ++ ((e ++ n) ++ a)) ++ o) ++ ((e ++ n) ++ a)) ++ i) ++ (e ++ n)) ++
    (a ++ (l ++ (e ++ n)))
regroup a s e n t o i l = simp append_assoc refl

packet_pieces : (c : Content) → json_packet_lines c
    ≡ json_packet_head c ++ (codes "{" ++ (json_symbol_or_null c.symbol ++ codes "}\n"))
unfolding json_packet_lines json_packet_head
packet_pieces c = regroup (codes "{") (codes "\"tsi\":") (codes "}") (codes "\n") (decimal c.tsi) _
    _ _

with_bytes : (h s b e : List ℕ)
    → (((h ++ codes "{") ++ s) ++ b) ++ (e ++ codes "\"}}\n")
    ≡ h ++ (codes "{" ++ ((((s ++ b) ++ e) ++ codes "\"}") ++ codes "}\n"))
with_bytes h s b e = simp append_assoc refl

with_none : (h n : List ℕ)
    → line ((h ++ codes "{") ++ (n ++ codes "}")) ≡ h ++ (codes "{" ++ (n ++ codes "}\n"))
with_none h n = simp append_assoc refl

-- the line of the symbol, by what there is of it
last_line : (c : Content) (s : Option (SymbolId × List ℕ)) → c.symbol ≡ s → json_packet_lines c
    ≡ json_packet_head c ++ (codes "{" ++ (json_symbol_or_null s ++ codes "}\n"))
last_line c s is = packet_pieces c
    ∙ ap (λ x. json_packet_head c ++ (codes "{" ++ (json_symbol_or_null x ++ codes "}\n"))) is

module _ {T E : Type 0} (c : Content) (old new : Option (List ℕ)) where
  pub symbol_written : (id : SymbolId) (bytes : List ℕ) {words : List ℕ} (r : Result T E)
      → c.symbol ≡ Some (id, bytes)
      → words ≡ ((json_packet_head c ++ codes "{") ++ json_symbol id (length bytes))
      ++ codes ",\"bytes\":\""
      → Writes old new (words ++ (encode_lower bytes ++ codes "\"}}\n")) r
      → Writes old new (json_packet_lines c) r
  symbol_written id bytes {words = words} r is w done =
      let all = last_line c (Some (id, bytes)) is
      ∙ sym (with_bytes (json_packet_head c) (json_symbol id (length bytes))
      (codes ",\"bytes\":\"") (encode_lower bytes)) in
      subst (λ (x : List ℕ). Writes old new x r) (sym all)
      (subst (λ (x : List ℕ). Writes old new (x ++ (encode_lower bytes ++ codes "\"}}\n")) r) w
      done)

  pub none_written : {words : List ℕ} (r : Result T E) → c.symbol ≡ None
      → words ≡ (json_packet_head c ++ codes "{") ++ codes "\"symbol\":null}"
      → Writes old new (line words) r → Writes old new (json_packet_lines c) r
  none_written r is w done =
      let all = last_line c _ is ∙ sym (with_none _ (codes "\"symbol\":null")) in
      rw all (subst (λ x. Writes old new (line x) r) w done)

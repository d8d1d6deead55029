-- Lines in the pieces in which they are written (specs/Pieces).
use Rattle.std.proofs.Common.{arith}
use Rattle.std.proofs.lemmas.Grind.{common_steps}
use Rattle.std.proofs.Common.{rules}
use Rattle.std.proofs.Common.{◌≡◌, ℕ, List, [], ◌++◌, Option, codes}
use Rattle.std.proofs.Common.{decimal, Result, refl, ap, ◌∙◌, append_assoc}
use Rattle.hex.specs.Hex.{encode_lower}
use Rattle.flute_parts.specs.declared.symbol_id.SymbolId.{SymbolId}
use Rattle.flute_parts.specs.declared.fact.Fact.{Fact}
use Rattle.flute_parts.specs.declared.fact.Fact.TheVariants.{Info, InfoConflict, Symbol}
use Rattle.flute_parts.specs.declared.fact.Fact.TheVariants.{SymbolConflict}
use Rattle.flute_parts.specs.Devices.{Writes}
use Rattle.flute_wire.specs.Content.{Content}
use Rattle.flute_wire.specs.Facts.{object_named}
use Rattle.flutejoin.specs.Lines.{packet_lines, line, object_words, info_or_none, symbol_or_none}
use Rattle.flutejoin.specs.Lines.{fact_line}
use Rattle.flutejoin.specs.Pieces.{packet_head, symbol_head, payload, fact_head, fact_bytes}
use Rattle.flutejoin.proofs.lines_lemmas.Encoded.{encode_lower-nil}

-- the words for a symbol are its head, and then its bytes
symbol_pieces : (s : Option (SymbolId × List ℕ))
    → symbol_or_none s ≡ symbol_head s ++ encode_lower (payload s)
symbol_pieces = search (rules, encode_lower-nil)

regroup : (a b n o i h x : List ℕ) → ((a ++ b) ++ n) ++ ((o ++ n) ++ ((i ++ n) ++ ((h ++ x) ++ n)))
    ≡ (((((((a ++ b) ++ n) ++ o) ++ n) ++ i) ++ n) ++ h) ++ (x ++ n)
regroup a b n o i h x = simp append_assoc refl

packet_pieces : (c : Content) → packet_lines c
    ≡ packet_head c ++ (encode_lower (payload c.symbol) ++ codes "\n")
unfolding packet_lines packet_head
packet_pieces c =
    let front : List ℕ → List ℕ = λ s. line (codes "session " ++ decimal c.tsi) ++
    (line (object_words (object_named c.toi c.instance)) ++ (line (info_or_none c.info) ++ line s))
    in ap front (symbol_pieces _) ∙ regroup (codes "session ") (decimal c.tsi) (codes "\n")
    (object_words (object_named c.toi c.instance)) (info_or_none c.info) (symbol_head c.symbol)
    (encode_lower (payload c.symbol))

-- words alone, with no bytes after them
words_alone : (words : List ℕ) → line words ≡ words ++ (encode_lower [] ++ codes "\n")
words_alone words = search (rules, encode_lower-nil)

fact_pieces : (f : Fact) → fact_line f ≡ fact_head f ++ (encode_lower (fact_bytes f) ++ codes "\n")
unfolding fact_line fact_head
fact_pieces (Info key info) = words_alone _
fact_pieces (InfoConflict key) = words_alone _
fact_pieces (Symbol key id bytes) = grind (arith, common_steps)
fact_pieces (SymbolConflict key id) = words_alone _

-- words and bytes that were written are the lines that they are pieces of
pieces_written : {T E : Type 0} (old new : Option (List ℕ))
    {lines words bytes words' bytes' : List ℕ} (r : Result T E) → lines ≡ words ++
    (encode_lower bytes ++ codes "\n") → words' ≡ words → bytes' ≡ bytes → Writes old new
    (words' ++ (encode_lower bytes' ++ codes "\n")) r → Writes old new lines r
pieces_written old new {lines} {words} {words'} {bytes'} r is w b done =
    let same : words' ++ (encode_lower bytes' ++ codes "\n") ≡ lines = search rules in
    rw (← same) done

pub packet_written : {T E : Type 0} (c : Content) (old new : Option (List ℕ)) {words bytes : List ℕ}
    (r : Result T E) → words ≡ packet_head c → bytes ≡ payload c.symbol → Writes old new
    (words ++ (encode_lower bytes ++ codes "\n")) r → Writes old new (packet_lines c) r
packet_written c old new r w b done = search (rules, pieces_written, packet_pieces)

pub fact_written : {T E : Type 0} (f : Fact) (old new : Option (List ℕ)) {words bytes : List ℕ}
    (r : Result T E) → words ≡ fact_head f → bytes ≡ fact_bytes f → Writes old new
    (words ++ (encode_lower bytes ++ codes "\n")) r → Writes old new (fact_line f) r
fact_written f old new r w b done = search (rules, pieces_written, fact_pieces)

-- json_text: the members of each kind of fact, in braces (specs/Json).
use Rattle.std.proofs.Common.{◌≡◌, ◌++◌, append_assoc, codes, length, refl}
use Rattle.flute_parts.specs.Addresses.{fact_of}
use Rattle.flutejoin.specs.Json.{fact_members, json_id, json_information, json_name, json_sum}
use Rattle.flutejoin.specs.Json.{json_symbol}
use Rattle.flutejoin.proofs.lines_lemmas.JsonPieces.{members3, members4, members5}
use Rattle.flutejoin.proofs.show.entry_line.json_text.Goals as goal
use Rattle.flutejoin.proofs.show.entry_line.json_text.Goals.{in-Info, in-InfoConflict, in-Symbol}
use Rattle.flutejoin.proofs.show.entry_line.json_text.Goals.{in-SymbolConflict}

pub returns-clause-members : goal.returns-clause-members
returns-clause-members c =
    let told : c.match-fact.text
    ≡ codes "{" ++ fact_members c.args.style.sums (fact_of c.args.fact.now) = elim
    c.match-fact.branch [
      | in-Info w ↦ rw (
        w.in-Info.is,
        w.text-is,
        w.push_json_information.ensures.text,
        w.push-in-Info.ensures.text,
        w.push_json_name.ensures.text,
        c.push.ensures.text,
        c.new-text.ensures,
        w.length.ensures.value,
        w.symbol.ensures.value,
        w.block.ensures.value,
      ) (members3 (codes "{") (json_name w.in-Info.key) (codes ",")
          (json_information w.in-Info.info))
      | in-InfoConflict w ↦ rw (
        w.in-InfoConflict.is,
        w.text-is,
        w.push-in-InfoConflict.ensures.text,
        w.push_json_name-in-InfoConflict.ensures.text,
        c.push.ensures.text,
        c.new-text.ensures,
      ) (append_assoc (codes "{") (json_name w.in-InfoConflict.key)
          (codes ",\"info\":\"conflict\""))
      | in-Symbol w ↦ rw (
        w.in-Symbol.is,
        w.text-is,
        w.push-in-Symbol-2.ensures.text,
        w.push_json_sum.ensures.text,
        w.push_json_symbol.ensures.text,
        w.push-in-Symbol.ensures.text,
        w.push_json_name-in-Symbol.ensures.text,
        c.push.ensures.text,
        c.new-text.ensures,
      ) (members5 (codes "{") (json_name w.in-Symbol.key) (codes ",")
          (json_symbol w.in-Symbol.id (length w.in-Symbol.bytes.now))
          (json_sum c.args.style.sums w.in-Symbol.bytes.now) (codes "}"))
      | in-SymbolConflict w ↦ rw (
        w.in-SymbolConflict.is,
        w.text-is,
        w.push-in-SymbolConflict-2.ensures.text,
        w.push_json_id.ensures.text,
        w.push-in-SymbolConflict.ensures.text,
        w.push_json_name-in-SymbolConflict.ensures.text,
        c.push.ensures.text,
        c.new-text.ensures,
      ) (members4 (codes "{") (json_name w.in-SymbolConflict.key) (codes ",")
          (json_id w.in-SymbolConflict.id) (codes ",\"conflict\":true}"))
    ] in rw (c.push-2.ensures.text, told) refl

-- write_hex_line: the words, then two digits for each byte by its loop, or a part of them.
use Rattle.std.proofs.lemmas.Grind.{common_steps}
use Rattle.std.proofs.Common.{rules, ◌≡◌, ◌*◌, ◌≤◌, ◌++◌, ◌∙◌, [], List, ℕ, length, refl}
use Rattle.std.proofs.Common.{◌==◌, Bool, true, false, ◌∷◌, arith, ap, sym, subst, append-nil}
use Rattle.std.proofs.lemmas.Bool.{true≢false}
use Rattle.std.proofs.lemmas.Bool.Decides.{nat_tests}
use Rattle.std.specs.Io.KnownBytes.{Appends}
use Rattle.std.proofs.KnownBytes.{Appends-nil}
use Rattle.std.proofs.lemmas.Result.{err_from_is_err_and}
use Rattle.hex.specs.Hex.{encode_lower}
use Rattle.flute_parts.specs.Devices.{AppendsPart}
use Rattle.flute_parts.proofs.Public.{AppendsPart-first, AppendsPart-second, Writes-behind}
use Rattle.flutejoin.proofs.lines_lemmas.Encoded.{encode_lower-nil, front_more, digits_cut}
use Rattle.flutejoin.proofs.lines_lemmas.Encoded.{digits_more, room_kept}
use Rattle.flutejoin.proofs.lines.hex_digits.write_hex_line.Goals as goal

-- a slice that is empty
emptied : (l : List ℕ) (b : Bool) → b ≡ (length l == 0) → b ≡ true → l ≡ []
emptied x0 x1 x2 x3 = grind (arith, common_steps)

pub loop-rest-init : goal.loop-rest-init
loop-rest-init g c = (refl, ([], refl, rw encode_lower-nil (Appends-nil _)), refl)

pub returns-in_err-write_all-clause-line : goal.returns-in_err-write_all-clause-line
returns-in_err-write_all-clause-line g c = search (rules, err_from_is_err_and, AppendsPart-first)

pub returns-in_err-write_all-2-clause-line : goal.returns-in_err-write_all-2-clause-line
returns-in_err-write_all-2-clause-line g c =
    let e = err_from_is_err_and c.from_residual-in_err-write_all-2.result
    c.from_residual-in_err-write_all-2.ensures.1 in
    let w = c.loop-rest.invariant.1 in
    let s = c.split_at.result in
    let old = g.W.Sink.written c.args.sink.now in
    let mid = g.W.Sink.written c.write_all.new.self in
    let new = g.W.Sink.written c.write_all-in-loop-rest.new.self in
    let words = subst (λ (x : List ℕ). Appends old mid x) c.as_slice.ensures
    c.in_ok-write_all.ensures.bytes in rw e.1 (AppendsPart-second old mid new c.args.words.now _
    words (AppendsPart-first mid new (encode_lower c.args.bytes.now) c.args.end.now (digits_cut w.0
    s.0.now s.1.now (front_more w.0 c.loop-rest.rest.now c.min.result w.1 c.split_at.ensures.front
    c.split_at.ensures.back) c.put_digits.ensures w.2 c.in_err-write_all-2.ensures.bytes)))

pub loop-rest-preserved : goal.loop-rest-preserved
loop-rest-preserved g c =
    let w = c.loop-rest.invariant.1 in
    let s = c.split_at.result in
    let is = c.put_digits.ensures in
    let room : 2 * length s.0.now ≤ length c.loop-rest.digits = omega
    (arith, c.split_at.ensures.front_len, c.loop-rest.invariant.0) in (
      room_kept s.0.now
          c.put_digits.new.room c.loop-rest.digits is room ∙ c.loop-rest.invariant.0,
      (
        w.0 ++ s.0.now,
        front_more w.0 c.loop-rest.rest.now c.min.result w.1 c.split_at.ensures.front
            c.split_at.ensures.back,
        digits_more w.0 s.0.now (g.W.Sink.written c.write_all.new.self)
            (g.W.Sink.written c.loop-rest.sink) (g.W.Sink.written c.write_all-in-loop-rest.new.self) is w.2
            c.in_ok-write_all-2.ensures.bytes,
      ),
      search rules,
    )

pub returns-clause-line : goal.returns-clause-line
returns-clause-line g c =
    let w = c.loop-rest.invariant.1 in
    let old = g.W.Sink.written c.args.sink.now in
    let mid = g.W.Sink.written c.write_all.new.self in
    let last = g.W.Sink.written c.loop-rest.sink in
    let new = g.W.Sink.written c.write_all-2.new.self in
    let words = subst (λ (x : List ℕ). Appends old mid x) c.as_slice.ensures
    c.in_ok-write_all.ensures.bytes in
    let all : c.args.bytes.now ≡ w.0 = w.1 ∙ ap (λ (r : List ℕ). w.0 ++ r)
    (emptied c.loop-rest.rest.now c.is_empty.result c.is_empty.ensures c.loop-rest-test.false) ∙
    append-nil w.0 in Writes-behind old mid new c.args.words.now
    (encode_lower c.args.bytes.now ++ c.args.end.now) c.write_all-2.result words (Writes-behind mid last
    new (encode_lower c.args.bytes.now) c.args.end.now c.write_all-2.result
    (subst (λ (x : List ℕ). Appends mid last (encode_lower x)) (sym all) w.2)
    (rw c.as_bytes.ensures.value at c.write_all-2.ensures.bytes))

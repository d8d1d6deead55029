-- Bytes that were read ahead are given again.
use Rattle.std.proofs.Common.{rules}
use Rattle.std.proofs.Common.{◌≡◌, ℕ, ◌+◌, ◌≤◌, ◌++◌, ◌==◌, false, zero, suc, List, [], ◌∷◌, length, take, refl, Result}
use Rattle.std.proofs.Common.{drop, min, true, Option, Some, None, sym, ◌∙◌, ap, arith, append_assoc}
use Rattle.std.proofs.Common.{length-drop, length-append, length-take-le, take-append-drop}
use Rattle.std.proofs.lemmas.Bool.Decides.{nat_tests}
use Rattle.std.proofs.lemmas.Bool.{true≢false}
use Rattle.std.specs.Io.KnownBytes.{Consumes, ReadConsumes, prepend_known}
use Rattle.flute_parts.specs.declared.device.DeviceFault.{DeviceFault}
use Rattle.std.proofs.lemmas.List.{take_all, take-append-le, drop-drop, drop_min}
use Rattle.flutejoin.proofs.join.peeked_source.PeekedSourceSource.read.Goals as goal

given_again : (u : Option (List ℕ)) (front copy rest : List ℕ) (given n : ℕ) → copy ≡ take n
    (drop given front) → n ≤ length (drop given front)
    → Consumes (prepend_known (drop given front) u) (prepend_known (drop (given + n) front) u)
    (take n (copy ++ rest))
given_again None front copy rest given n e within = tt
given_again (Some more) front copy rest given n e within =
    let D = drop given front in
    let size : length copy ≡ n = ap length e ∙ length-take-le n D within in
    let first : take n (copy ++ rest) ≡ take n D = take-append-le n copy rest (omega (arith, size))
    ∙ take_all n copy (omega (arith, size)) ∙ e in
    let whole : D ≡ take n D ++ drop (given + n) front = sym (take-append-drop n D) ∙ ap
    (λ xs. take n D ++ xs) (drop-drop n given front) in
    rw first (ap (λ xs. xs ++ more) whole ∙ append_assoc (take n D) (drop (given + n) front) more)

-- what is left of the first bytes
left_of : (front : List ℕ) (given : ℕ) {first left : List ℕ} {n : ℕ} → left ≡ drop n first → n ≡ min
    given (length first) → first ≡ front → left ≡ drop given front
left_of front given {first} l n f = search (rules, drop_min)

nothing_before : (u : Option (List ℕ)) → prepend_known [] u ≡ u
nothing_before x0 = search rules

-- once they were given, the source is read
source_read : (left : List ℕ) (u v : Option (List ℕ)) (r : Result ℕ DeviceFault)
    (buffer : List ℕ) → true ≡ (length left == 0) → ReadConsumes u v r buffer
    → ReadConsumes (prepend_known left u) (prepend_known left v) r buffer
source_read [] u v r buffer e h = rw (nothing_before u, nothing_before v) h
source_read (x ∷ left) u v r buffer e h =
    let some : (length (x ∷ left) == 0) ≡ false = grind (arith, nat_tests) in
    absurd (true≢false (e ∙ some))

some_left : (n : ℕ) → false ≡ (n == 0) → n ≡ 0 → ⊥
some_left x0 x1 x2 = search rules

pub returns-then-is_empty-clause-bytes : goal.returns-then-is_empty-clause-bytes
returns-then-is_empty-clause-bytes g c =
    let front = take c.args.self.now.count c.args.self.now.first in
    let left = left_of front c.args.self.now.given c.split_at.ensures.back c.min.ensures
    c.first-first.ensures.bytes in source_read _ (g.R.Source.unread c.args.self.now.source)
    (g.R.Source.unread c.read.new.self) c.read.result c.read.new.buffer
    (c.if-is_empty.ensures ∙ ap (λ xs. length xs == 0) left) c.read.ensures.bytes

pub returns-clause-bytes : goal.returns-clause-bytes
returns-clause-bytes g c =
    let front = take c.args.self.now.count c.args.self.now.first in
    let given = c.args.self.now.given in
    let left : c.split_at.result.1.now ≡ drop given front = left_of front given
    c.split_at.ensures.back c.min.ensures c.first-first.ensures.bytes in
    let least : c.min-count.result ≡ min (length (drop given front)) (length c.args.buffer.now) =
    c.min-count.ensures ∙ ap (λ xs. min (length xs) (length c.args.buffer.now)) left in
    let copy = c.copy_from_slice.ensures.after ∙ ap (take c.min-count.result) left in (
      given_again (g.R.Source.unread c.args.self.now.source) front c.copy_from_slice.new.self _
          given c.min-count.result copy (omega (arith, least)),
      λ none filled. absurd (some_left
          (length (drop given front))
          (sym c.if-is_empty.false ∙ c.is_empty.ensures ∙ ap (λ xs. length xs == 0) left) (omega (
            arith,
            least,
            none,
            filled,
            length-append c.copy_from_slice.new.self
                (drop c.min-count.result c.args.buffer.now),
            length-drop c.min-count.result c.args.buffer.now,
            c.copy_from_slice.ensures.len,
            length-take-le c.min-count.result c.args.buffer.now
                (omega (arith, least)),
          ))),
    )

-- record_in: the bytes begin with the record of the datagram it returns.
use Rattle.flute_journal.proofs.Common.{◌≡◌, rules, ℕ, ◌+◌, ◌^◌, ◌<◌, List}
use Rattle.flute_journal.proofs.Common.{◌++◌, length, take, sym, ap, ◌∙◌, subst, arith}
use Rattle.flute_journal.proofs.Common.{length-append, AllByRecursion, IsByte}
use Rattle.flute_journal.specs.Lent.{BeginsWithRecord}
use Rattle.flute_journal.specs.Numbers.{in_bytes}
use Rattle.flute_journal.specs.Records.{record_of}
use Rattle.flute_journal.proofs.Numbers.{octets, octets-take, octets-drop}
use Rattle.flute_journal.proofs.format_lemmas.Decoded.{joined, in_front}
use Rattle.flute_journal.proofs.readers.lent.record_in.Goals as goal

-- the bytes of a datagram follow their number
record_begins : (n : ℕ) {number : List ℕ} (rest : List ℕ) {datagram : List ℕ} → in_bytes 2 n ≡
    number → length number ≡ 2 → datagram ≡ take n rest → length datagram ≡ n → n < 2 ^ 16 →
    AllByRecursion IsByte datagram → BeginsWithRecord (number ++ rest) datagram
record_begins n {number = number} rest {datagram = datagram} spelled two is size short octets =
    let begins = in_front number datagram rest n is in
    let long : length (number ++ datagram) ≡ 2 + length datagram = omega
    (arith, length-append number datagram, two) in
    let of_record : number ++ datagram ≡ record_of datagram = search rules in
    record {
      valid = search rules;
      within = omega (arith, begins.0, long);
      spelled = rw (← long) (begins.1 ∙ of_record);
    }

pub returns-clause-begins : goal.returns-clause-begins
returns-clause-begins c =
    let bytes = c.args.bytes.now in
    let number = c.in-Some.field.now in
    let rest = c.in-Some.rest.now in
    let datagram = c.in-Some-get.datagram.now in
    let n = c.length_in.result in
    let found = c.in-Some-get.ensures.lookup.0 in
    let split = c.in-Some.ensures.cases in
    let all : AllByRecursion IsByte bytes = octets bytes (λ i. (c.type_inv.bytes i).fits) in
    let size : length datagram ≡ n = omega (arith, found.3, c.from.ensures) in
    let is : datagram ≡ take n rest =
    found.2 ∙ ap (λ n. take n rest) (omega (arith, c.from.ensures)) in
    let own : AllByRecursion IsByte datagram = grind (arith, octets-take, octets-drop) in
    let kept : datagram ≡ c.in-Ok.datagram = search rules in
    subst (λ xs. BeginsWithRecord xs c.in-Ok.datagram) (sym (joined bytes number rest 2 split))
    (subst (BeginsWithRecord (number ++ rest)) kept
    (record_begins n rest c.length_in.ensures.spelled (search rules) is size (search rules) own))

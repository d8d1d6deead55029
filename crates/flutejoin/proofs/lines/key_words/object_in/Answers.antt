-- object_in: an FDT Instance by its ID, or a file by its TOI.
use Rattle.std.proofs.Common.{◌≡◌, ◌++◌, ap, arith, codes}
use Rattle.flute_parts.specs.ObjectName.{IsObjectName}
use Rattle.flute_parts.specs.declared.object_key.ObjectName.TheVariants.{File, Instance}
use Rattle.flutejoin.specs.Lines.{object_words}
use Rattle.flutejoin.proofs.info_lemmas.LinePieces.{by_name, no_file}
use Rattle.flutejoin.proofs.lines.key_words.object_in.Goals as goal

pub returns-in-Some : goal.returns-in-Some
returns-in-Some c = record {
  finds = λ name tail valid ends is. by_name (λ name. IsObjectName name → c.args.text.now ≡
      codes " " ++ (object_words name ++ tail) → (Instance c.in-Some.id ≡ name) ×
      (c.in-Some.rest.now ≡ tail)) (λ i valid is. let a = c.in-Some.ensures.finds i tail
      (omega (arith, valid)) ends is in (ap Instance a.0, a.1))
      (λ t valid is. absurd (no_file _ _ _ t valid.1 is c.in-Some.ensures.found.1)) _ valid is;
}

pub returns-in-Some-2 : goal.returns-in-Some-2
returns-in-Some-2 c = record {
  finds = λ name tail valid ends is. by_name (λ name. IsObjectName name → c.args.text.now ≡
      codes " " ++ (object_words name ++ tail) → ⊥) (λ i valid is. let a =
      c.in-Some.ensures.finds i tail (omega (arith, valid)) ends is in omega
      (arith, a.0, valid, c.if-id.false)) (λ t valid is. absurd (no_file _ _
      _ t valid.1 is c.in-Some.ensures.found.1)) _ valid is;
}

pub returns-in-Some-number_after : goal.returns-in-Some-number_after
returns-in-Some-number_after c = record {
  finds = λ name tail valid ends is. by_name (λ name. IsObjectName name → c.args.text.now ≡
      codes " " ++ (object_words name ++ tail) → (File c.in-Some-number_after.toi ≡ name) ×
      (c.in-Some-number_after.rest.now ≡ tail))
      (λ i valid is. absurd (c.in-None.ensures.finds i tail (omega (arith, valid)) ends is)) (λ
      t valid is. let a = c.in-Some-number_after.ensures.finds t tail (omega (arith, valid.1))
      ends is in (ap File a.0, a.1)) _ valid is;
}

pub returns-in-None-number_after : goal.returns-in-None-number_after
returns-in-None-number_after c = record {
  finds = λ name tail valid ends is. by_name (λ name. IsObjectName name → c.args.text.now ≡
      codes " " ++ (object_words name ++ tail) → ⊥)
      (λ i valid is. c.in-None.ensures.finds i tail (omega (arith, valid)) ends is) (λ t valid
      is. c.in-None-number_after.ensures.finds t tail (omega (arith, valid.1)) ends is) _
      valid is;
}

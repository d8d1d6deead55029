-- ObjectWriter::pass: what was found, after a fact of the object of each kind, or of another.
use Rattle.std.proofs.Common.{rules}
use Rattle.std.proofs.Common.{◌≡◌, [], ◌∷◌, ◌++◌, sym, ap, ◌∙◌, subst}
use Rattle.flute_parts.specs.Addresses.{address, fact_of}
use Rattle.flute_parts.specs.Facts.{IsRising}
use Rattle.flute_parts.specs.declared.address.Address.{Address}
use Rattle.flute_parts.specs.declared.fact.Fact.{Fact}
use Rattle.flute_parts.specs.declared.key.Key.{Key}
use Rattle.flute_parts.specs.declared.fact.Fact.TheVariants.{Info, InfoConflict, Symbol}
use Rattle.flute_parts.specs.declared.fact.Fact.TheVariants.{SymbolConflict}
use Rattle.flutejoin.specs.ObjectWriters.{Stands}
use Rattle.flutejoin.proofs.extract_lemmas.ObjectFacts.{not-same}
use Rattle.flutejoin.proofs.extract_lemmas.ObjectWriters.{other-passes}
use Rattle.flutejoin.proofs.gaps_lemmas.Keys.{equal_keys}
use Rattle.flutejoin.proofs.extract.object_writer.ObjectWriter.pass.Goals as goal

-- the fact is of the object
own : (fact : Fact) {here : Address} {key : Key} → here ≡ address fact → here.key ≡ key
    → (address fact).key ≡ key
own fact is same = search rules

pub returns-in-Info-clause-passed : goal.returns-in-Info-clause-passed
returns-in-Info-clause-passed g c = λ P start. let w = g.W.Sink.written c.args.sink.now in
    let same = own (fact_of c.args.fact.now) c.address.ensures (equal_keys _ _ c.if-eq.ensures) in
    let is = ap fact_of c.in-Info.is ∙ ap (λ k. Info k c.in-Info.info)
    (ap (λ f. (address f).key) (sym (ap fact_of c.in-Info.is)) ∙ same) in
    let Q : Fact → Type 0 = λ f. IsRising (P ++ f ∷ []) → Stands P c.args.self.now start w → Stands
    (P ++ f ∷ []) c.information.new.self start w in subst Q (sym is)
    (c.information.ensures.passed P start w)

pub returns-in-InfoConflict-clause-passed : goal.returns-in-InfoConflict-clause-passed
returns-in-InfoConflict-clause-passed g c = λ P start. let w = g.W.Sink.written c.args.sink.now in
    let same = own (fact_of c.args.fact.now) c.address.ensures (equal_keys _ _ c.if-eq.ensures) in
    let is = ap fact_of c.in-InfoConflict.is ∙ ap InfoConflict
    (ap (λ f. (address f).key) (sym (ap fact_of c.in-InfoConflict.is)) ∙ same) in
    let Q : Fact → Type 0 = λ f. IsRising (P ++ f ∷ []) → Stands P c.args.self.now start w → Stands
    (P ++ f ∷ []) c.information-in-InfoConflict.new.self start w in subst Q (sym is)
    (c.information-in-InfoConflict.ensures.passed P start w)

pub returns-in-Symbol-clause-passed : goal.returns-in-Symbol-clause-passed
returns-in-Symbol-clause-passed g c = λ P start. let w = g.W.Sink.written c.args.sink.now in
    let same = own (fact_of c.args.fact.now) c.address.ensures (equal_keys _ _ c.if-eq.ensures) in
    let w' = g.W.Sink.written c.symbol.new.sink in
    let is = ap fact_of c.in-Symbol.is ∙ ap (λ k. Symbol k c.in-Symbol.id c.in-Symbol.bytes.now)
    (ap (λ f. (address f).key) (sym (ap fact_of c.in-Symbol.is)) ∙ same) in
    let Q : Fact → Type 0 = λ f. IsRising (P ++ f ∷ []) → Stands P c.args.self.now start w → Stands
    (P ++ f ∷ []) c.symbol.new.self start w' in subst Q (sym is) (c.symbol.ensures.passed P start)

pub returns-in-SymbolConflict-clause-passed : goal.returns-in-SymbolConflict-clause-passed
returns-in-SymbolConflict-clause-passed g c = λ P start. let w = g.W.Sink.written c.args.sink.now in
    let same = own (fact_of c.args.fact.now) c.address.ensures (equal_keys _ _ c.if-eq.ensures) in
    let w' = g.W.Sink.written c.symbol-in-SymbolConflict.new.sink in
    let is = ap fact_of c.in-SymbolConflict.is ∙ ap (λ k. SymbolConflict k c.in-SymbolConflict.id)
    (ap (λ f. (address f).key) (sym (ap fact_of c.in-SymbolConflict.is)) ∙ same) in
    let Q : Fact → Type 0 = λ f. IsRising (P ++ f ∷ []) → Stands P c.args.self.now start w → Stands
    (P ++ f ∷ []) c.symbol-in-SymbolConflict.new.self start w' in subst Q (sym is)
    (c.symbol-in-SymbolConflict.ensures.passed P start)

pub returns-else-eq-clause-passed : goal.returns-else-eq-clause-passed
returns-else-eq-clause-passed g c = λ P start r h. other-passes P _ _ _ _ _
    (λ e. not-same _ _ c.if-eq.ensures (ap (λ a. a.key) c.address.ensures ∙ e)) h

-- ObjectWriter::end: the result, by what was found of the object (specs/ObjectWriters: Found).
use Rattle.std.proofs.Common.{rules}
use Rattle.std.proofs.Common.{[], sym, subst, append-nil}
use Rattle.flute_parts.specs.Partition.{symbol_id}
use Rattle.flute_parts.specs.declared.symbol_id.SymbolId.{SymbolId}
use Rattle.flute_journal.specs.JournalWriters.{Written}
use Rattle.flute_store.specs.Extract.{IsNotWhole}
use Rattle.flute_store.specs.Objects.{object}
use Rattle.flutejoin.specs.ObjectWriters.{HasFound}
use Rattle.flutejoin.proofs.extract_lemmas.ObjectFacts.{unheard}
use Rattle.flutejoin.proofs.extract_lemmas.ObjectWriters.{ended-gap, ended-turn, ended-whole}
use Rattle.flutejoin.proofs.extract_lemmas.ObjectWriters.{none-can-come, whole-written}
use Rattle.flutejoin.proofs.extract.object_writer.ObjectWriter.end.Goals as goal
use Rattle.flutejoin.proofs.extract.object_writer.ObjectWriter.end.Goals.{in-NotWhole}
use Rattle.flutejoin.proofs.extract.object_writer.ObjectWriter.end.Goals.{in-Whole+in-Gap}

pub returns-in-Nothing-clause-extracts : goal.returns-in-Nothing-clause-extracts
returns-in-Nothing-clause-extracts c = search (rules, unheard)

pub returns-in-Symbols-clause-extracts : goal.returns-in-Symbols-clause-extracts
returns-in-Symbols-clause-extracts c = λ P start now r h. let n = subst
    (HasFound P c.args.self.now.key c.args.self.now.failed start now) c.in-Symbols.is h in
    (n.0 P [] (sym (append-nil P)) r, n.1.same)

pub returns-in-Conflict-clause-extracts : goal.returns-in-Conflict-clause-extracts
returns-in-Conflict-clause-extracts c = λ P start now r h. let n = subst
    (HasFound P c.args.self.now.key c.args.self.now.failed start now) c.in-Conflict.is h in
    (n.0 P [] (sym (append-nil P)) r, n.1.same)

pub returns-in_default : goal.returns-in_default
returns-in_default c = record {
  extracts = λ P start now r h. let key = c.args.self.now.key in
      let n = subst (HasFound P key c.args.self.now.failed start now) c.in-Whole.is h in
      let t = c.next.ensures.turned n.scanned n.scans tt (none-can-come n) in
      let e = ended-turn _ _ _ c.in_default.not-Gap t.1 in
      let ended = ended-whole n _ r e.0 e.1 in
      record {
        info = ended.0;
        whole = ended.1;
        bytes = subst (λ b. Written b start now (object P key ended.0)) c.if-self.true ended.4;
      };
  untouched = tt;
  failed = c.if-self.true;
}

pub returns-in_default-2-clause-extracts : goal.returns-in_default-2-clause-extracts
returns-in_default-2-clause-extracts c = λ P start now r h. let key = c.args.self.now.key in
    let failed = c.args.self.now.failed in
    let n = subst (HasFound P key failed start now) c.in-Whole.is h in
    let t = c.next.ensures.turned n.scanned n.scans tt (none-can-come n) in
    let e = ended-turn _ _ _ c.in_default.not-Gap t.1 in
    whole-written P _ _ _ c.in-Whole.object _ c.if-self.false (ended-whole n _ r e.0 e.1)

pub returns-clause-extracts : goal.returns-clause-extracts
returns-clause-extracts c = λ P start now r h. let key = c.args.self.now.key in
    let failed = c.args.self.now.failed in
    let Q : SymbolId → Type 0 = λ first. IsNotWhole P key (symbol_id first.sbn first.esi) in
    elim c.match-self.branch [
      | in-NotWhole w ↦ let n = subst (HasFound P key failed start now) w.in-NotWhole.is h in subst
          Q (sym w.first-is) (n.0 P [] (sym (append-nil P)) r)
      | in-Whole+in-Gap w ↦ let n = subst (HasFound P key failed start now) w.in-Whole.is h in
          let t = w.in-Gap.ensures.turned n.scanned n.scans tt (none-can-come n) in
          subst Q (sym w.first-is) (ended-gap n _ r t.1.first)
    ]

-- read_entry: what was read of the end, of a wrong kind, over the bound, or of a faulty entry.
use Rattle.flute_journal.proofs.Common.{Consumes, Err, IsFactIn, ReadsNext, journal_framing, Some}
use Rattle.flute_journal.proofs.Common.{ReadsEnd, StaysWithin, [], ap, entry_in, err_from_is_err_and}
use Rattle.flute_journal.proofs.Common.{next_fault, subst, sym, ◌∙◌, ◌∷◌, ◌≡◌}
use Rattle.flute_journal.proofs.framing_lemmas.ReadsUpTo.{fault_here}
use Rattle.flute_journal.proofs.format_lemmas.Parts.{one_byte, kind_wrong, too_many}
use Rattle.flute_journal.proofs.readers_lemmas.Bodies.{KindRead, end_ends, end_reads, end_stops, kind_read}
use Rattle.flute_journal.proofs.readers_lemmas.Bodies.{body_stops, body_ends}
use Rattle.flute_journal.specs.declared.fault.ReadFault.TheVariants as faults
use Rattle.flute_journal.proofs.readers.entry_fields.read_entry.Goals as goal

pub returns-in_err-or_failed-clause-reads : goal.returns-in_err-or_failed-clause-reads
returns-in_err-or_failed-clause-reads g c =
    let front = c.read_up_to-read.result.bytes.now in
    let byte = c.in-Some.field-0.now in
    let is : front ≡ 255 ∷ [] = one_byte front byte c.read_up_to-read.ensures.filled.most
    c.in-Some.ensures.value ∙ ap (λ b. b ∷ []) c.if-byte.true in
    let e = err_from_is_err_and c.from_residual.result c.from_residual.ensures.1 in
    subst (ReadsNext journal_framing c.args.max_entries c.args.before.now
    (g.R.Source.unread c.args.source.now) _) (sym (e.1 ∙ ap Err e.2)) (end_stops c.args.max_entries
    c.args.before.now (g.R.Source.unread c.args.source.now)
    (g.R.Source.unread c.read_up_to-read.new.source) _ c.in_err-or_failed.field-0.0 (subst (Consumes
    (g.R.Source.unread c.args.source.now) (g.R.Source.unread c.read_up_to-read.new.source)) is
    c.read_up_to-read.ensures.filled.read) (subst (ReadsEnd c.args.before.now.count _ _)
    (sym c.in_err-or_failed.ensures) (end_reads c.args.before.now.count _ _
    c.read_up_to-read-then-byte.result.failed _ c.check_end.result
    c.read_up_to-read-then-byte.ensures.filled c.check_end.ensures)))

pub returns-in_err-or_failed-clause-within : goal.returns-in_err-or_failed-clause-within
returns-in_err-or_failed-clause-within g c =
    let e = err_from_is_err_and c.from_residual.result c.from_residual.ensures.1 in
    let filled = c.read_up_to-read.ensures.filled in
    subst
    (StaysWithin (entry_in c.args.before.now.version) (IsFactIn c.args.before.now.version) _ _)
    (sym e.1) (end_ends c.args.before.now.version (g.R.Source.unread c.args.source.now)
    (g.R.Source.unread c.read_up_to-read.new.source)
    (g.R.Source.unread c.read_up_to-read-then-byte.new.source) c.read_up_to-read.result.bytes.now
    filled.most filled.read c.read_up_to-read-then-byte.ensures.advances)

pub returns-in_default-from_byte-clause-reads : goal.returns-in_default-from_byte-clause-reads
returns-in_default-from_byte-clause-reads g c =
    let front = c.read_up_to-read.result.bytes.now in
    let byte = c.in-Some.field-0.now in
    let is : front ≡ byte ∷ [] = one_byte front byte c.read_up_to-read.ensures.filled.most
    c.in-Some.ensures.value in fault_here (g.R.Source.unread c.args.source.now)
    (g.R.Source.unread c.read_up_to-read.new.source) front
    (next_fault c.args.before.now c.args.max_entries) (Some faults.Kind)
    c.read_up_to-read.ensures.filled.read (λ r. kind_wrong c.args.before.now c.args.max_entries byte
    front r is c.if-byte.false c.in_default-from_byte.ensures)

pub returns-then-before-max_entries-clause-reads : goal.returns-then-before-max_entries-clause-reads
returns-then-before-max_entries-clause-reads g c =
    let front = c.read_up_to-read.result.bytes.now in
    let k = c.in-Some-from_byte.kind in
    let is : front ≡ c.in-Some.field-0.now ∷ [] = one_byte front c.in-Some.field-0.now
    c.read_up_to-read.ensures.filled.most c.in-Some.ensures.value in fault_here
    (g.R.Source.unread c.args.source.now) (g.R.Source.unread c.read_up_to-read.new.source) front
    (next_fault c.args.before.now c.args.max_entries) (Some faults.TooMany)
    c.read_up_to-read.ensures.filled.read (λ r. too_many c.args.before.now c.args.max_entries k
    front r (is ∙ ap (λ b. b ∷ []) c.in-Some-from_byte.ensures) c.if-before-max_entries.true)

pub returns-in_err-fact-clause-reads : goal.returns-in_err-fact-clause-reads
returns-in_err-fact-clause-reads g c =
    let filled = c.read_up_to-read.ensures.filled in
    let read : KindRead c.in-Some-from_byte.kind (g.R.Source.unread c.args.source.now)
    (g.R.Source.unread c.read_up_to-read.new.source) = kind_read c.in-Some-from_byte.kind
    c.read_up_to-read.result.bytes.now filled.most c.in-Some.ensures.value
    c.in-Some-from_byte.ensures filled.read in
    let e = err_from_is_err_and c.from_residual-in_err-fact.result
    c.from_residual-in_err-fact.ensures.1 in subst (ReadsNext journal_framing c.args.max_entries
    c.args.before.now (g.R.Source.unread c.args.source.now) _) (sym (e.1 ∙ ap Err e.2)) (body_stops
    c.args.max_entries c.args.before.now _ c.in_err-fact.field-0.0 read
    c.if-before-max_entries.false c.in_err-fact.ensures.reads)

pub returns-in_err-fact-clause-within : goal.returns-in_err-fact-clause-within
returns-in_err-fact-clause-within g c =
    let filled = c.read_up_to-read.ensures.filled in
    let read : KindRead c.in-Some-from_byte.kind (g.R.Source.unread c.args.source.now)
    (g.R.Source.unread c.read_up_to-read.new.source) =
    kind_read c.in-Some-from_byte.kind c.read_up_to-read.result.bytes.now filled.most
    c.in-Some.ensures.value c.in-Some-from_byte.ensures filled.read in
    let e = err_from_is_err_and c.from_residual-in_err-fact.result
    c.from_residual-in_err-fact.ensures.1 in
    let a = c.in_err-fact.ensures.within in
    subst (StaysWithin (entry_in c.args.before.now.version) (IsFactIn c.args.before.now.version) _
    _) (sym e.1)
    (body_ends c.args.before.now.version (g.R.Source.unread c.read_body.new.source) a.0 read a.1
    a.2)

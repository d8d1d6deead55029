-- HeldFiles::read: records, one after the other.
use Rattle.std.proofs.Common.{refl, Some, Ok, ap, ◌∙◌, subst, ◌∷◌, [], ◌++◌, append-nil}
use Rattle.std.proofs.Common.{append_assoc, arith, length, sym}
use Rattle.std.proofs.lemmas.List.{length-append}
use Rattle.std.proofs.lemmas.Result.{err_from_is_err_and}
use Rattle.flute_journal.specs.Framing.{Gives, HasFault}
use Rattle.flute_journal.specs.FileFraming.{file_framing}
use Rattle.flutejoin.specs.Joined.{choice_of}
use Rattle.flutejoin.specs.JoinParts.{HoldsDatagrams}
use Rattle.flutejoin.specs.Limits.{at_most}
use Rattle.flutejoin.proofs.join_lemmas.Held.{read_some, read_err, none_failed}
use Rattle.flutejoin.proofs.join.held_files.HeldFiles.read.Goals as goal

pub loop-datagram-init : goal.loop-datagram-init
loop-datagram-init g c =
    let most = at_most g.row.SESSIONS g.row.OBJECTS g.row.SYMBOLS in
    record {
      so_far = (
        [],
        rw (c.new-reader.ensures.unread, c.new-reader.ensures.state)
            (c.a_file_is_read_record_by_record.ensures.begins c.new-reader.result.max_records
            (g.S.Source.unread c.args.source.now)),
        λ told before holds.
            subst
            (λ l. HoldsDatagrams g.R.Source.unread g.R.Source.buffered (choice_of most
            c.args.sender c.args.objects.now)
            c.args.self.now l)
            (sym (append-nil before)) holds,
        omega arith,
      );
      sound = c.requires.sound;
      same_tells = refl;
      made = omega arith;
      put = omega arith;
      limit = c.new-reader.ensures.limit;
      same_source = refl;
      failures = ap g.S.Source.failures c.new-reader.ensures.unread;
    }

pub returns-in_err-datagram-clause-failed : goal.returns-in_err-datagram-clause-failed
returns-in_err-datagram-clause-failed g c =
    let e = err_from_is_err_and c.from_residual.result c.from_residual.ensures.1 in
    let why = read_err c.args.number c.next_with.result c.at_input.result
    c.in_err-datagram.field-0.0 c.at_input.ensures c.in_err-datagram.was in
    let all = c.loop-datagram.invariant.so_far in
    let gives = subst (Gives file_framing c.loop-datagram.reader.max_records
    c.loop-datagram.reader.state c.next_with.new.self.state
    (g.S.Source.unread c.loop-datagram.reader.source.now)
    (g.S.Source.unread c.next_with.new.self.source.now)) why.was c.next_with.ensures.gives in
    let stops = c.a_file_is_read_record_by_record.ensures.stops _ _ _ _ _ _ all.0 why.why all.1
    gives in rw (e.1, e.2, why.is) (
      refl,
      subst
          (λ n. HasFault file_framing n (g.S.Source.unread c.args.source.now) why.why)
          c.loop-datagram.invariant.limit stops,
    )

pub loop-datagram-preserved : goal.loop-datagram-preserved
loop-datagram-preserved g c =
    let choice =
    choice_of (at_most g.row.SESSIONS g.row.OBJECTS g.row.SYMBOLS) c.args.sender
    c.args.objects.now in
    let is =
    read_some c.args.number c.next_with.result c.at_input.result c.in-Some.datagram
    c.at_input.ensures (c.in_ok-datagram.was ∙ ap Ok c.in-Some.is) in
    let all = c.loop-datagram.invariant.so_far in
    let gives = subst (Gives file_framing c.loop-datagram.reader.max_records
    c.loop-datagram.reader.state
    c.next_with.new.self.state (g.S.Source.unread c.loop-datagram.reader.source.now)
    (g.S.Source.unread c.next_with.new.self.source.now)) is c.next_with.ensures.gives in
    let more =
    c.a_file_is_read_record_by_record.ensures.goes_on _ _ _ _ _ _ all.0 c.in-Some.datagram all.1
    gives in
    let few = c.in_ok-take.ensures.few in
    let room = c.in_ok-make_room.ensures.few in
    let longer = length-append all.0 (c.in-Some.datagram ∷ []) in
    record {
      so_far = (
        all.0 ++ c.in-Some.datagram ∷ [],
        rw c.next_with.ensures.limit more,
        λ told before holds.
            let taken =
            subst
            (λ l. HoldsDatagrams g.R.Source.unread g.R.Source.buffered choice c.take.new.self l)
            (append_assoc before all.0 (c.in-Some.datagram ∷ []))
            (subst
            (λ d. HoldsDatagrams g.R.Source.unread g.R.Source.buffered choice c.take.new.self
            ((before ++ all.0) ++ d ∷ [])) c.as_slice.ensures.bytes
            (c.in_ok-take.ensures.taken (before ++ all.0) (all.2 told before holds))) in
            let given = before ++ (all.0 ++ c.in-Some.datagram ∷ []) in
            subst (HoldsDatagrams g.R.Source.unread g.R.Source.buffered choice c.make_room.new.self)
            (append-nil given)
            (c.in_ok-make_room.ensures.held (c.loop-datagram.invariant.same_tells ∙ told) choice
            given taken),
        omega (arith, few.0, room.0, all.3, longer),
      );
      sound = room.1;
      same_tells = c.make_room.ensures.same_tells ∙ c.loop-datagram.invariant.same_tells;
      made =
          omega (arith, c.make_room.ensures.made.0, c.loop-datagram.invariant.made);
      put =
          omega (
            arith,
            c.in_ok-make_room.ensures.put,
            c.loop-datagram.invariant.put,
            ap (λ r. length r.items) c.in_ok-take.ensures.runs,
          );
      limit = c.next_with.ensures.limit ∙ c.loop-datagram.invariant.limit;
      same_source = c.next_with.ensures.source ∙ c.loop-datagram.invariant.same_source;
      failures =
          none_failed _ _ _ c.next_with.result (Some c.in-Some.datagram) is
          c.next_with.ensures.failures ∙ c.loop-datagram.invariant.failures;
    }

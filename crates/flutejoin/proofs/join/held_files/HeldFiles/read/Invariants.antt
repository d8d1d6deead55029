-- HeldFiles::read: the facts of the records so far are held.
use Rattle.std.proofs.Common.{◌≡◌, ℕ, ◌+◌, ◌-◌, ◌≤◌, true, List, length}
use Rattle.flute_journal.specs.Framing.{Sofar, count_at}
use Rattle.flute_journal.specs.FileFraming.{file_framing}
use Rattle.flutejoin.specs.Asides.{PutsAside}
use Rattle.flutejoin.specs.Joined.{choice_of}
use Rattle.flutejoin.specs.JoinParts.{HoldsMore, IsSound}
use Rattle.flutejoin.specs.Limits.{at_most}
use Rattle.flutejoin.proofs.join.held_files.HeldFiles.read.Given as goal

abbrev pub invariant-loop-datagram : goal.invariant-loop-datagram
invariant-loop-datagram g l = record {
  so_far : (datagrams : List (List ℕ)) × Sofar file_framing l.reader.max_records
      (g.S.Source.unread l.fn.source) (g.S.Source.unread l.reader.source.now) l.reader.state
      datagrams
      × (g.A.Asides.tells l.fn.asides ≡ true → HoldsMore g.R.Source.unread g.R.Source.buffered
      (choice_of (at_most g.row.SESSIONS g.row.OBJECTS g.row.SYMBOLS) l.fn.sender l.fn.objects)
      l.fn.self l.self datagrams)
      × (l.self.told.datagrams ≤ l.fn.self.told.datagrams + length datagrams);
  sound : IsSound g.R.Source.unread g.R.Source.buffered g.R.Source.failures l.self;
  same_tells : g.A.Asides.tells l.asides ≡ g.A.Asides.tells l.fn.asides;
  made : g.A.Asides.made l.fn.asides ≤ g.A.Asides.made l.asides;
  put : PutsAside (g.A.Asides.made l.fn.asides) (g.A.Asides.made l.asides) l.fn.self.runs.items
      l.self.runs.items;
  limit : l.reader.max_records ≡ 16777216;
  same_source : l.reader.source.ghost_name ≡ l.initial.reader.source.ghost_name;
  failures : g.S.Source.failures l.reader.source.now ≡ g.S.Source.failures l.fn.source;
}

abbrev pub decreases-loop-datagram : goal.decreases-loop-datagram
decreases-loop-datagram g l = l.reader.max_records - count_at file_framing l.reader.state

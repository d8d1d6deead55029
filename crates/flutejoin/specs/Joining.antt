-- What a join of inputs writes and returns.
use Rattle.std.specs.Prelude.{◌≡◌, ℕ, List, length, Option}
use Rattle.std.specs.List.{flat_map, count_by, sum_by}
use Rattle.flutejoin.specs.Limits.{IsOver}
use Rattle.flutejoin.specs.Refused.{AreReasons, all_counts, is_refused}
use Rattle.flute_journal.specs.JournalWriters.{WritesJournal}
use Rattle.flutejoin.specs.declared.join.join_counts.JoinCounts.{JoinCounts}
use Rattle.flutejoin.specs.Joined.{InputContent, Choice, content_facts, content_datagrams}
use Rattle.flutejoin.specs.Joined.{content_others, TellAll}

-- Each input contains some facts. The journal of all of them was appended, and the numbers are
-- right.
pub record JoinsTo (choice : Choice) (inputs : List (List ℕ)) (counts : JoinCounts)
    (old new : Option (List ℕ)) : Type 0 where
  pub told : List InputContent
  pub tell : TellAll inputs told
  pub within : ¬ IsOver choice.most (flat_map (content_facts choice) told)
  pub writes : WritesJournal old new (flat_map (content_facts choice) told) counts.entries
  pub datagrams : counts.datagrams ≡ length (flat_map content_datagrams told)
  pub refused : counts.refused ≡ count_by is_refused (flat_map content_datagrams told)
  pub reasons : AreReasons counts.reasons (flat_map content_datagrams told)
  pub for_all : all_counts counts.reasons ≡ counts.refused
  pub others : counts.others ≡ sum_by (content_others choice) told

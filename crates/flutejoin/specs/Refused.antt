-- Datagrams that are refused, and why.
use Rattle.std.specs.Prelude.{◌≡◌, ℕ, ◌+◌, ◌⊎◌, Bool, List, [], ◌∷◌, is_none, slice_index, sum}
use Rattle.std.specs.Prelude.{◌==◌, if◌then◌else◌, ◌++◌, codes, decimal, flat_map}
use Rattle.flute_wire.specs.Reading.{packet}
use Rattle.flute_wire.specs.Refusals.{Refuses}
use Rattle.flute_wire.specs.RefusalWords.{place, refusal_words, refusals}
use Rattle.flute_wire.specs.declared.refusal.Refusal.{Refusal}
use Rattle.flutejoin.specs.Lines.{line}
use Rattle.flutejoin.specs.declared.join.reasons.Reasons.{Reasons}

-- a datagram is refused if it spells no packet
abbrev pub is_refused : List ℕ → Bool
is_refused datagram = is_none (packet datagram)

-- so many of the datagrams are refused for this reason, the first that applies
abbrev pub AreRefusedFor : Refusal → ℕ → List (List ℕ) → Type 0
AreRefusedFor why n [] = n ≡ 0
AreRefusedFor why n (datagram ∷ datagrams) =
    (m : ℕ) × AreRefusedFor why m datagrams
    × ((Refuses datagram why × (n ≡ m + 1)) ⊎ (¬ Refuses datagram why × (n ≡ m)))

-- how many are counted for it
abbrev pub count_for : Reasons → Refusal → ℕ
count_for reasons why = slice_index reasons.counts (place why)

-- how many datagrams are refused for all reasons together
abbrev pub all_counts : Reasons → ℕ
all_counts reasons = sum reasons.counts

-- the counts are those of the datagrams, for each reason
abbrev pub AreReasons : Reasons → List (List ℕ) → Type 0
AreReasons reasons datagrams =
    (why : Refusal) → AreRefusedFor why (count_for reasons why) datagrams

-- the line of a reason, if some datagram is refused for it
abbrev pub reason_line : Reasons → Refusal → List ℕ
reason_line reasons why =
    if count_for reasons why == 0 then []
    else line (codes "refused " ++ decimal (count_for reasons why) ++ codes ": "
    ++ refusal_words why)

unfoldable pub reason_lines : Reasons → List ℕ
reason_lines reasons = flat_map (reason_line reasons) refusals

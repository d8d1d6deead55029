-- What is held at the end of a merge is let go of: the sources then have left what the streams had.
use Rattle.std.proofs.Common.{arith}
use Rattle.std.proofs.lemmas.Grind.{common_steps}
use Rattle.std.proofs.Common.{rules}
use Rattle.flute_streams.proofs.Common.{Fact, List, None, Option}
use Rattle.flute_streams.proofs.Common.{ReadsEntries, ◌≡◌, ℕ}
use Rattle.std.specs.Io.KnownBytes.{Consumes}
use Rattle.flute_journal.proofs.Public.{left_all}
use Rattle.flute_journal.specs.HeldEntries.{fact_held, left_behind, spelled_in}
use Rattle.flute_journal.specs.declared.readers.held_entry.HeldEntry.{HeldEntry}
use Rattle.flute_journal.specs.declared.readers.held_entry.HeldEntry.TheVariants as held
use Rattle.flute_streams.specs.Merges.{Stopped}
use Rattle.flute_streams.specs.declared.merge.two_streams.MergeFault.{MergeFault}

-- where nothing is held all is left
pub nothing_held : (b : List ℕ) (e : HeldEntry) (u : Option (List ℕ)) → fact_held b e ≡ None
    → left_behind (spelled_in b e) u ≡ u
nothing_held b held.Nothing u none = left_all u
nothing_held b (held.Entry place v) u none = absurd cc

consumes : (input u v : Option (List ℕ)) (held bytes : List ℕ) → Consumes u v held
    → Consumes input (left_behind held u) bytes → Consumes input v bytes
consumes = grind (arith, common_steps)

reads : {input : Option (List ℕ)} (u v : Option (List ℕ)) (held : List ℕ) {F : List Fact}
    → Consumes u v held → ReadsEntries input (left_behind held u) F → ReadsEntries input v F
reads u v held c r = search (rules, consumes)

-- what was held of two sources was let go of
pub record LetGo (u v x y : Option (List ℕ)) : Type 0 where
  pub first_held : List ℕ
  pub second_held : List ℕ
  pub first : Consumes u v first_held
  pub second : Consumes x y second_held

pub lets_go : {limit : ℕ} {first second u v x y old new : Option (List ℕ)} {fault : MergeFault} →
    (l : LetGo u v x y) → Stopped limit first (left_behind l.first_held u) second
    (left_behind l.second_held x) old new fault → Stopped limit first v second y old new fault
lets_go {u} {v} {x} {y} l h = record {
  short = h.short;
  keeps_up = record {
    first_entries = h.keeps_up.first_entries;
    second_entries = h.keeps_up.second_entries;
    first_read = reads u v l.first_held l.first h.keeps_up.first_read;
    second_read = reads x y l.second_held l.second h.keeps_up.second_read;
    entries = h.keeps_up.entries;
    collects = h.keeps_up.collects;
    bytes = h.keeps_up.bytes;
    appended = h.keeps_up.appended;
    begins = h.keeps_up.begins;
  };
  names = h.names;
}

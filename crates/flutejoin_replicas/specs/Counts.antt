-- Refused datagrams, counted.
use Rattle.std.specs.Prelude.{◌≡◌, ℕ, ◌+◌, ◌-◌, ◌^◌, Bool, false, ◌&&◌, List, ◌==◌}
use Rattle.std.specs.Prelude.{slice_index, nat_lt, if◌then◌else◌}
use Rattle.flutejoin.specs.Refused.{is_refused}
use Rattle.flutejoin_replicas.specs.declared.steps.Step.{Step}
use Rattle.flutejoin_replicas.specs.declared.steps.Step.TheVariants.{Take, Load, Add, Merge, Reopen}

-- a `Take` that gives replica r a refused datagram
abbrev pub is_refused_take : ℕ → Step → Bool
is_refused_take r (Take replica sender datagram) = (replica == r) && is_refused datagram
is_refused_take r (Load replica journal) = false
is_refused_take r (Add replica fact) = false
is_refused_take r (Merge into from) = false
is_refused_take r (Reopen replica) = false

-- one more, in a count of 64 bits that stays at its greatest
abbrev pub one_more : ℕ → ℕ
one_more n = if nat_lt n (2 ^ 64 - 1) then n + 1 else n

-- the counts after a step: a refused datagram counts one more for the replica that it was given to
abbrev pub CountsRefused : Step → List ℕ → List ℕ → Type 0
CountsRefused step before now =
    (r : ℕ) → slice_index now r
    ≡ (if is_refused_take r step then one_more (slice_index before r) else slice_index before r)

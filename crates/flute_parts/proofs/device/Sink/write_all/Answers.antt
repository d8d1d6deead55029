-- Sink::write_all: its loop over calls of write, and what a failed one has taken.
use Rattle.std.proofs.Common.{◌≡◌, ℕ, ◌+◌, ◌-◌, ◌<◌, ◌≤◌, List, Option}
use Rattle.std.proofs.Common.{rules, arith, length, take, take_all, drop, sym, ap, subst}
use Rattle.std.proofs.lemmas.List.{take-append-drop, length-drop}
use Rattle.std.proofs.lemmas.Result.{err_from_is_err_and}
use Rattle.std.specs.Io.KnownBytes.{Appends, Keeps}
use Rattle.std.proofs.KnownBytes.{Appends-trans, Appends-kept}
use lib.Seq.{take-add}
use Rattle.flute_parts.specs.Devices.{AppendsPart}
use Rattle.flute_parts.proofs.device.Sink.write_all.Goals as goal

-- a failed call leaves the part that was taken before it
part_of : (old mid new : Option (List ℕ)) (bytes : List ℕ) (n : ℕ) → n < length bytes
    → Appends old mid (take n bytes) → Keeps mid new → AppendsPart old new bytes
part_of old mid new bytes n lt done kept = record {
  part = take n _;
  rest = drop n _;
  appended = Appends-kept _ _ _ _ done kept;
  whole = sym (take-append-drop n _);
  cut = λ e. absurd (let l = ap length e in omega (arith, length-drop n bytes, l));
}

-- the first n bytes were taken
abbrev Took : Option (List ℕ) → Option (List ℕ) → List ℕ → ℕ → Type 0
Took old new bytes n = (n ≤ length bytes) × Appends old new (take n bytes)

-- n bytes more were taken
goes_on : (old mid new : Option (List ℕ)) (bytes : List ℕ) (w n : ℕ) → Took old mid bytes w
    → Took mid new (take (length bytes - w) (drop w bytes)) n → Took old new bytes (w + n)
goes_on old mid new bytes w n (le, done) (fits, more) =
    let rest = take_all (length bytes - w) (drop w bytes) (omega (arith, length-drop w bytes)) in
    let fits' : n ≤ length (drop w bytes) = search rules in
    let more' : Appends mid new (take n (drop w bytes)) = search rules in (
      omega (arith, fits', length-drop w bytes),
      subst (Appends old new) (sym (take-add w n bytes))
          (Appends-trans old mid new _ _ done more'),
    )

pub returns-in_err-written-clause-bytes : goal.returns-in_err-written-clause-bytes
returns-in_err-written-clause-bytes g c = search (rules, err_from_is_err_and, part_of)

pub loop-written-preserved : goal.loop-written-preserved
loop-written-preserved g c = search (rules, goes_on)

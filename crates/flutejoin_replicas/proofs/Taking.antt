-- Replica::take: a datagram that was taken, or for which there was no room.
use Rattle.std.proofs.Common.{◌≡◌, ◌++◌, ◌↔◌, ℕ, List, Result, Ok, Err, IsOk, subst}
use Rattle.std.specs.List.{AllByRecursion}
use Rattle.flute_parts.specs.declared.fact.Fact.{Fact}
use Rattle.flute_parts.specs.Facts.{Same}
use Rattle.flute_parts.specs.Limits.{Over}
use Rattle.flute_parts.proofs.Public.{Below-from_Same, Over-below}
use Rattle.flute_wire.specs.Content.{Content}
use Rattle.flute_wire.specs.Datagram.{Spells}
use Rattle.flute_wire.specs.Refusals.{Applies}
use Rattle.flute_wire.specs.Reading.{facts}
use Rattle.flute_wire.specs.declared.refusal.Refusal.{Refusal}
use Rattle.flute_store.specs.Held.{HasCell}
use Rattle.flute_store.specs.declared.taken.Taken.{Taken}
use Rattle.flute_store.specs.declared.taken.TakeFault.{TakeFault}
use Rattle.flute_store.specs.declared.taken.TakeFault.TheVariants.{Datagram, Full, OutOfMemory}
use Rattle.flutejoin.proofs.Public.{HasOneReading, is_packet, IsPacket, refused_same, TellsRefusals}

pub full_is_packet : (d : List ℕ) (result : Result Taken TakeFault) → HasOneReading d
    → TellsRefusals d result → result ≡ Err Full → IsPacket d
full_is_packet d result one tells is =
    is_packet d one (λ r refuses. let e = (tells r).1 refuses in cc)

pub memory_is_packet : (d : List ℕ) (result : Result Taken TakeFault) → HasOneReading d
    → TellsRefusals d result → result ≡ Err OutOfMemory → IsPacket d
memory_is_packet d result one tells is =
    is_packet d one (λ r refuses. let e = (tells r).1 refuses in cc)

-- a store that took the datagram is within its limits
pub ok_within : (sender : ℕ) {s o y : ℕ} (old : List Fact) {new : List Fact} (d : List ℕ)
    {result : Result Taken TakeFault} {t : Taken} → result ≡ Ok t
    → Same new (old ++ facts sender d)
    → (result ≡ Err Full) ↔ Over (old ++ facts sender d) s o y → ¬ Over new s o y
ok_within sender {s = s} {o = o} {y = y} old {new = new} d is same full over =
    let all = old ++ facts sender d in
    let e = full.1 (Over-below new all s o y (Below-from_Same new all same) over) in cc

pub refused_within : (sender : ℕ) {s o y : ℕ} {old new : List Fact} (d : List ℕ)
    {result : Result Taken TakeFault} {r : Refusal} → Applies r d → new ≡ old
    → result ≡ Err (Datagram r)
    → (result ≡ Err Full) ↔ Over (old ++ facts sender d) s o y → ¬ Over new s o y
refused_within sender {s = s} {o = o} {y = y} {old = old} {new = new} d {r = r} applies same is
    full over =
    let all = old ++ facts sender d in
    let also = refused_same sender old new d r applies same in
    let e = full.1 (Over-below new all s o y (Below-from_Same new all also) over) in cc

-- a packet whose facts are all at held addresses is taken
abbrev pub TakesHeld : ℕ → List Fact → List ℕ → Result Taken TakeFault → Type 0
TakesHeld sender old d result =
    (p : Content) → Spells d p → AllByRecursion (HasCell old) (facts sender d) → IsOk result

pub not_held : (sender : ℕ) (old : List Fact) (d : List ℕ) (result : Result Taken TakeFault)
    (f : TakeFault) → IsPacket d → TakesHeld sender old d result → result ≡ Err f
    → ¬ AllByRecursion (HasCell old) (facts sender d)
not_held sender old d result f spelled held is cells =
    let P : Result Taken TakeFault → Type 0 = λ r. IsOk r in
    let e : IsOk {T = Taken} {E = TakeFault} (Err f) =
    subst P is (held spelled.0 spelled.1 cells) in
    cc

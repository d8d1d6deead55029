-- carousel: how often the source of an object's content failed (specs/Sending: ReadFailures).
use Rattle.std.proofs.lemmas.Grind.{common_steps}
use Rattle.std.proofs.Common.{rules}
use Rattle.std.proofs.Common.{◌≡◌, ℕ, ◌+◌, ◌<◌, ◌≤◌, inl, inr}
use Rattle.std.proofs.Common.{List, length, Option, Result, Ok, Err, IfErr}
use Rattle.std.proofs.Common.{◌∙◌, arith}
use Rattle.std.specs.Prelude.{◌⊎◌, IfSome}
use Rattle.flute_journal.specs.declared.fault.ReadFault.{ReadFault}
use Rattle.flute_journal.specs.declared.fault.ReadFault.TheVariants.{Read}
use Rattle.flute_parts.specs.declared.key.Key.{Key}
use Rattle.flute_wire.specs.Content.{Content}
use Rattle.flutejoin.specs.Sending.{Ends, EndsReading, HasNot, IsPacketFault}
use Rattle.flutejoin.specs.Sending.{ReadFailures, ReadsOf}
use Rattle.flutejoin.specs.declared.command_fault.CommandFault.{CommandFault}
use Rattle.flutejoin.specs.declared.command_fault.CommandFault.TheVariants.{Input}
use Rattle.flutejoin.proofs.carousel_lemmas.SentObjects.{Sent}

pub not_left : (u : Option (List ℕ)) (n left : ℕ) → n ≤ left → IfSome u (λ all. length all < n)
    → HasNot u left
not_left = search rules

has_not : (u v : Option (List ℕ)) (size left : ℕ) → ReadsOf u v size left → HasNot v left
    → HasNot u size
has_not = grind (arith, common_steps)

-- what comes of a packet is no fault of its source
pub of_packet : (c : Content) (old new : ℕ) (u : Option (List ℕ)) (n : ℕ)
    (r : Result (List ℕ) CommandFault) → IfErr r (IsPacketFault c) → new ≡ old
    → ReadFailures old new u n r
of_packet = search rules

-- the source failed so after some of its bytes were read
pub reads_back : (S T : Type 0) (f : CommandFault) {before old : ℕ} (new : ℕ)
    {u v : Option (List ℕ)} {size left : ℕ} → (old ≡ before) × ReadsOf u v size left → ReadFailures
    {T = S} old new v left (Err f) → ReadFailures {T = T} before new u size (Err f)
reads_back S T (Input number fault) new r (inl e) = search rules
reads_back S T (Input number fault) _ {u} {v} {size} {left} r (inr e) =
    inr (e.0 ∙ r.0, has_not u v _ _ r.1 e.1)
reads_back S T _ _ r e = e ∙ r.0

-- ---- failures of the source once all packets were sent

first_of : {A B C : Type 0} → A ⊎ (B × C) → A ⊎ B
first_of = search rules

module _ (before old new size left : ℕ) (u v : Option (List ℕ)) where
  goes_on : (result : Result ℕ CommandFault) → old ≡ before → ReadsOf u v size left
      → ReadFailures old new v left result → ReadFailures before new u size result
  goes_on (Ok n) e r f = f ∙ e
  goes_on (Err w) e r f = reads_back ℕ ℕ w _ (e, r) f

  stays : (result : Result ℕ CommandFault) (number : ℕ) (fault : ReadFault) → new ≡ old →
      (result ≡ Err (Input 1 Read)) ⊎ (result ≡ Err (Input number fault)) → (old ≡ before + 1) ⊎
      ((old ≡ before) × HasNot u size) → ReadFailures before new u size result
  stays = search rules

pub told_reads : (before old new : ℕ) {input mid was now : Option (List ℕ)} {left : ℕ} {key : Key}
    {symbol block size : ℕ} {sent : Result ℕ CommandFault} (result : Result ℕ CommandFault) → Ends
    mid left sent result → ReadFailures before old input size sent → Sent input mid was now left key
    symbol block size sent → EndsReading old new mid left sent result → ReadFailures before new
    input size result
told_reads before old new {input = u} {mid = v} {left} {size} {sent = Ok n} result
    ends f s e = search (rules, goes_on)
told_reads before old new {input = u} {mid = v} {left} {size} {sent = Err (Input
    number fault)} result ends f s e = search (rules, stays)
told_reads before old new {input = u} {mid = v} {left} {size} {sent = Err _} result
    ends f s e = search (rules, goes_on)

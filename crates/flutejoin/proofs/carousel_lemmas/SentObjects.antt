-- carousel: what send_to returns after the packets of an object were sent (specs/Carousel).
use Rattle.std.proofs.lemmas.Grind.{common_steps}
use Rattle.std.proofs.Common.{rules}
use Rattle.std.proofs.Common.{◌≡◌, ℕ, inl, inr, List, ◌++◌, length, Option, Some}
use Rattle.std.proofs.Common.{None, Result, Ok, Err, IfErr, subst, arith}
use Rattle.std.specs.Prelude.{IfOk, IfSome, flat_map, ⊤}
use Rattle.std.specs.Option.{option_map}
use Rattle.flute_parts.specs.Information.{Information, information, info_fault}
use Rattle.flute_parts.specs.Devices.{AppendsPart}
use Rattle.flute_parts.specs.declared.key.Key.{Key}
use Rattle.flute_journal.specs.Records.{file_header, record_of}
use Rattle.flute_wire.specs.declared.writing.WriteFault.{WriteFault}
use Rattle.flute_wire.specs.Carousel.{packets_of, first_object_fault, carousel_fault}
use Rattle.flute_wire.specs.declared.sending.CarouselFault.TheVariants.{Write}
use Rattle.flute_wire.proofs.Public.{facts_are_sent}
use Rattle.flutejoin.specs.Carousel.{info_of, OfDatagrams, OfInput, SendsInput, SendFails}
use Rattle.flutejoin.specs.Sending.{Ends, HasLeft, IsSendingFault, OfPackets, OfSize, ReadsOf}
use Rattle.flutejoin.specs.Sending.{SendsPackets, UnlessRead}
use Rattle.flutejoin.specs.declared.command_fault.CommandFault.{CommandFault}
use Rattle.flutejoin.specs.declared.command_fault.CommandFault.TheVariants.{CannotSend, CannotWrite}
use Rattle.flutejoin.specs.declared.command_fault.CommandFault.TheVariants.{Input, OutOfMemory}

-- an object of its own length is not sent as its first packet isn't
of_packets : (key : Key) (i : Information) (content : List ℕ) → length content ≡ i.transfer_length
    → carousel_fault key i content
    ≡ option_map (λ fault. Write fault) (first_object_fault (packets_of key i content))
unfolding carousel_fault
of_packets key i content h = search rules

-- the input has so many bytes if what is left of it has as many as were not read
has_size : (input mid : Option (List ℕ)) (size left : ℕ) → ReadsOf input mid size left
    → HasLeft mid left → HasLeft input size
has_size = grind (arith, common_steps)

-- P of what the input has, if that is so many bytes, of an input that has
of_input : (input : Option (List ℕ)) (size : ℕ) (P Q : List ℕ → Type 0) → HasLeft input size
    → ((content : List ℕ) → length content ≡ size → P content → Q content) → OfSize input size P
    → IfSome input Q
of_input = search rules

-- how far the packets of an object of this size were sent
pub record Sent (input mid old now : Option (List ℕ)) (left : ℕ) (key : Key)
    (symbol block size : ℕ) (sent : Result ℕ CommandFault) : Type 0 where
  pub info : Information
  pub is : info ≡ information size symbol block
  pub sound : info_fault info ≡ None
  pub reads : UnlessRead sent (ReadsOf input mid size left)
  pub sends : OfSize input size
      (λ content. SendsPackets (packets_of key info content) old now sent)

-- so it was for equal values of the key, the information and the size
pub sent_of : {input mid old now : Option (List ℕ)} {left : ℕ} {k key : Key} {j i : Information}
    {n size symbol block : ℕ} {sent : Result ℕ CommandFault} → (k ≡ key) × (j ≡ i) × (n ≡ size) → i
    ≡ information size symbol block → info_fault i ≡ None → UnlessRead sent
    (ReadsOf input mid n left) → OfSize input n
    (λ content. SendsPackets (packets_of k j content) old now sent) → Sent input mid old now left
    key symbol block size sent
sent_of {input} {mid} {old} {now} {left} {k} {key}
    {i} {n} {sent} e is sound reads sends = record {
      info = i;
      is = is;
      sound = sound;
      reads = rw (← e.2) reads;
      sends =
          rw (← e.2) (subst (λ x. OfSize input n
          (λ content. SendsPackets (packets_of x i content) old now sent)) e.0
          (subst (λ x. OfSize input n
          (λ content. SendsPackets (packets_of k x content) old now sent)) e.1 sends));
    }

module _ (key : Key) (symbol block size : ℕ) (i : Information)
    (is : i ≡ information size symbol block) (sound : info_fault i ≡ None) where
  same : (content : List ℕ) → length content ≡ size → i ≡ info_of symbol block content
  same content whole = search rules

  object_of : (P : List (List ℕ) → Type 0) (content : List ℕ) → length content ≡ size
      → OfPackets (packets_of key i content) P → OfDatagrams key symbol block content P
  object_of P content whole p = search (rules, same, facts_are_sent)

  -- the first packet with a fault is why an object of its own length is not sent; if none has one,
  -- it could be sent
  not_sent : (content : List ℕ) (fault : WriteFault) → length content ≡ size
      → first_object_fault (packets_of key i content) ≡ Some fault
      → carousel_fault key (info_of symbol block content) content ≡ Some (Write fault)
  not_sent content fault whole h = search (rules, same, of_packets)

  all_could : (content : List ℕ) → length content ≡ size → first_object_fault
      (packets_of key i content) ≡ None → (info_fault (info_of symbol block content) ≡ None) ×
      (carousel_fault key (info_of symbol block content) content ≡ None)
  all_could content whole h = search (rules, same, of_packets)

module _ {input mid old now : Option (List ℕ)} {left : ℕ} {key : Key}
    {symbol block size : ℕ} where
  -- what send_to returns: all was sent; a failed write; a fault
  pub told_sent : {sent : Result ℕ CommandFault} (result : Result ℕ CommandFault)
      → Ends mid left sent result → Sent input mid old now left key symbol block size sent
      → IfOk result (λ n. SendsInput input key symbol block n old now)
  told_sent (Err e) _ s = tt
  told_sent (Ok n) (inl h) s = absurd (cc)
  told_sent (Ok n) (inr h) s =
      let ok = rw (← h.0) at s in
      let rest = rw (← h.0) at h.1 in
      of_input _ _ _ _ (has_size _ _ _ _ ok.reads rest) (object_of _ _ _ _ _ ok.is ok.sound _)
      ok.sends

  told_part : Sent input mid old now left key symbol block size (Err CannotWrite) → HasLeft mid left
      → OfInput input key symbol block
      (λ d. AppendsPart old now (file_header ++ flat_map record_of d))
  told_part s rest = search (rules, of_input, has_size, object_of)

  pub told_failed_write : {sent : Result ℕ CommandFault} (result : Result ℕ CommandFault) → Ends mid
      left sent result → Sent input mid old now left key symbol block size sent → result ≡ Err
      CannotWrite → OfInput input key symbol block
      (λ d. AppendsPart old now (file_header ++ flat_map record_of d))
  told_failed_write result (inl h) s e = absurd (cc)
  told_failed_write {sent} result (inr h) s e = search (rules, told_part)

  fault_of : (e : CommandFault) → IsSendingFault e
      → Sent input mid old now left key symbol block size (Err e)
      → UnlessRead {T = ℕ} (Err e) (HasLeft mid left) → SendFails input key symbol block e
  fault_of (CannotSend f) _ s rest = of_input _ _ _ _ (has_size _ _ _ _ s.reads rest)
      (λ content. not_sent _ _ _ _ _ s.is s.sound _ f) s.sends
  fault_of (Input n f) (inl only) s rest = (cc, cc)
  fault_of (Input n f) (inr only) s rest = absurd (cc)
  fault_of CannotWrite _ s rest =
      kept _ (told_part s rest)
    where
      kept : (o : Option (List ℕ)) → OfInput o key symbol block
          (λ d. AppendsPart old now (file_header ++ flat_map record_of d))
          → OfInput o key symbol block (λ d. ⊤)
      kept None p = tt
      kept (Some content) p = (p.0, p.1, tt)
  fault_of OutOfMemory _ s rest = of_input _ _ _ _ (has_size _ _ _ _ s.reads rest)
      (all_could _ symbol block _ _ s.is s.sound) s.sends
  fault_of _ (inl only) s _ = absurd only
  fault_of _ (inr only) s rest = absurd (cc)

  pub told_failed : {sent : Result ℕ CommandFault} (result : Result ℕ CommandFault)
      → Ends mid left sent result → Sent input mid old now left key symbol block size sent
      → IfErr sent IsSendingFault → IfErr result (SendFails input key symbol block)
  told_failed (Ok n) _ s _ = tt
  told_failed (Err e) (inl h) s only = grind (arith, common_steps)
  told_failed (Err e) (inr h) s only = search (rules, fault_of)

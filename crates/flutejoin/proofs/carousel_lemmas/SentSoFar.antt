-- send_symbols: how far an object was sent (specs/Sending).
use Rattle.std.proofs.lemmas.Grind.{common_steps}
use Rattle.std.proofs.Common.{rules}
use Rattle.std.proofs.Common.{◌≡◌, ℕ, ◌+◌, ◌*◌, ◌<◌, max, inl, inr, List, [], ◌∷◌}
use Rattle.std.proofs.Common.{◌++◌, length, take, drop, Bool, true, false, Option, Some, None}
use Rattle.std.proofs.Common.{Err, sym, ap, subst, ◌∙◌, arith}
use Rattle.std.proofs.Common.{length-append, take_all, drop-drop}
use Rattle.std.specs.Prelude.{◌⊎◌, flat_map}
use Rattle.std.specs.List.{AllZip, AllByRecursion}
use Rattle.std.proofs.KnownBytes.{Appends-trans, Consumes-trans}
use Rattle.flute_parts.specs.Devices.{AppendsPart, times_failed}
use Rattle.flute_parts.specs.Information.{Information, IsValid}
use Rattle.flute_parts.specs.Partition.{ids}
use Rattle.flute_parts.specs.declared.key.Key.{Key}
use Rattle.flute_parts.proofs.Public.{AppendsPart-first, AppendsPart-second}
use Rattle.flute_wire.specs.Carousel.{piece, packets_of, first_object_fault}
use Rattle.flute_wire.specs.Content.{Content}
use Rattle.flute_wire.specs.Writing.{IsWritten, write_fault}
use Rattle.flute_journal.specs.Records.{file_header, record_of, IsDatagram}
use Rattle.flute_journal.proofs.Public.{all_more}
use Rattle.flutejoin.specs.Carousel.{WritesFile}
use Rattle.flutejoin.specs.Extract.{SinkFails}
use Rattle.flutejoin.specs.Sending.{ReadsOf, IsReadFault, IsPacketFault, packet_with, OfPackets}
use Rattle.flutejoin.specs.Sending.{UnlessRead, IsNextFault}
use Rattle.flutejoin.specs.Sending.{SendsPackets, Grows, GrowsOn, record_at, file_up_to}
use Rattle.flutejoin.specs.declared.command_fault.CommandFault.{CommandFault}
use Rattle.flutejoin.specs.declared.command_fault.CommandFault.TheVariants.{CannotSend, CannotWrite}
use Rattle.flutejoin.specs.declared.command_fault.CommandFault.TheVariants.{Input, OutOfMemory}
use Rattle.flutejoin.proofs.carousel_lemmas.SentLengths.{none_fails}
use Rattle.flutejoin.proofs.carousel_lemmas.SentPackets.{length-packets_of, packet_there, first_at}
use Rattle.flutejoin.proofs.carousel_lemmas.SentPackets.{none_more}
use Rattle.flutejoin.proofs.carousel_lemmas.SentPackets.{take_one_more, both_more}

-- ---- the file

file_more : (place : ℕ) (ds : List (List ℕ)) (d : List ℕ) → place ≡ length ds
    → file_up_to (ds ++ d ∷ []) ≡ file_up_to ds ++ record_at place d
file_more = grind (arith, common_steps)

file_whole : (ds : List (List ℕ)) → 0 < length ds
    → file_up_to ds ≡ file_header ++ flat_map record_of ds
file_whole = search rules

-- the sink has the next bytes too, or has failed
pub grows_on : (f g : Bool) (a b c : Option (List ℕ)) (front more : List ℕ)
    → Grows f a b front × GrowsOn f g b c more → Grows g a c (front ++ more)
grows_on true g a b c front more p = search (rules, AppendsPart-first)
grows_on false false a b c front more p = Appends-trans a b c _ _ p.0 p.1
grows_on false true a b c front more p = AppendsPart-second a b c _ _ p.0 p.1

-- ---- what was read

pub reads_on : (u v w : Option (List ℕ)) (a b c : ℕ) → ReadsOf u v a b → ReadsOf v w b c
    → ReadsOf u w a c
reads_on u v w a b c p q = record {
  bytes = p.bytes ++ q.bytes;
  read = Consumes-trans u v w _ _ p.read q.read;
  counted = omega (arith, length-append p.bytes q.bytes);
}

-- as many bytes are left as were not read
pub left_are : {content rest : List ℕ} {u v : Option (List ℕ)} {a b : ℕ} → ReadsOf u v a b
    → u ≡ Some content → v ≡ Some rest → length content ≡ a → length rest ≡ b
left_are {content} {rest} {v} r known now whole = grind (arith, common_steps)

-- ---- the object

module _ (key : Key) (i : Information) (content : List ℕ) where
  -- the packets before a place were sent, and nothing else
  pub record SentSoFar (place : ℕ) (unread : Option (List ℕ)) (failed : Bool)
      (old now : Option (List ℕ)) : Type 0 where
    pub datagrams : List (List ℕ)
    pub written : AllZip IsWritten datagrams (take place (packets_of key i content))
    pub sound : first_object_fault (take place (packets_of key i content)) ≡ None
    pub valid : AllByRecursion IsDatagram datagrams
    pub counted : place ≡ length datagrams
    pub grown : Grows failed old now (file_up_to datagrams)
    pub rest : unread ≡ Some (drop (place * i.symbol_length) content)

  -- the packet at a place
  abbrev pub packet : ℕ → Content
  packet place = packet_with key i place (piece i content place)

  -- All packets were sent, or the sink failed.
  module _ (valid : IsValid i) (count : ℕ) (all : count ≡ max (length (ids i)) 1) where
    whole : take count (packets_of key i content) ≡ packets_of key i content
    whole = search (rules, take_all, length-packets_of)

    pub sent_all : {u old now : Option (List ℕ)} → SentSoFar count u false old now
        → OfPackets (packets_of key i content) (λ d. WritesFile d count old now)
    sent_all {u} {old} {now} s = search (rules, file_whole, whole)

    pub sent_part : {u old now : Option (List ℕ)} → SentSoFar count u true old now → OfPackets
        (packets_of key i content) (λ d. AppendsPart old now (file_header ++ flat_map record_of d))
    sent_part {u} {old} {now} s = search (rules, file_whole, whole)

-- One packet more: it was sent, or it was not.
module _ {key : Key} {i : Information} {content : List ℕ} (valid : IsValid i) {place : ℕ}
    (within : place < max (length (ids i)) 1) where
  pub sent_next : {u v old mid now : Option (List ℕ)} {f g : Bool} (d : List ℕ) → SentSoFar key i
      content place u f old mid → IsWritten d (packet key i content place) ×
      (write_fault (packet key i content place) ≡ None) → IsDatagram d → GrowsOn f g mid now
      (record_at place d) → v ≡ Some (drop i.symbol_length (drop (place * i.symbol_length) content))
      → SentSoFar key i content (place + 1) v g old now
  sent_next {u} {v} {old} {mid} {now} {f} {g} d s made is put left =
      let cs = packets_of key i content in
      let one = packet key i content place in
      let here = packet_there _ i _ _ valid within in
      let more = take_one_more _ _ _ here in
      let next = drop-drop i.symbol_length (place * i.symbol_length) content ∙ ap
      (λ n. drop n content) (let e : place * i.symbol_length + i.symbol_length ≡ (place + 1) *
      i.symbol_length = grind arith in e) in record {
        datagrams = s.datagrams ++ d ∷ [];
        written = subst (AllZip IsWritten (s.datagrams ++ d ∷ [])) (sym more)
            (both_more _ _ d _ s.written made.0);
        sound = rw more (none_more (take place cs) one s.sound made.1);
        valid = all_more _ _ d s.valid is;
        counted = omega (arith, length-append s.datagrams (d ∷ []));
        grown = rw (file_more _ _ d s.counted) (grows_on f g _ _ _ _ _ (s.grown, put));
        rest = cc;
      }

  pub fails_at : {u old mid : Option (List ℕ)} {f : Bool} (fault : CommandFault)
      → length content ≡ i.transfer_length → SentSoFar key i content place u f old mid
      → IsReadFault fault ⊎ IsPacketFault (packet key i content place) fault
      → SendsPackets (packets_of key i content) old mid (Err fault)
  fails_at (CannotSend w) whole s (inl h) = absurd (cc)
  fails_at (CannotSend w) whole s (inr h) = search (rules, first_at, packet_there)
  fails_at (Input n w) _ s h = tt
  fails_at OutOfMemory whole s (inl h) = absurd (cc)
  fails_at OutOfMemory whole s (inr h) = search (rules, none_fails)
  fails_at CannotWrite whole s (inl h) = absurd (cc)
  fails_at CannotWrite _ s (inr h) = absurd h
  fails_at _ _ s h = tt

-- ---- results with a fault

-- what holds of a fault unless it says that the input can't be read, for another result type
pub unless_on : (S T P Q : Type 0) (f : CommandFault) → (P → Q)
    → UnlessRead {T = S} (Err f) P → UnlessRead {T = T} (Err f) Q
unless_on S T P Q _ go p = search rules

-- the sink failed or not, and a packet has no datagram
pub sink_fails : (failed : Bool) (old new : ℕ) (f : CommandFault) → new ≡ old + times_failed failed
    → IsNextFault f → SinkFails old new (Err f)
sink_fails = search rules

-- carousel: the fault of an object that isn't sent, and its loop over the symbols.
use Rattle.std.proofs.Common.{rules}
use Rattle.std.proofs.Common.{◌≡◌, ℕ, zero, suc, ◌+◌, ◌^◌, ◌<◌, max, leb, ltb, Result, Ok, Err}
use Rattle.std.proofs.Common.{List, length, take, Bool, true}
use Rattle.std.proofs.Common.{false, cond, Option, Some, None, refl, sym, ap, subst, ◌∙◌, arith}
use Rattle.std.specs.Prelude.{IfSome, slice_get}
use Rattle.std.specs.List.{AllZip}
use Rattle.std.specs.Option.{option_map}
use Rattle.std.proofs.lemmas.List.{take_all}
use Rattle.flute_parts.specs.Information.{Information}
use Rattle.flute_parts.specs.Partition.{ids}
use Rattle.flute_parts.specs.declared.symbol_id.SymbolId.{SymbolId}
use Rattle.flute_parts.specs.declared.key.Key.{Key}
use Rattle.flute_wire.specs.declared.writing.WriteFault.{WriteFault}
use Rattle.flute_wire.specs.declared.writing.WriteFault.TheVariants.{Tsi, Toi, EmptySymbol, TooLong}
use Rattle.flute_wire.specs.declared.writing.WriteFault.TheVariants.{OutOfMemory}
use Rattle.flute_wire.specs.Carousel.{packets_of, symbols_of}
use Rattle.flute_wire.specs.Content.{Content}
use Rattle.flute_wire.specs.Writing.{IsWritten, packet_at, write_fault, has_no_byte, spelling}
use Rattle.flute_wire.specs.declared.datagram.Datagram.{Datagram}
use Rattle.flute_wire.proofs.Faults.{wrong_length, first_refused, none_refused, all_sent}
use Rattle.flute_wire.proofs.Pieces.{one_more, length-packets_of, facts_are_sent}
use Rattle.flute_wire.proofs.sending.carousel.Goals as goal

-- why the packet at a place is not written
abbrev fault_at : Key → Information → List ℕ → ℕ → Option WriteFault
fault_at key i content k = write_fault (packet_at key (Some i) (slice_get (symbols_of i content) k))

-- a packet that is written, or not for lack of memory, has no fault
not_written : (w : Option WriteFault) (r : Result Datagram WriteFault) → (w ≡ Some OutOfMemory → ⊥)
    → r ≡ Err OutOfMemory → IfSome w (λ f. r ≡ Err f) → w ≡ None
not_written None r other is h = refl
not_written (Some f) r other is h =
    let same : f ≡ OutOfMemory = (let e = sym h ∙ is in cc) in
    absurd (other (ap (λ (g : WriteFault). Some g) same))

is_written : (w : Option WriteFault) (r : Result Datagram WriteFault) (d : Datagram)
    → r ≡ Ok d → IfSome w (λ f. r ≡ Err f) → w ≡ None
is_written None r d is h = refl
is_written (Some f) r d is h = let e = sym h ∙ is in absurd cc

is_refused : (w : Option WriteFault) (r : Result Datagram WriteFault) (fault : WriteFault)
    → r ≡ Err fault → (fault ≡ OutOfMemory → ⊥) → IfSome w (λ f. r ≡ Err f)
    → (w ≡ None → fault ≡ OutOfMemory) → w ≡ Some fault
is_refused None r fault is other h memory = absurd (other (memory refl))
is_refused (Some f) r fault is other h memory =
    let same : f ≡ fault = (let e = sym h ∙ is in cc) in
    ap (λ (g : WriteFault). Some g) same

no_memory_fault : (a b s l : Bool) → cond a (Some Tsi) (cond b (Some Toi)
    (cond s (Some EmptySymbol) (cond l (Some TooLong) None))) ≡ Some OutOfMemory → ⊥
no_memory_fault true b s l e = cc
no_memory_fault false true s l e = cc
no_memory_fault false false true l e = cc
no_memory_fault false false false true e = cc
no_memory_fault false false false false e = cc

no_memory : (c : Content) → write_fault c ≡ Some OutOfMemory → ⊥
no_memory c e = no_memory_fault (leb (2 ^ 32) c.tsi) (leb (2 ^ 32) c.toi) (has_no_byte c.symbol)
    (ltb 65535 (length (spelling c))) e

-- the first packet has no fault, if one before or the one at this place has none
first_sent : (k : ℕ) (w : ℕ → Option WriteFault) → (0 < k → w 0 ≡ None) → w k ≡ None → w 0 ≡ None
first_sent zero w before here = here
first_sent (suc k) w before here = before (omega arith)

first_is : (k : ℕ) (w : ℕ → Option WriteFault) (fault : WriteFault) → (0 < k → w 0 ≡ None) →
    (w 0 ≡ None → w k ≡ None) → w k ≡ Some fault → w 0 ≡ Some fault
first_is zero w fault before all here = here
first_is (suc k) w fault before all here =
    let e = sym (all (before (omega arith))) ∙ here in absurd cc

pub returns-then-content-length-clause-fault : goal.returns-then-content-length-clause-fault
returns-then-content-length-clause-fault c =
    rw (wrong_length c.args.key.now c.args.info.now c.args.content.now
    (λ whole. c.if-content-length.true (whole ∙ sym c.length.ensures.value))) refl

pub returns-then-content-length-clause-memory : goal.returns-then-content-length-clause-memory
returns-then-content-length-clause-memory c = λ none. let is = wrong_length c.args.key.now
    c.args.info.now c.args.content.now
    (λ whole. c.if-content-length.true (whole ∙ sym c.length.ensures.value)) in absurd (cc)

pub returns-in-OutOfMemory-clause-fault : goal.returns-in-OutOfMemory-clause-fault
returns-in-OutOfMemory-clause-fault c =
    let key = c.args.key.now in
    let i = c.args.info.now in
    let content = c.args.content.now in
    let place = c.loop-place.place in
    let here : fault_at key i content place ≡ None = ap
    (λ (s : Option (SymbolId × List ℕ)). write_fault (packet_at key (Some i) s))
    (sym c.symbol_at.ensures) ∙ not_written _ c.write.result
    (no_memory (packet_at key (Some i) (option_map (λ s. (s.0, s.1.now)) c.symbol_at.result)))
    (c.in-Err.is ∙ ap (λ (fault : WriteFault). Err fault) c.in-OutOfMemory.is) c.write.ensures.fault
    in rw (none_refused key i content c.length.ensures.valid
    (c.if-content-length.false ∙ c.length.ensures.value)
    (first_sent place (fault_at key i content) c.loop-place.invariant.1 here)) tt

pub returns-in_default : goal.returns-in_default
returns-in_default c =
    let key = c.args.key.now in
    let i = c.args.info.now in
    let content = c.args.content.now in
    let place = c.loop-place.place in
    let fault = c.in-Err.fault in
    let valid = c.length.ensures.valid in
    let whole = c.if-content-length.false ∙ c.length.ensures.value in
    let count : c.max-place-end.result ≡ max (length (ids i)) 1 = search rules in
    let here : fault_at key i content place ≡ Some fault = ap
    (λ (s : Option (SymbolId × List ℕ)). write_fault (packet_at key (Some i) s))
    (sym c.symbol_at.ensures) ∙ is_refused _ c.write.result fault c.in-Err.is
    c.in_default.not-OutOfMemory c.write.ensures.fault c.in-Err.ensures.memory in
    let first = first_is place (fault_at key i content) fault c.loop-place.invariant.1
    (all_sent key i content place valid whole (omega (arith, count, c.loop-place-test.true))) here
    in
    let is = first_refused key i content fault valid whole first in
    record {
      whole = tt;
      written = tt;
      facts = tt;
      fault = rw is refl;
      memory = λ none. absurd (cc);
    }

pub returns-in-Err-push-clause-fault : goal.returns-in-Err-push-clause-fault
returns-in-Err-push-clause-fault c =
    let key = c.args.key.now in
    let i = c.args.info.now in
    let content = c.args.content.now in
    let place = c.loop-place.place in
    let here : fault_at key i content place ≡ None = ap
    (λ (s : Option (SymbolId × List ℕ)). write_fault (packet_at key (Some i) s))
    (sym c.symbol_at.ensures) ∙ is_written _ c.write.result c.in-Ok.datagram c.in-Ok.is
    c.write.ensures.fault in rw (none_refused key i content c.length.ensures.valid
    (c.if-content-length.false ∙ c.length.ensures.value)
    (first_sent place (fault_at key i content) c.loop-place.invariant.1 here)) tt

pub loop-place-preserved : goal.loop-place-preserved
loop-place-preserved c =
    let key = c.args.key.now in
    let i = c.args.info.now in
    let content = c.args.content.now in
    let place = c.loop-place.place in
    let count : c.max-place-end.result ≡ max (length (ids i)) 1 = c.max-place-end.ensures ∙ ap
    (λ (n : ℕ). max n 1)
    (c.symbols.ensures.value ∙ ap (λ (p : Information). length (ids p)) c.of-partition.ensures) in
    let here : fault_at key i content place ≡ None = ap
    (λ (s : Option (SymbolId × List ℕ)). write_fault (packet_at key (Some i) s))
    (sym c.symbol_at.ensures) ∙ is_written _ c.write.result c.in-Ok.datagram c.in-Ok.is
    c.write.ensures.fault in
    let written = subst
    (λ (s : Option (SymbolId × List ℕ)). IsWritten c.in-Ok.datagram (packet_at key (Some i) s))
    c.symbol_at.ensures c.in-Ok.ensures.written in (
      subst
          (λ (ds : List (List ℕ)). AllZip IsWritten ds (take (place + 1) (packets_of key i content)))
          (sym c.in-Ok-push.ensures.items) (one_more key content place c.loop-place.datagrams.items
          c.length.ensures.valid (omega (arith, count, c.loop-place-test.true)) c.loop-place.invariant.0
          written),
      λ _. first_sent place (fault_at key i content) c.loop-place.invariant.1 here,
    )

pub returns : goal.returns
returns c =
    let key = c.args.key.now in
    let i = c.args.info.now in
    let content = c.args.content.now in
    let valid = c.length.ensures.valid in
    let whole = c.if-content-length.false ∙ c.length.ensures.value in
    let count : c.max-place-end.result ≡ max (length (ids i)) 1 = search rules in
    let all : take c.loop-place.place (packets_of key i content) ≡ packets_of key i content =
    take_all c.loop-place.place (packets_of key i content)
    (omega (arith, count, c.loop-place-test.false, length-packets_of key i content valid)) in
    let written : AllZip IsWritten c.loop-place.datagrams.items (packets_of key i content) = search rules in
    let first = c.loop-place.invariant.1 (omega (arith, count, c.loop-place-test.false)) in
    record {
      whole = whole;
      written = written;
      facts = facts_are_sent key i content c.loop-place.datagrams.items written;
      fault = rw (none_refused key i content valid whole first) tt;
      memory = tt;
    }

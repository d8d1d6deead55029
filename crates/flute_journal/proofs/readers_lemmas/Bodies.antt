-- What is read after the first byte of an entry (src/readers/entry_fields.rt).
use Rattle.std.proofs.lemmas.Grind.{common_steps}
use Rattle.std.proofs.Common.{rules}
use Rattle.flute_journal.proofs.Common.{Address, Before, BodyIn, Bool, Consumes, Consumes-trans}
use Rattle.flute_journal.proofs.Common.{Err, Fact}
use Rattle.flute_journal.proofs.Common.{EntryHead, HeadIn, ReadsUpTo, IsBody, IsFact}
use Rattle.flute_journal.proofs.Common.{IsFactIn, IsFaultOf, IsFaultUpTo, IsSized, IsWithin, Key}
use Rattle.flute_journal.proofs.Common.{Kind, List, Ok, Option, Parses, ReadFault, Reads, ReadsEnd}
use Rattle.flute_journal.proofs.Common.{Result, StaysWithin, SymbolId, Version, [], ap}
use Rattle.flute_journal.proofs.Common.{arith, body, body_fault, byte_of, cut_fault, end}
use Rattle.flute_journal.proofs.Common.{end_fault, entry_in, err_from_is_err_and, false, head_bytes}
use Rattle.flute_journal.proofs.Common.{Some, head_size, header_fault, header_in, in_bytes, inr}
use Rattle.flute_journal.proofs.Common.{length, slice_get}
use Rattle.flute_journal.proofs.Common.{length-append, length-bytes_high_first, next_fault}
use Rattle.flute_journal.proofs.Common.{opening_fault, refl, subst, sym, or_failed, true, ℕ, ◌++◌}
use Rattle.flute_journal.proofs.Common.{◌<◌, ◌∙◌, ◌∷◌, ◌≡◌, ◌≤◌}
use Rattle.flute_journal.specs.{declared.format.EntryHead.TheVariants.{Symbol}, Input.{Advances}}
use Rattle.flute_journal.specs.declared.format.Kind.TheVariants as kinds
use Rattle.flute_journal.proofs.framing_lemmas.ReadsUpTo.{IsBehind, fault-behind, fault_up_to}
use Rattle.flute_journal.proofs.framing_lemmas.ReadsUpTo.{fault_up_to-behind, fault_found}
use Rattle.flute_journal.proofs.framing_lemmas.ReadsUpTo.{parsed_reads}
use Rattle.flute_journal.proofs.format_lemmas.Parts.{symbol_cut, symbol_within, body_comes}
use Rattle.flute_journal.proofs.format_lemmas.Parts.{one_byte}
use Rattle.flute_journal.proofs.format_lemmas.Parts.{body_least, entry_within, entry_within-short}
use Rattle.flute_journal.proofs.format_lemmas.Parts.{length-key_bytes}

-- the first bytes of a file
pub opening_reads : {T : Type 0} (o : List ℕ) {u v : Option (List ℕ)} (failed : Bool)
    {front : List ℕ} (r : Result T ReadFault) → length o ≡ 6
    → ReadsUpTo u v 6 failed front → Parses 6 (λ _. front ≡ o) (opening_fault o) front r
    → Reads (λ _. o) (λ _. Unit {0}) (opening_fault o) u v (or_failed failed r)
opening_reads o true (Ok x) len a p = grind (arith, common_steps)
opening_reads o {u = u} {v = v} false (Ok x) len a p = (tt, subst (Consumes u v) p a.read)
opening_reads {T} o {u = u} {v = v} true {front = front} (Err f) len a p = fault_found T true f a p
opening_reads {T} o {u = u} {v = v} false {front = front} (Err f) len a p =
    fault_found T false f a p

pub header_reads : (u v : Option (List ℕ)) (failed : Bool) (front : List ℕ)
    (r : Result Version ReadFault) → ReadsUpTo u v 6 failed front → Parses 6
    (λ (w : Version). header_in w ≡ front) header_fault front r → Reads header_in
    (λ (w : Version). Unit {0}) header_fault u v (or_failed failed r)
header_reads u v failed front (Ok w) a p = search (rules, parsed_reads)
header_reads u v failed front (Err f) a p = search (rules, parsed_reads)

-- the number at the end, and no bytes after it
pub end_reads : {T : Type 0} (count : ℕ) (u v : Option (List ℕ)) (failed : Bool) (front : List ℕ)
    (r : Result T ReadFault) → ReadsUpTo u v 9 failed front → Parses 9
    (λ _. front ≡ in_bytes 8 count) (end_fault count) front r → ReadsEnd count u v
    (or_failed failed r)
end_reads count u v true front (Ok x) a p = inr (subst (Consumes u v) p a.read)
end_reads count u v false front (Ok x) a p = grind (arith, common_steps)
end_reads {T} count u v true front (Err f) a p =
    fault_up_to (in_bytes 8 count) (end_fault count) u v _ (fault_found T true f a p)
end_reads {T} count u v false front (Err f) a p =
    fault_up_to (in_bytes 8 count) (end_fault count) u v f (fault_found T false f a p)

-- a fault of the number at the end is a fault of the end, its first byte included
pub end_stops : (limit : ℕ) (before : Before) (u v w : Option (List ℕ)) (f : ReadFault) → Consumes u
    v (255 ∷ []) → IsFaultUpTo (in_bytes 8 before.count) (end_fault before.count) v w f →
    IsFaultUpTo (end before.count) (next_fault before limit) u w f
end_stops limit before u v w f took h = search (rules, fault_up_to-behind)

-- the bytes of an entry, up to those of a symbol
pub fixed_least : (version : Version) (last : Option Address) (k : Kind) (x : EntryHead)
    → HeadIn version last k x → head_size version k ≤ length (head_bytes version x)
fixed_least version last k x h =
    grind (arith, body_least, length-key_bytes, length-append, length-bytes_high_first)

-- the input ended within the bytes of a symbol
pub symbol_stops : (version : Version) {last : Option Address} {k : Kind} {key : Key}
    {id : SymbolId} {n : ℕ} (u v w : Option (List ℕ)) {f : ReadFault}
    {r : Result Fact ReadFault} → r ≡ Err f → HeadIn version last k (Symbol key id n)
    → Consumes u v (head_bytes version (Symbol key id n)) → IsFaultOf (cut_fault n) v w f
    → Reads (body version) (BodyIn version last k) (body_fault version last k) u w r
symbol_stops version {last = last} {k = k} {key = key} {id = id} {n = n} u v w {f = f} e s took h =
    let fixed = head_bytes version (Symbol key id n) in
    let behind : IsBehind u v fixed (body_fault version last kinds.Symbol) (cut_fault n) =
    record { took = took; comes = λ r. symbol_cut version r s.0 s.1 } in
    let fault : IsFaultOf (body_fault version last k) u w f =
    subst (λ z. IsFaultOf (body_fault version last z) u w f) (sym s.0.kind_is)
    (fault-behind w f behind h) in
    subst (Reads (body version) (BodyIn version last k) (body_fault version last k) u w) (sym e)
    fault

pub symbol_ends : (version : Version) {last : Option Address} {k : Kind} {key : Key} {id : SymbolId}
    {n : ℕ} (u v w : Option (List ℕ)) {f : ReadFault} {r : Result Fact ReadFault} → r ≡ Err f →
    HeadIn version last k (Symbol key id n) → Consumes u v (head_bytes version (Symbol key id n)) →
    Advances v w n → StaysWithin (body version) (IsBody version k) u w r
symbol_ends version {k = k} {key = key} {id = id} {n = n} u v w e s took a =
    let fixed = head_bytes version (Symbol key id n) in
    let within = subst (λ z. IsWithin (body version) (IsBody version z) (fixed ++ a.0))
    (sym s.0.kind_is) (symbol_within version a.0 s.0 s.1 a.2) in subst
    (StaysWithin (body version) (IsBody version k) u w) (sym e)
    (fixed ++ a.0, Consumes-trans u v w fixed a.0 took a.1, within)

-- After the first byte of an entry or of the end, the rest could not be read.

pub end_ends : (version : Version) (u v w : Option (List ℕ)) (front : List ℕ)
    → length front ≤ 1 → Consumes u v front → Advances v w 9
    → (part : List ℕ) × Consumes u w part × IsWithin (entry_in version) (IsFactIn version) part
end_ends version u v w front most took a = (
  front ++ a.0,
  Consumes-trans u v w front a.0 took a.1,
  entry_within-short version (front ++ a.0) (omega (arith, most, a.2, length-append front a.0)),
)

-- the kind of an entry was read, which is one of this kind
pub record KindRead (k : Kind) (u v : Option (List ℕ)) : Type 0 where
  pub front : List ℕ
  pub is : front ≡ byte_of k ∷ []
  pub took : Consumes u v front

pub kind_read : (k : Kind) {u v : Option (List ℕ)} (front : List ℕ) {byte : ℕ} → length front ≤ 1 →
    Some byte ≡ slice_get front 0 → byte ≡ byte_of k → Consumes u v front → KindRead k u v
kind_read k front {byte = byte} most value is took = search (rules, one_byte)

pub body_stops : (limit : ℕ) (before : Before) {k : Kind} {u v : Option (List ℕ)}
    (w : Option (List ℕ)) (f : ReadFault) → KindRead k u v → before.count < limit
    → IsFaultOf (body_fault before.version before.last k) v w f
    → IsFaultUpTo (end before.count) (next_fault before limit) u w f
body_stops limit before {k = k} {u = u} {v = v} w f read few h = search (
  rules,
  body_comes,
  fault_up_to,
  end,
  fault-behind,
)

pub body_ends : (version : Version) {k : Kind} {u v : Option (List ℕ)} (w : Option (List ℕ))
    (part : List ℕ) → KindRead k u v → Consumes v w part
    → IsWithin (body version) (IsBody version k) part
    → (all : List ℕ) × Consumes u w all × IsWithin (entry_in version) (IsFactIn version) all
body_ends version {k = k} {u = u} {v = v} w part read rest h = (
  read.front ++ part,
  Consumes-trans
      u v w read.front part read.took rest,
  subst
      (λ x. IsWithin (entry_in version) (IsFactIn version) (x ++ part)) (sym read.is)
      (entry_within version k part h),
)

-- a symbol of a fact has as many bytes as one has
pub fact_sized : (f : Fact) → IsFact f → IsSized f
fact_sized f v = grind (arith)

-- the fault of a symbol is that of its entry
pub ruleset body_stopped = (err_from_is_err_and, symbol_stops)

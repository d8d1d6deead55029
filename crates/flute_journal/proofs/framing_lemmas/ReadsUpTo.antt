-- The fault of bytes of which a front was read (specs/Input: IsFaultUpTo).
use Rattle.std.proofs.lemmas.Grind.{common_steps}
use Rattle.std.proofs.Common.{rules}
use Rattle.flute_journal.proofs.Common.{◌≡◌, ℕ, ◌+◌, ◌≤◌, Bool, true, false, List, [], ◌++◌, length}
use Rattle.flute_journal.proofs.Common.{Option, Some, None, Result, Ok, Err, inl, inr, refl, sym}
use Rattle.flute_journal.proofs.Common.{ap, ◌∙◌, subst, append_assoc, arith, length-append}
use Rattle.flute_journal.proofs.Common.{append-nil, IfSome, IfErr, Consumes, Consumes-trans}
use Rattle.flute_journal.proofs.Common.{ReadFault, Fails, ReadsUpTo, IsFaultOf, IsFaultUpTo, Reads}
use Rattle.flute_journal.proofs.Common.{times_failed, left_by, or_failed, IsOfBytes, StopsReading}
use Rattle.flute_journal.proofs.Common.{Parses, AsksMemory, IsSettled, Consumes-nil, cut, cut_fault}
use Rattle.flute_journal.proofs.Common.{first_fault, ◌∷◌}
use Rattle.flute_journal.specs.declared.fault.ReadFault.TheVariants as faults

-- these bytes were read, and what follows them has the fault of a part
pub record IsBehind (u v : Option (List ℕ)) (front : List ℕ)
    (whole part : List ℕ → Option ReadFault) : Type 0 where
  pub took : Consumes u v front
  pub comes : (r : List ℕ) → whole (front ++ r) ≡ part r

-- a fault of the bytes that were left
fault_seen : (u v : Option (List ℕ)) {front : List ℕ}
    {whole part : List ℕ → Option ReadFault} (f : ReadFault) → IsBehind u v front whole part
    → IfSome v (λ bytes. part bytes ≡ Some f) → IfSome u (λ bytes. whole bytes ≡ Some f)
fault_seen None v f b h = tt
fault_seen (Some x) None f b h = absurd b.took
fault_seen (Some x) (Some y) {whole = whole} f b h = ap whole b.took ∙ b.comes y ∙ h

-- the whole has the fault of the part after the bytes that were read
pub fault-behind : {u v : Option (List ℕ)} (w : Option (List ℕ)) {front : List ℕ}
    {whole part : List ℕ → Option ReadFault} (f : ReadFault) → IsBehind u v front whole part
    → IsFaultOf part v w f → IsFaultOf whole u w f
fault-behind {u = u} {v = v} w {front = front} faults.Read b h =
    (front ++ h.0, Consumes-trans u v w front h.0 b.took h.1, b.comes h.0 ∙ h.2)
fault-behind {u = u} {v = v} w {front = front} {whole = whole} faults.OutOfMemory b h = record {
  read = front ++ h.read;
  seen = h.seen;
  consumed = Consumes-trans u v w front h.read b.took h.consumed;
  follows = h.follows;
  settled = λ more. let all = h.read ++ h.seen in
      let one = ap (λ (l : List ℕ). l ++ more) (append_assoc front h.read h.seen) ∙ append_assoc
      front all more in subst (λ (o : Option ReadFault). IfSome o (λ f. f ≡ faults.Cut))
      (sym (ap whole one ∙ b.comes (all ++ more))) (h.settled more);
}
fault-behind {u = u} {v = v} w f b h = fault_seen u v f b h

-- memory is asked for before the bytes that are so many are read

cut_only : (b : Bool) → IfSome (first_fault ((b, faults.Cut) ∷ [])) (λ f. f ≡ faults.Cut)
cut_only x0 = search rules

follows_nil : (u : Option (List ℕ)) → IfSome u (λ bytes. (rest : List ℕ) × (bytes ≡ [] ++ rest))
follows_nil x0 = search rules

pub asks_first : (fault : List ℕ → Option ReadFault) (u v : Option (List ℕ)) → v ≡ u
    → IsSettled fault [] → AsksMemory fault u v
asks_first fault u v same h =
    subst (λ (x : Option (List ℕ)). AsksMemory fault u x) (sym same)
    (record {
      read = [];
      seen = [];
      consumed = Consumes-nil u;
      follows = follows_nil u;
      settled = h;
    })

pub asks_bytes : (n : ℕ) (u : Option (List ℕ)) → AsksMemory (cut_fault n) u u
asks_bytes n u = search (rules, asks_first, cut_only, cut)

-- and once the next was seen, and has no fault
pub asks_seen : (fault : List ℕ → Option ReadFault) (u v : Option (List ℕ)) (x : List ℕ) → v ≡ u →
    IfSome u (λ bytes. (rest : List ℕ) × (bytes ≡ x ++ rest)) →
    ((r : List ℕ) → fault (x ++ r) ≡ None) → AsksMemory fault u v
asks_seen fault u v x same begins none =
    subst (λ (y : Option (List ℕ)). AsksMemory fault u y) (sym same) (record {
      read = [];
      seen = x;
      consumed = Consumes-nil u;
      follows = begins;
      settled = search rules;
    })

-- it was asked for if it ran out
pub asked : (last : List ℕ) (fault : List ℕ → Option ReadFault) (u v : Option (List ℕ))
    (f : ReadFault) → IsFaultUpTo last fault u v f → f ≡ faults.OutOfMemory → AsksMemory fault u v
asked last fault u v f h e = search rules

-- the same, where the source may fail after the last bytes
pub fault_up_to-behind : {u v : Option (List ℕ)} (w : Option (List ℕ)) {front : List ℕ}
    (last : List ℕ) {whole part : List ℕ → Option ReadFault} (f : ReadFault) → IsBehind u v front
    whole part → IsFaultUpTo last part v w f → IsFaultUpTo (front ++ last) whole u w f
fault_up_to-behind w last faults.Read b (inl h) = inl (fault-behind w faults.Read b h)
fault_up_to-behind {u = u} {v = v} w {front = front} last faults.Read b (inr h) =
    inr (Consumes-trans u v w front last b.took h)
fault_up_to-behind w last f b h = fault-behind w f b h

-- a fault of bytes is one of bytes that may end
pub fault_up_to : (last : List ℕ) (fault : List ℕ → Option ReadFault) (u v : Option (List ℕ))
    (f : ReadFault) → IsFaultOf fault u v f → IsFaultUpTo last fault u v f
fault_up_to last fault u v faults.Read h = inl h
fault_up_to last fault u v f h = h

-- what was read is at fault already
pub fault_here : (u v : Option (List ℕ)) (front : List ℕ)
    (whole : List ℕ → Option ReadFault) (o : Option ReadFault)
    → Consumes u v front → ((r : List ℕ) → whole (front ++ r) ≡ o) → IfSome u (λ bs. whole bs ≡ o)
fault_here x0 x1 x2 x3 x4 x5 x6 = search rules

-- ReadsUpTo alone.

-- they have a fault that isn't the end of the input
pub stops_here : (n : ℕ) (whole : List ℕ → Option ReadFault) (front : List ℕ)
    (f : ReadFault) → (f ≡ faults.Cut → ⊥) → IsOfBytes f
    → ((r : List ℕ) → whole (front ++ r) ≡ Some f) → StopsReading n whole front f
stops_here n whole front f other bytes h = search rules

-- if the bytes after their prefix stop reading, the whole stops it with the same fault
pub stops_behind : (n : ℕ) {m : ℕ} (whole : List ℕ → Option ReadFault)
    {part : List ℕ → Option ReadFault} {front : List ℕ} (a : List ℕ) {b : List ℕ} {f : ReadFault} →
    front ≡ a ++ b → length a + m ≤ n → ((r : List ℕ) → part r ≡ Some f → whole (a ++ r) ≡ Some f) →
    StopsReading m part b f → StopsReading n whole front f
stops_behind n whole a is fits h s = grind (arith, length-append, append_assoc)

at_front : {fault : List ℕ → Option ReadFault} (u v : Option (List ℕ)) {n : ℕ} {failed : Bool}
    {front : List ℕ} {f : ReadFault} → ReadsUpTo u v n failed front → StopsReading n fault front f →
    (f ≡ faults.Cut → failed ≡ false) → IfSome u (λ bytes. fault bytes ≡ Some f)
at_front None v a s whole = tt
at_front (Some x) None a s whole = absurd a.read
at_front {fault = fault} (Some x) (Some y) a s whole = search rules

cut_there : (fault : List ℕ → Option ReadFault) (n : ℕ) (front : List ℕ)
    → StopsReading n fault front faults.Cut → fault front ≡ Some faults.Cut
cut_there fault n front s = ap fault (sym (append-nil front)) ∙ s.whole [] (λ e. refl)

-- the fault of what was read is that of the bytes that were left, unless the source failed where
-- they are cut
pub fault_found : (T : Type 0) {fault : List ℕ → Option ReadFault} {u v : Option (List ℕ)}
    {n : ℕ} (failed : Bool) {front : List ℕ} (f : ReadFault) → ReadsUpTo u v n failed front
    → StopsReading n fault front f → IfErr (or_failed {T = T} failed (Err f)) (IsFaultOf fault u v)
fault_found T failed faults.Read a s = absurd s.of_bytes
fault_found T failed faults.OutOfMemory a s = absurd s.of_bytes
fault_found T {fault = fault} {n = n} true {front = front} faults.Cut a s =
    (front, a.read, cut_there fault n front s)
fault_found T {u = u} {v = v} false f a s = at_front u v a s (λ e. refl)
fault_found T {u = u} {v = v} true f a s = at_front u v a s (λ e. absurd cc)

-- what was read of a source, as it is parsed: a value takes all of the bytes
pub parsed_reads : {T : Type 0} (spelling : T → List ℕ) (IsIt : T → Type 0)
    (fault : List ℕ → Option ReadFault) {u v : Option (List ℕ)} {n : ℕ} (failed : Bool)
    {front : List ℕ} (r : Result T ReadFault) → ReadsUpTo u v n failed front →
    ((x : T) → IsIt x → n ≤ length (spelling x)) → Parses n (λ x. IsIt x × (spelling x ≡ front))
    fault front r → Reads spelling IsIt fault u v (or_failed failed r)
parsed_reads spelling IsIt fault true (Ok x) a least p = grind (arith, common_steps)
parsed_reads spelling IsIt fault {u = u} {v = v} false (Ok x) a least p =
    (p.0, subst (Consumes u v) (sym p.1) a.read)
parsed_reads {T} spelling IsIt fault true (Err f) a least p = fault_found T true f a p
parsed_reads {T} spelling IsIt fault false (Err f) a least p = fault_found T false f a p

fails_once : (T : Type 0) (f : ReadFault) (old new : ℕ) → IsOfBytes f → new ≡ old + 1
    → Fails {T = T} old new (Err (left_by f))
fails_once T faults.Read old new b e = absurd b
fails_once T faults.OutOfMemory old new b e = absurd b
fails_once T faults.Cut old new b e = e
fails_once T f old new b e = inr e

fails_never : (T : Type 0) (f : ReadFault) (old new : ℕ) → IsOfBytes f → new ≡ old
    → Fails {T = T} old new (Err f)
fails_never T faults.Read old new b e = absurd b
fails_never T faults.OutOfMemory old new b e = absurd b
fails_never T faults.Cut old new b e = e
fails_never T f old new b e = inl e

-- how often the source failed where bytes of it were parsed
pub parsed_fails : {T : Type 0} (IsIt : T → Type 0) (fault : List ℕ → Option ReadFault)
    (n : ℕ) (failed : Bool) (front : List ℕ) (r : Result T ReadFault) (old : ℕ)
    → Parses n IsIt fault front r → Fails old (old + times_failed failed) (or_failed failed r)
parsed_fails IsIt fault n true front (Ok x) old p = refl
parsed_fails IsIt fault n false front (Ok x) old p = omega arith
parsed_fails {T} IsIt fault n true front (Err f) old p = search rules
parsed_fails {T} IsIt fault n false front (Err f) old p = search rules

-- parsing takes no memory
pub parsed_memory : {T : Type 0} (IsIt : T → Type 0) (fault : List ℕ → Option ReadFault)
    (n : ℕ) (failed : Bool) (front : List ℕ) (r : Result T ReadFault)
    → Parses n IsIt fault front r → IfErr (or_failed failed r) (λ f. f ≡ faults.OutOfMemory → ⊥)
parsed_memory x0 x1 x2 x3 x4 x5 x6 = search rules

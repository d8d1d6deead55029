-- An entry that is held is let go of, and the next is held (src/readers/held_entry.rt).
use Rattle.std.proofs.lemmas.Grind.{common_steps}
use Rattle.std.proofs.Common.{rules}
use Rattle.flute_journal.proofs.Common.{Consumes, FailsIf, Gives, IfSome, IsFactIn, List}
use Rattle.flute_journal.proofs.Common.{None, Option, ReadFault, ReaderState, Before}
use Rattle.flute_journal.proofs.Common.{Result, Some, Two, ap, append_assoc, arith, drop}
use Rattle.flute_journal.proofs.Common.{drop_at, inl, inr, is_open, journal_framing, length}
use Rattle.flute_journal.proofs.Common.{length-append, length-bytes_high_first, length-take-le}
use Rattle.flute_journal.proofs.Common.{refl, subst, sym, take, take_at}
use Rattle.flute_journal.proofs.Common.{take-append-drop, ◌∙◌, ◌∷◌, ◌≡◌, ◌≤◌, ◌++◌, ℕ, [], Fact}
use Rattle.flute_journal.proofs.Common.{Key, SymbolId, Address, IsTrue, in_bytes, length-take}
use Rattle.std.proofs.lemmas.List.{append_cancel_left}
use Rattle.std.proofs.Math.Seq.{drop-append_seam}
use Rattle.std.specs.Io.{StartsWith}
use Rattle.std.specs.Prelude.{OnErr}
use Rattle.flute_parts.specs.declared.fact.Fact.TheVariants.{Symbol}
use Rattle.flute_journal.proofs.format_lemmas.Parts.{length-key_bytes}
use Rattle.flute_journal.proofs.format_lemmas.SameFile.{key_size_two}
use Rattle.flute_journal.proofs.readers_lemmas.Seen.{begins_with}
use Rattle.flute_parts.specs.Addresses.{address}
use Rattle.flute_journal.specs.Faults.{is_after}
use Rattle.flute_journal.specs.Format.{entry, id_bytes, key_bytes}
use Rattle.flute_journal.specs.HeldEntries.{HoldsNext, IsSpelling, Reading, fact_held}
use Rattle.flute_journal.specs.HeldEntries.{fact_of_held, left_behind, left_of, size_of}
use Rattle.flute_journal.specs.HeldEntries.{spelled_in, spelled_of}
use Rattle.flute_journal.specs.Input.{IsFaultUpTo}
use Rattle.flute_journal.specs.Lent.{BeginsWithEntry}
use Rattle.flute_journal.specs.Readers.{given_into}
use Rattle.flute_journal.specs.declared.fault.ReadFault.TheVariants as faults
use Rattle.flute_journal.specs.declared.readers.held_entry.HeldEntry.{HeldEntry}
use Rattle.flute_journal.specs.declared.readers.held_entry.HeldEntry.TheVariants as held

-- What is read of known bytes is read, too, of bytes that are not known.

unknown_fault : (whole : List ℕ) (fault : List ℕ → Option ReadFault) (u w : Option (List ℕ))
    (f : ReadFault) → IsFaultUpTo whole fault u w f → IsFaultUpTo whole fault None w f
unknown_fault whole fault u w faults.Read h = elim h [ inl a ↦ inl (a.0, tt, a.2) | inr a ↦ inr tt ]
unknown_fault whole fault u w faults.OutOfMemory h = search rules
unknown_fault whole fault u w faults.Magic h = tt
unknown_fault whole fault u w faults.Version h = tt
unknown_fault whole fault u w faults.Kind h = tt
unknown_fault whole fault u w faults.TooMany h = tt
unknown_fault whole fault u w faults.Key h = tt
unknown_fault whole fault u w faults.Order h = tt
unknown_fault whole fault u w (faults.Information info) h = tt
unknown_fault whole fault u w faults.EmptySymbol h = tt
unknown_fault whole fault u w faults.Count h = tt
unknown_fault whole fault u w faults.Trailing h = tt
unknown_fault whole fault u w faults.Cut h = tt

unknown : (limit : ℕ) (old new : ReaderState Before) (u w : Option (List ℕ))
    (r : Result (Option Fact) ReadFault) → Gives journal_framing limit old new u w r
    → Gives journal_framing limit old new None w r
unknown x0 x1 x2 x3 x4 x5 x6 = search (rules, unknown_fault)

-- what holds of the bytes behind those that were taken, and if they are not known
behind_taken : (P : Option (List ℕ) → Type 0) (u v : Option (List ℕ)) (taken : List ℕ) →
    ((x : Option (List ℕ)) → P x → P None) → Consumes u v taken → P v → P (left_behind taken u)
behind_taken x0 x1 x2 x3 x4 x5 x6 = grind (arith, common_steps)

-- behind nothing all is left
pub left_all : (w : Option (List ℕ)) → left_behind [] w ≡ w
left_all x0 = search rules

-- an entry was let go of, and then the next read into memory of its own
pub record ReadsAnew {R : Type 0} (unread : R → Option (List ℕ)) (buffered : R → List ℕ)
    (failures : R → ℕ) (limit : ℕ) (old new : Reading R) (result : Result (Unit {0}) ReadFault)
    : Type 0 where
  pub own : size_of new.held ≡ 0
  pub between : R
  pub taken : Consumes (unread old.source) (unread between) (spelled_of buffered old)
  pub none_failed : failures between ≡ failures old.source
  pub gives :
      Gives journal_framing limit old.state new.state (unread between) (unread new.source)
      (given_into result (fact_of_held buffered new))
  pub failed :
      FailsIf (is_open old.state) (failures between) (failures new.source)
      (given_into result (fact_of_held buffered new))
  pub none : OnErr result (new.held ≡ held.Nothing)

spells_none : (b : List ℕ) (e : HeldEntry) → size_of e ≡ 0
    → IsSpelling (spelled_in b e) (fact_held b e)
spells_none b held.Nothing own = refl
spells_none b (held.Entry place v) own = inl (ap (λ n. take n b) own)

pub holds_anew : {R : Type 0} {unread : R → Option (List ℕ)} {buffered : R → List ℕ}
    {failures : R → ℕ} {limit : ℕ} {old new : Reading R} {result : Result (Unit {0}) ReadFault}
    → ReadsAnew unread buffered failures limit old new result
    → HoldsNext unread buffered failures limit old new result
holds_anew {unread = unread} {buffered = buffered} {failures = failures} {limit = limit} {old = old}
    {new = new} {result = result} h =
    let given = given_into result (fact_of_held buffered new) in
    let b = buffered new.source in
    let w = unread new.source in
    let all : left_of unread buffered new ≡ w = ap (λ n. left_behind (take n b) w) h.own ∙ left_all
    w in record {
      gives = subst (λ l. Gives journal_framing limit old.state new.state
          (left_of unread buffered old) l given) (sym all) (behind_taken
          (λ l. Gives journal_framing limit old.state new.state l w given) (unread old.source)
          (unread h.between) (spelled_of buffered old)
          (λ x. unknown limit old.state new.state x w given) h.taken h.gives);
      failed = subst (λ n. FailsIf (is_open old.state) n (failures new.source) given) h.none_failed
          h.failed;
      spelled = spells_none b new.held h.own;
      none = h.none;
    }

-- What is held where it lies.

-- the bytes of a symbol follow 44 others
symbol_behind : (key : Key) (id : SymbolId) (symbol : List ℕ)
    → drop 44 (entry (Symbol key id symbol)) ≡ symbol
symbol_behind key id symbol =
    let number = in_bytes 2 (length symbol) in
    let front = key_bytes Two key ++ (id_bytes id ++ number) in
    let own : length (key_bytes Two key) ≡ 37 = length-key_bytes Two key ∙ sym key_size_two in
    let long : length front ≡ 43 = omega (
      arith,
      length-append (key_bytes Two key)
          (id_bytes id ++ number),
      length-append (id_bytes id) number,
      length-append (in_bytes 2 id.sbn)
          (in_bytes 2 id.esi),
      own,
      length-bytes_high_first 2 id.sbn,
      length-bytes_high_first 2 id.esi,
      length-bytes_high_first 2 (length symbol),
    ) in
    let is : entry (Symbol key id symbol) ≡ 3 ∷ (front ++ symbol) = grind (arith, append_assoc) in
    ap (drop 44) is ∙ drop_at front symbol 43 long

-- what follows the bytes that were taken of a buffer is in front of what is left
starts_behind : (b : List ℕ) (n : ℕ) (xs ys : List ℕ) → StartsWith xs b
    → xs ≡ take n b ++ ys → StartsWith ys (drop n b)
starts_behind b n xs ys front is =
    let more = drop (length b) xs in
    let whole : xs ≡ take n b ++ (drop n b ++ more) =
    sym (take-append-drop (length b) xs) ∙ ap (λ l. l ++ more) front
    ∙ ap (λ l. l ++ more) (sym (take-append-drop n b)) ∙ append_assoc (take n b) (drop n b) more in
    let rest : ys ≡ drop n b ++ more =
    append_cancel_left (take n b) ys (drop n b ++ more) (sym is ∙ whole) in
    ap (take (length (drop n b))) rest ∙ take_at (drop n b) more (length (drop n b)) refl

-- the entry behind what was held lies at the front of what is left of a source
left_on : {last : Option Address} {f : Fact} {size : ℕ} (b held : List ℕ) (u v : Option (List ℕ)) →
    IfSome u (λ xs. StartsWith xs b) → Consumes u v (take (length held) b) → length held ≤ length b
    → BeginsWithEntry Two last (drop (length held) b) f size → Consumes (left_behind held u)
    (left_behind (take size (drop (length held) b)) v) (entry f)
left_on b held None v front c few h = tt
left_on b held (Some xs) None front c few h = absurd c
left_on {f = f} {size = size} b held (Some xs) (Some ys) front c few h =
    let n = length held in
    let rest = drop n b in
    let taken : length (take n b) ≡ n = length-take-le n b few in
    let old : drop n xs ≡ ys = ap (drop n) c ∙ drop_at (take n b) ys n taken in
    let begins = begins_with rest (entry f) (Some ys) size (starts_behind b n xs ys front c)
    h.spelled in
    let more = begins.0 in
    let new : drop (length (take size rest)) ys ≡ more = ap (λ l. drop (length l) ys) h.spelled ∙ ap
    (drop (length (entry f))) begins.1 ∙ drop-append_seam (entry f) more in old ∙ begins.1 ∙ ap
    (λ l. entry f ++ l) (sym new)

-- the entry of a symbol is held where it lies behind what was held
pub record HeldInBuffer (last : Option Address) (f : Fact) (b held b' : List ℕ) (size : ℕ)
    (u v : Option (List ℕ)) : Type 0 where
  pub valid : IsFactIn Two f
  pub in_order : IsTrue (is_after last (address f))
  pub consumes : Consumes (left_behind held u) (left_behind (take size b') v) (entry f)
  pub spelled : take size b' ≡ entry f

-- an entry was seen in a source's buffer, behind the bytes that are held
pub record IsSeenBehind (e : HeldEntry) (last : Option Address) (f : Fact) (b taken : List ℕ)
    (size : ℕ) (u : Option (List ℕ)) : Type 0 where
  pub buffer : List ℕ
  pub lent : buffer ≡ b
  pub held : taken ≡ spelled_in buffer e
  pub front : IfSome u (λ xs. StartsWith xs buffer)
  pub begins : BeginsWithEntry Two last (drop (length taken) buffer) f size

pub held_next : {e : HeldEntry} {last : Option Address} {key : Key} {id : SymbolId}
    {symbol b b' taken : List ℕ} {size : ℕ} {u v : Option (List ℕ)}
    → IsSeenBehind e last (Symbol key id symbol) b taken size u
    → b' ≡ drop (length taken) b → Consumes u v (take (length taken) b)
    → HeldInBuffer last (Symbol key id (drop 44 (take size b'))) b (spelled_in b e) b' size u v
held_next {e = e} {last = last} {key = key} {id = id} {symbol = symbol} {b = b} {taken = taken}
    {size = size} {u = u} {v = v} h is c =
    let rest = drop (length taken) b in
    let begins : BeginsWithEntry Two last rest (Symbol key id symbol) size = subst
    (λ (x : List ℕ). BeginsWithEntry Two last (drop (length taken) x) (Symbol key id symbol) size)
    h.lent h.begins in
    let value : drop 44 (take size rest) ≡ symbol = ap (drop 44) begins.spelled ∙ symbol_behind key
    id symbol in
    let f = Symbol key id (drop 44 (take size rest)) in
    let own : BeginsWithEntry Two last rest f size = subst
    (λ (s : List ℕ). BeginsWithEntry Two last rest (Symbol key id s) size) (sym value) begins in
    let held : taken ≡ spelled_in b e = h.held ∙ ap (λ x. spelled_in x e) h.lent in
    let few : length taken ≤ length b = omega (arith, length-take (size_of e) b, ap length held) in
    let front : IfSome u (λ xs. StartsWith xs b) = subst
    (λ (x : List ℕ). IfSome u (λ xs. StartsWith xs x)) h.lent h.front in subst (λ (x : List ℕ).
    HeldInBuffer last (Symbol key id (drop 44 (take size x))) b (spelled_in b e) x size u v)
    (sym is) (subst (λ (t : List ℕ). HeldInBuffer last f b t rest size u v) held (record {
      valid = own.valid;
      in_order = own.in_order;
      consumes = left_on b taken u v front c few own;
      spelled = own.spelled;
    }))

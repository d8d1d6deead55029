-- An entry that is whole in the buffer of its source (src/readers/lent.rt).
use Rattle.flute_journal.proofs.Common.{◌≡◌, ℕ, ◌+◌, List, ◌∷◌, ◌++◌, length}
use Rattle.flute_journal.proofs.Common.{take, drop, Option}
use Rattle.flute_journal.proofs.Common.{Some, None, sym, ap, subst, ◌∙◌, append_assoc, arith}
use Rattle.flute_journal.proofs.Common.{length-append, take-append-drop, IfSome, IsSplitAt, Address}
use Rattle.flute_journal.proofs.Common.{AllByRecursion, Fact, HasRoom, HeadIs, IsByte, Key}
use Rattle.flute_journal.proofs.Common.{SymbolId, Version, byte_of, entry_in, head_bytes}
use Rattle.std.specs.Io.{StartsWith}
use Rattle.flute_parts.specs.declared.fact.Fact.TheVariants as facts
use Rattle.flute_journal.specs.declared.format.EntryHead.TheVariants.{Symbol}
use Rattle.flute_journal.specs.declared.format.Kind.TheVariants as kinds
use Rattle.flute_journal.specs.Lent.{BeginsWithEntry, HasEntry}
use Rattle.flute_journal.proofs.Numbers.{octets-drop, octets-take}
use Rattle.flute_journal.proofs.format_lemmas.Decoded.{in_front, joined}

pub begins_with : (buffer x : List ℕ) (u : Option (List ℕ)) (size : ℕ)
    → IfSome u (λ bytes. StartsWith bytes buffer) → take size buffer ≡ x
    → IfSome u (λ bytes. (rest : List ℕ) × (bytes ≡ x ++ rest))
begins_with buffer x None size front spelled = tt
begins_with buffer x (Some bytes) size front spelled =
    let n = length buffer in
    let more = drop n bytes in
    let back = drop size buffer in (
      back ++ more,
      sym (take-append-drop n bytes) ∙ ap (λ (l : List ℕ). l ++ more) front ∙ ap
          (λ (l : List ℕ). l ++ more)
          (sym (take-append-drop size buffer) ∙ ap (λ (l : List ℕ). l ++ back) spelled) ∙ append_assoc x
          back more,
    )

pub has_entry : (version : Version) (last : Option Address) (u : Option (List ℕ))
    (buffer : List ℕ) (f : Fact) (size : ℕ) → IfSome u (λ bytes. StartsWith bytes buffer)
    → BeginsWithEntry version last buffer f size → HasEntry version last u
has_entry version last u buffer f size front h = record {
  fact = f;
  valid = h.valid;
  in_order = h.in_order;
  begins = begins_with buffer (entry_in version f) u size front h.spelled;
}

-- bytes begin with the byte of a symbol, a head, and a symbol of so many bytes
pub record LieInFront (bytes : List ℕ) (n : ℕ) (fixed symbol : List ℕ) : Type 0 where
  pub octets : AllByRecursion IsByte bytes
  pub first : ℕ
  pub back : List ℕ
  pub first_is : first ≡ byte_of kinds.Symbol
  pub is : bytes ≡ first ∷ back
  pub size : ℕ
  pub rest : List ℕ
  pub split : IsSplitAt back size fixed rest
  pub symbol_is : symbol ≡ take n rest
  pub whole : length symbol ≡ n

-- they begin with the entry of that symbol, if the head is its head
pub symbol_begins : (v : Version) {last : Option Address} {key : Key} {id : SymbolId} {n : ℕ}
    {bytes fixed symbol : List ℕ} → HeadIs last kinds.Symbol (Symbol key id n) → HasRoom v
    key.session → head_bytes v (Symbol key id n) ≡ fixed → LieInFront bytes n fixed symbol →
    BeginsWithEntry v last bytes (facts.Symbol key id symbol) (1 + length fixed + length symbol)
symbol_begins v {last = last} {key = key} {id = id} {n = n} {bytes = bytes} {fixed = fixed}
    {symbol = symbol} s room head_is l =
    let first : l.first ≡ 3 = l.first_is in
    let behind : AllByRecursion IsByte l.back =
    (subst (AllByRecursion IsByte) l.is l.octets).1 in
    let own : AllByRecursion IsByte symbol =
    subst (AllByRecursion IsByte) (sym l.symbol_is)
    (octets-take n l.rest
    (subst (AllByRecursion IsByte) (sym l.split.2) (octets-drop l.size l.back behind))) in
    let begins = in_front (l.first ∷ fixed) symbol l.rest n l.symbol_is in
    let long : length (l.first ∷ (fixed ++ symbol)) ≡ 1 + length fixed + length symbol =
    omega (arith, length-append fixed symbol) in
    let spelled : l.first ∷ (fixed ++ symbol) ≡ entry_in v (facts.Symbol key id symbol) =
    grind (arith, append_assoc) in
    let bytes_are : bytes ≡ l.first ∷ (fixed ++ l.rest) =
    l.is ∙ ap (λ xs. l.first ∷ xs) (joined l.back fixed l.rest l.size l.split) in
    subst (λ xs. BeginsWithEntry v last xs (facts.Symbol key id symbol)
    (1 + length fixed + length symbol)) (sym bytes_are)
    (record {
      valid = (
        (
          s.key_valid,
          s.id_valid,
          record {
            some = omega (arith, s.some, l.whole);
            short = omega (arith, s.short, l.whole);
            octets = own;
          },
        ),
        room,
      );
      in_order = s.in_order;
      within = omega (arith, begins.0, long);
      spelled = rw (← long) (begins.1 ∙ spelled);
    })

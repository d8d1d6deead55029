-- A datagram that is written spells the packet it was made of (specs/Datagram: Spells).
use Rattle.std.proofs.Common.{rules}
use Rattle.std.proofs.Common.{◌≡◌, ℕ, ◌+◌, ◌*◌, ◌^◌, ◌<◌}
use Rattle.std.proofs.Common.{◌≤◌, ◌⊎◌, List, [], ◌∷◌, ◌++◌, length, Bool}
use Rattle.std.proofs.Common.{false, cond, eqb, Option, Some, None}
use Rattle.std.proofs.Common.{sym, ap, subst, ◌∙◌, arith}
use Rattle.std.specs.Prelude.{IfSome, IsSomeAnd}
use Rattle.std.specs.Option.{option_to_list, option_map}
use Rattle.std.proofs.lemmas.List.{append-nil}
use Rattle.byteorder.specs.Endian.{big_bytes, big_from}
use Rattle.byteorder.specs.Numbers.{big_number-reads_back, length-bytes_high_first}
use Rattle.flute_parts.specs.Information.{Information, info_fault}
use Rattle.flute_parts.specs.BigEndian.{big_endian}
use Rattle.flute_parts.specs.declared.symbol_id.SymbolId.{SymbolId}
use Rattle.flute_parts.specs.declared.key.Key.{Key}
use Rattle.flute_parts.specs.ObjectName.{toi_of, instance_of}
use Rattle.flute_parts.specs.declared.object_key.ObjectName.{ObjectName}
use Rattle.flute_wire.specs.declared.first_word.FirstWord.{FirstWord}
use Rattle.flute_wire.specs.Header.{fields}
use Rattle.flute_wire.specs.Extensions.{HeaderExtension, bodies, ext_fti, ext_fdt}
use Rattle.flute_wire.specs.Extensions.{ext_cenc, fti_information, fdt_version, fdt_instance}
use Rattle.flute_wire.specs.Extensions.{first}
use Rattle.flute_wire.specs.Content.{Content, HasKey}
use Rattle.flute_wire.specs.Datagram.{Parts, HasParts, content_of, tail_symbol, Spells}
use Rattle.flute_wire.specs.Writing.{packet_at, outgoing_facts, IsWritten, spelling, fdt_bytes}
use Rattle.flute_wire.specs.Writing.{fti_bytes, symbol_bytes, fdt_words, fti_words, word_bytes}
use Rattle.flute_wire.specs.Writing.{write_fault, has_no_byte}
use Rattle.flute_wire.specs.Encoding.{HasFittingId, HasFittingInformation, IsEncodable}
use Rattle.flute_wire.proofs.BigEndian.{big_from-whole}
use Rattle.flute_wire.specs.Facts.{object_named, key_of}
use Rattle.flute_wire.specs.Reading.{facts}
use Rattle.flute_wire.proofs.Spelling.{same_content}
use Rattle.flute_wire.proofs.Computed.{facts-Spells}
use Rattle.flute_parts.proofs.Public.{fault-none}

-- a number in enough bytes is that number
pub big_endian-big_bytes : (k n : ℕ) → n < 256 ^ k → big_endian (big_bytes k n) ≡ n
big_endian-big_bytes k n h =
    let back : big_from 0 k (big_bytes k n ++ []) ≡ n = big_number-reads_back k n [] h in
    sym (big_from-whole k (big_bytes k n) (sym (length-bytes_high_first k n)))
    ∙ ap (big_from 0 k) (sym (append-nil (big_bytes k n))) ∙ back

-- the extensions that are written
abbrev fdt_body : ℕ → List ℕ
fdt_body instance = big_bytes 3 (2 * 2 ^ 20 + instance)

abbrev fti_body : Information → List ℕ
fti_body i = 4 ∷ big_bytes 6 i.transfer_length ++
    (big_bytes 2 0 ++ (big_bytes 2 i.symbol_length ++ big_bytes 4 i.max_block_length))

abbrev fdt_extensions : Option ℕ → List HeaderExtension
fdt_extensions None = []
fdt_extensions (Some instance) = record { het = 192; body = fdt_body instance } ∷ []

abbrev fti_extensions : Option Information → List HeaderExtension
fti_extensions None = []
fti_extensions (Some i) = record { het = 64; body = fti_body i } ∷ []

-- the fields of the first word
fields_are : (n : Option ℕ) (i : Option Information)
    → fields (big_endian (word_bytes (4 + fdt_words n + fti_words i))) ≡ record {
      version = 1;
      congestion_words = 0;
      tsi_words = 1;
      toi_words = 1;
      half_word = 0;
      header_words = 4 + fdt_words n + fti_words i;
      codepoint = 0;
    }
fields_are x0 x1 = search rules

-- the extensions of the bytes, and the bodies of each type

fti_bodies : (n : Option ℕ) (i : Option Information) → bodies ext_fti
    (fdt_extensions n ++ fti_extensions i) ≡ option_to_list (option_map fti_body i)
fti_bodies x0 x1 = search rules

fdt_bodies : (n : Option ℕ) (i : Option Information) → bodies ext_fdt
    (fdt_extensions n ++ fti_extensions i) ≡ option_to_list (option_map fdt_body n)
fdt_bodies x0 x1 = search rules

cenc_bodies : (n : Option ℕ) (i : Option Information)
    → bodies ext_cenc (fdt_extensions n ++ fti_extensions i) ≡ []
cenc_bodies x0 x1 = search rules

-- the parts of a datagram that is written
parts : Content → Parts
parts c = record {
  word = word_bytes (4 + fdt_words c.instance + fti_words c.info);
  cci = big_bytes 4 0;
  tsi = big_bytes 4 c.tsi;
  toi = big_bytes 4 c.toi;
  area = fdt_bytes c.instance ++ fti_bytes c.info;
  extensions = fdt_extensions c.instance ++ fti_extensions c.info;
  tail = symbol_bytes c.symbol;
}

has_parts : (c : Content) → HasParts (spelling c) (parts c)
unfolding parts
has_parts c = search rules

-- EXT_FTI contains the information's numbers
information_again : (i : Information) → i.transfer_length < 2 ^ 48 → i.symbol_length < 2 ^ 16
    → i.max_block_length < 2 ^ 32 → fti_information (fti_body i) ≡ i
information_again i l e b = search rules

fti_taken : (i : Option Information) → HasFittingInformation i → IfSome (option_map fti_body i)
    (λ body. (length body ≡ 15) × (info_fault (fti_information body) ≡ None)) ×
    (option_map fti_information (option_map fti_body i) ≡ i)
fti_taken x0 x1 = search (rules, information_again, fault-none)

-- EXT_FDT contains the instance
fdt_number : (n : ℕ) → n < 2 ^ 20 → (fdt_version (fdt_body n) ≡ 2) × (fdt_instance (fdt_body n) ≡ n)
fdt_number n h = search rules

fdt_taken : (tsi toi : ℕ) (n : Option ℕ) → HasKey tsi toi n → toi ≡ 0
    → IsSomeAnd (option_map fdt_body n) (λ body. fdt_version body ≡ 2)
fdt_taken tsi toi None h at = absurd (omega (arith, h.1.0))
fdt_taken tsi toi (Some n) h at = (fdt_number n h.1).0

none_either_way : (b : Bool) → (let o : Option ℕ = cond b None None in o) ≡ None
none_either_way x0 = search rules

instance_again : (tsi toi : ℕ) (n : Option ℕ) → HasKey tsi toi n → (IfSome n (λ _. toi ≡ 0))
    → cond (eqb toi 0) (option_map fdt_instance (option_map fdt_body n)) None ≡ n
instance_again tsi toi None h z = none_either_way (eqb toi 0)
instance_again tsi toi (Some n) h z = rw z (ap (λ (x : ℕ). Some x) (fdt_number n h.1).1)

-- the payload contains the symbol
symbol_again : (s : Option (SymbolId × List ℕ)) → HasFittingId s → has_no_byte s ≡ false →
    (tail_symbol (symbol_bytes s) ≡ s) × ((symbol_bytes s ≡ []) ⊎ (4 ≤ length (symbol_bytes s)))
symbol_again x0 x1 x2 = search rules

-- what a packet without a fault is like
pub record IsSent (c : Content) : Type 0 where
  pub tsi : c.tsi < 2 ^ 32
  pub toi : c.toi < 2 ^ 32
  pub symbol : has_no_byte c.symbol ≡ false
  pub limit : length (spelling c) ≤ 65535

pub no_fault : (c : Content) → write_fault c ≡ None → IsSent c
no_fault c h = search rules

-- only an FDT Instance has an instance, and its TOI is 0
pub instance_has_toi : (o : ObjectName) → IfSome (instance_of o) (λ _. toi_of o ≡ 0)
instance_has_toi x0 = search rules

-- a packet without a fault is spelled by its bytes
spelled : (c : Content) → IsEncodable c → IfSome c.instance (λ _. c.toi ≡ 0)
    → write_fault c ≡ None → Spells (spelling c) c
unfolding parts
spelled c e z none =
    let p = no_fault c none in
    let tsi : big_endian (big_bytes 4 c.tsi) ≡ c.tsi = search rules in
    let toi : big_endian (big_bytes 4 c.toi) ≡ c.toi = search rules in
    let n = c.instance in
    let i = c.info in
    let f = fields_are n i in
    let es = fdt_extensions n ++ fti_extensions i in
    let fti_is : first (bodies ext_fti es) ≡ option_map fti_body i = search rules in
    let fdt_is : first (bodies ext_fdt es) ≡ option_map fdt_body n = search rules in
    let info = fti_taken i e.info in
    let symbol = symbol_again c.symbol e.symbol p.symbol in (
      parts c,
      has_parts c,
      record {
        limit = p.limit;
        version = ap (λ (w : FirstWord). w.version) f;
        codepoint = ap (λ (w : FirstWord). w.codepoint) f;
        tsi = omega arith;
        toi = omega arith;
        one_fti = search rules;
        one_fdt = search rules;
        one_cenc = omega (arith, ap length (cenc_bodies n i));
        information = search rules;
        instance = search rules;
        plain = search rules;
        payload = symbol.1;
      },
      same_content c (content_of (parts c)) (sym tsi) (sym toi) (sym (ap
          (λ (k : ℕ). cond (eqb k 0) (option_map fdt_instance (first (bodies ext_fdt es))) None) toi ∙ ap
          (λ (x : Option (List ℕ)). cond (eqb c.toi 0) (option_map fdt_instance x) None) fdt_is ∙
          instance_again c.tsi c.toi n e.key z)) (sym (ap (option_map fti_information) fti_is ∙ info.1))
          (sym symbol.0),
    )

pub written : (d : List ℕ) (c : Content) → d ≡ spelling c → IsEncodable c
    → IfSome c.instance (λ _. c.toi ≡ 0) → write_fault c ≡ None → IsWritten d c
written d c is e z none = record {
  spelled = subst (λ (x : List ℕ). Spells x c) (sym is) (spelled c e z none);
  form = is;
}

-- the key is the packet's, with its own sender
same_object : (o : ObjectName) → object_named (toi_of o) (instance_of o) ≡ o
same_object x0 = search rules

pub same_key : (key : Key) (i : Option Information) (s : Option (SymbolId × List ℕ))
    → key_of key.session.sender (packet_at key i s) ≡ key
same_key key i s =
    ap (λ (o : ObjectName). let k : Key = record { session = key.session; object = o } in k)
    (same_object key.object)

pub facts_told : (d : List ℕ) (key : Key) (i : Option Information) (s : Option (SymbolId × List ℕ))
    → IsWritten d (packet_at key i s) → facts key.session.sender d ≡ outgoing_facts key i s
facts_told d key i s h = facts-Spells key.session.sender d (packet_at key i s) h.spelled ∙ ap
    (λ (k : Key). outgoing_facts k i s) (same_key key i s)

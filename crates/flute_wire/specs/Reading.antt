-- The packet of a datagram, and its facts from a sender, computed.
use Rattle.std.specs.Prelude.{ℕ, zero, suc, ◌-◌, ◌*◌, nat_le, nat_lt, ◌==◌, Bool}
use Rattle.std.specs.Prelude.{true, false, ◌&&◌, ◌||◌, is_none, List, [], ◌∷◌, length}
use Rattle.std.specs.Prelude.{take, drop, slice_index, Option, Some, None, if◌then◌else◌}
use Rattle.std.specs.Option.{option_map, option_and_then}
use Rattle.flute_parts.specs.Information.{info_fault}
use Rattle.flute_parts.specs.declared.fact.Fact.{Fact}
use Rattle.flute_wire.specs.Header.{first_word, fixed_words, header_len, tsi_len, toi_len, tsi_in}
use Rattle.flute_wire.specs.Header.{toi_in, extension_area, after_header}
use Rattle.flute_wire.specs.Extensions.{HeaderExtension, bodies, ext_fti, ext_fdt, ext_cenc}
use Rattle.flute_wire.specs.Extensions.{fti_information, fdt_version, fdt_instance}
use Rattle.flute_wire.specs.Extensions.{content_encoding, first}
use Rattle.flute_wire.specs.Content.{Content}
use Rattle.flute_wire.specs.Datagram.{tail_symbol}
use Rattle.flute_wire.specs.Facts.{facts_of}

-- how many 32-bit words the extension has that begins with these bytes (RFC 5651, 5.2)
abbrev pub words_at : ℕ → List ℕ → ℕ
words_at het bytes = if nat_lt het 128 then slice_index bytes 0 else 1

-- the extensions that bytes are, if they are some: n is no less than their number
unfoldable pub extensions_in : ℕ → List ℕ → Option (List HeaderExtension)
extensions_in n [] = Some []
extensions_in zero (het ∷ bytes) = None
extensions_in (suc n) (het ∷ bytes) =
    let body = 4 * words_at het bytes - 1 in
    if nat_lt 0 (words_at het bytes) && nat_le body (length bytes) then
    option_map (λ es. record { het = het; body = take body bytes } ∷ es)
    (extensions_in n (drop body bytes))
    else None

-- this profile reads the header, and all of it is there
abbrev pub has_header : List ℕ → Bool
has_header d = let w = first_word d in
    nat_le (length d) 65535
    && (nat_le 4 (length d)
    && ((w.version == 1)
    && (nat_le (fixed_words w) w.header_words
    && (nat_le (header_len w) (length d)
    && (nat_lt 0 (tsi_len w)
    && (nat_lt 0 (toi_len w)
    && (w.codepoint == 0)))))))

-- an extension that need not be there, or one that must be, has the property
abbrev pub passes : (List ℕ → Bool) → Option (List ℕ) → Bool
passes p None = true
passes p (Some body) = p body

-- whether there is an extension, and the test accepts what it contains
abbrev pub has : (List ℕ → Bool) → Option (List ℕ) → Bool
has p None = false
has p (Some body) = p body

-- this profile accepts what the extensions contain, and what follows the header
abbrev pub is_accepted : List ℕ → List HeaderExtension → Bool
is_accepted d es =
    nat_le (length (bodies ext_fti es)) 1
    && (nat_le (length (bodies ext_fdt es)) 1
    && (nat_le (length (bodies ext_cenc es)) 1
    && (passes (λ body. (length body == 15) && is_none (info_fault (fti_information body)))
    (first (bodies ext_fti es))
    && (((if toi_in d == 0 then has (λ body. fdt_version body == 2) (first (bodies ext_fdt es))
    else true))
    && (passes (λ body. content_encoding body == 0) (first (bodies ext_cenc es))
    && ((length (after_header d) == 0) || nat_le 4 (length (after_header d))))))))

-- what the datagram contains, by place
abbrev pub content_by : List ℕ → List HeaderExtension → Content
content_by d es = record {
  tsi = tsi_in d;
  toi = toi_in d;
  instance = if toi_in d == 0 then option_map fdt_instance (first (bodies ext_fdt es)) else None;
  info = option_map fti_information (first (bodies ext_fti es));
  symbol = tail_symbol (after_header d);
}

-- what a datagram with these extensions contains, if it is not refused
abbrev pub accepted : List ℕ → List HeaderExtension → Option Content
accepted d es = if is_accepted d es then Some (content_by d es) else None

-- the packet that the datagram spells, if it spells one
unfoldable pub packet : List ℕ → Option Content
packet d =
    if has_header d
    then option_and_then (accepted d) (extensions_in (length (extension_area d)) (extension_area d))
    else None

-- the facts of a packet of this sender; none of a datagram that is refused
abbrev pub packet_facts : ℕ → Option Content → List Fact
packet_facts sender None = []
packet_facts sender (Some c) = facts_of sender c

-- the facts of a datagram from a sender: none, if it spells no packet
unfoldable pub facts : ℕ → List ℕ → List Fact
facts sender d = packet_facts sender (packet d)

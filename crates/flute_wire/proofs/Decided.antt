-- Whether a datagram spells a packet is decided: it does, or a refusal applies (specs/Refusals).
use Rattle.std.proofs.Common.{rules}
use Rattle.std.proofs.Common.{◌≡◌, ℕ, ◌<◌, ◌⊎◌, List, [], ◌∷◌, length}
use Rattle.std.proofs.Common.{Option, Some, None, inl, inr, refl, arith}
use Rattle.std.specs.Prelude.{IsSomeAnd}
use Rattle.std.proofs.lemmas.Bool.{cases_eq}
use Rattle.flute_parts.specs.Information.{info_fault}
use Rattle.flute_parts.specs.declared.info.InfoFault.{InfoFault}
use Rattle.flute_wire.specs.declared.refusal.Refusal.{Refusal}
use Rattle.flute_wire.specs.declared.refusal.Refusal.TheVariants.{TooLong, TooShort, LctVersion}
use Rattle.flute_wire.specs.declared.refusal.Refusal.TheVariants.{HeaderLength, HeaderCut, NoTsi}
use Rattle.flute_wire.specs.declared.refusal.Refusal.TheVariants.{NoToi, Codepoint, ExtensionLength}
use Rattle.flute_wire.specs.declared.refusal.Refusal.TheVariants.{Repeated, FtiLength, Information}
use Rattle.flute_wire.specs.declared.refusal.Refusal.TheVariants.{NoInstance, FluteVersion}
use Rattle.flute_wire.specs.declared.refusal.Refusal.TheVariants.{ContentEncoded, PayloadIdCut}
use Rattle.flute_wire.specs.Header.{first_word, fixed_words, header_len, tsi_len, toi_len, toi_in}
use Rattle.flute_wire.specs.Header.{extension_area, after_header}
use Rattle.flute_wire.specs.Extensions.{HeaderExtension, HasExtensions, bodies, ext_fti, ext_fdt}
use Rattle.flute_wire.specs.Extensions.{ext_cenc, fti_information, fdt_version, content_encoding}
use Rattle.flute_wire.specs.Extensions.{first}
use Rattle.flute_wire.specs.Content.{Content}
use Rattle.flute_wire.specs.Datagram.{Spells}
use Rattle.flute_wire.specs.Refusals.{Applies, Carries}
use Rattle.flute_wire.proofs.Decision.{decide_extensions}
use Rattle.flute_wire.proofs.FirstRefusal.{carried}
use Rattle.flute_wire.proofs.Existence.{some_packet}

-- a statement, or its opposite
abbrev Either : Type 0 → Type 0
Either P = P ⊎ (P → ⊥)

below : (m n : ℕ) → Either (m < n)
below m n = search rules

other : (m n : ℕ) → Either (m ≡ n → ⊥)
other m n = elim (cases_eq m n) [ inl e ↦ inr (λ h. h e) | inr h ↦ inl h ]

both : (P Q : Type 0) → Either P → Either Q → Either (P × Q)
both x0 x1 x2 x3 = search rules

either : (P Q : Type 0) → Either P → Either Q → Either (P ⊎ Q)
either x0 x1 x2 x3 = search rules

some_such : (o : Option (List ℕ)) (P : List ℕ → Type 0)
    → ((body : List ℕ) → Either (P body)) → Either (IsSomeAnd o P)
some_such x0 x1 x2 = search rules

is_empty : (bs : List (List ℕ)) → Either (bs ≡ [])
is_empty [] = inl refl
is_empty (b ∷ bs) = inr (λ e. cc)

fault_in : (o : Option InfoFault) → ((f : InfoFault) × (o ≡ Some f))
    ⊎ ((f : InfoFault) → o ≡ Some f → ⊥)
fault_in None = inr (λ f e. cc)
fault_in (Some f) = inl (f, refl)

fault_at : (o : Option (List ℕ)) →
    ((f : InfoFault) × IsSomeAnd o (λ body. info_fault (fti_information body) ≡ Some f)) ⊎
    ((f : InfoFault) → IsSomeAnd o (λ body. info_fault (fti_information body) ≡ Some f) → ⊥)
fault_at None = inr (λ f h. h)
fault_at (Some body) = fault_in (info_fault (fti_information body))

-- what the extensions of a datagram have is decided for the datagram
carries : (d : List ℕ) (es : List HeaderExtension) → HasExtensions (extension_area d) es
    → (P : List HeaderExtension → Type 0) → Either (P es) → Either (Carries d P)
carries d es x P (inl p) = inl (es, x, p)
carries d es x P (inr h) = inr (λ c. h (carried d es x P c))

abbrev Outcome : List ℕ → Type 0
Outcome d = ((r : Refusal) → Applies r d → ⊥) ⊎ ((r : Refusal) × Applies r d)

-- one refusal after another: the first that applies, else a packet
ask : (d : List ℕ) (r : Refusal) → Either (Applies r d)
    → ((Applies r d → ⊥) → Outcome d) → Outcome d
ask x0 x1 x2 x3 = search rules

-- no refusal applies that is known before the extensions are
record PassesHeader (d : List ℕ) : Type 0 where
  too_long : Applies TooLong d → ⊥
  too_short : Applies TooShort d → ⊥
  lct_version : Applies LctVersion d → ⊥
  header_length : Applies HeaderLength d → ⊥
  header_cut : Applies HeaderCut d → ⊥
  no_tsi : Applies NoTsi d → ⊥
  no_toi : Applies NoToi d → ⊥
  codepoint : Applies Codepoint d → ⊥

-- nor one that the extensions tell, or what follows them
record PassesExtensions (d : List ℕ) : Type 0 where
  extension_length : Applies ExtensionLength d → ⊥
  repeated : Applies Repeated d → ⊥
  fti_length : Applies FtiLength d → ⊥
  information : (f : InfoFault) → Applies (Information f) d → ⊥
  no_instance : Applies NoInstance d → ⊥
  flute_version : Applies FluteVersion d → ⊥
  content_encoded : Applies ContentEncoded d → ⊥
  payload_id_cut : Applies PayloadIdCut d → ⊥

all_pass : {d : List ℕ} → PassesHeader d → PassesExtensions d → (r : Refusal) → Applies r d → ⊥
all_pass h e TooLong = h.too_long
all_pass h e TooShort = h.too_short
all_pass h e LctVersion = h.lct_version
all_pass h e HeaderLength = h.header_length
all_pass h e HeaderCut = h.header_cut
all_pass h e NoTsi = h.no_tsi
all_pass h e NoToi = h.no_toi
all_pass h e Codepoint = h.codepoint
all_pass h e ExtensionLength = e.extension_length
all_pass h e Repeated = e.repeated
all_pass h e FtiLength = e.fti_length
all_pass h e (Information fault) = e.information fault
all_pass h e NoInstance = e.no_instance
all_pass h e FluteVersion = e.flute_version
all_pass h e ContentEncoded = e.content_encoded
all_pass h e PayloadIdCut = e.payload_id_cut

behind : (d : List ℕ) (es : List HeaderExtension) → HasExtensions (extension_area d) es
    → PassesHeader d → Outcome d
behind d es x header =
    ask d Repeated
    (carries d es x (λ es. (1 < length (bodies ext_fti es))
    ⊎ ((1 < length (bodies ext_fdt es)) ⊎ (1 < length (bodies ext_cenc es))))
    (either _ _ (below 1 (length (bodies ext_fti es)))
    (either _ _ (below 1 (length (bodies ext_fdt es)))
    (below 1 (length (bodies ext_cenc es)))))) (λ k.
    ask d FtiLength
    (carries d es x (λ es. IsSomeAnd (first (bodies ext_fti es))
    (λ body. length body ≡ 15 → ⊥))
    (some_such (first (bodies ext_fti es)) (λ body. length body ≡ 15 → ⊥)
    (λ body. other (length body) 15))) (λ l.
    elim (fault_at (first (bodies ext_fti es))) [
      | inl bad ↦ inr (Information bad.0, (es, x, bad.1))
      | inr m ↦
          ask d NoInstance (both _ _ (cases_eq (toi_in d) 0)
          (carries d es x (λ es. bodies ext_fdt es ≡ []) (is_empty (bodies ext_fdt es))))
          (λ n.
          ask d FluteVersion (both _ _ (cases_eq (toi_in d) 0)
          (carries d es x (λ es. IsSomeAnd (first (bodies ext_fdt es))
          (λ body. fdt_version body ≡ 2 → ⊥))
          (some_such (first (bodies ext_fdt es)) (λ body. fdt_version body ≡ 2 → ⊥)
          (λ body. other (fdt_version body) 2)))) (λ o.
          ask d ContentEncoded (carries d es x
          (λ es. IsSomeAnd (first (bodies ext_cenc es))
          (λ body. content_encoding body ≡ 0 → ⊥))
          (some_such (first (bodies ext_cenc es)) (λ body. content_encoding body ≡ 0 → ⊥)
          (λ body. other (content_encoding body) 0))) (λ p.
          ask d PayloadIdCut (both _ _ (below 0 (length (after_header d)))
          (below (length (after_header d)) 4)) (λ q.
          let extensions : PassesExtensions d =
          record {
            extension_length = λ none. none es x;
            repeated = k;
            fti_length = l;
            information = λ fault z. m fault (carried d es x
                (λ es. IsSomeAnd (first (bodies ext_fti es))
                (λ body. info_fault (fti_information body) ≡ Some fault)) z);
            no_instance = n;
            flute_version = o;
            content_encoded = p;
            payload_id_cut = q;
          } in
          inl (all_pass header extensions)))))
    ]))

-- the decision for any datagram
pub decide_refusal : (d : List ℕ) → Outcome d
decide_refusal d =
    ask d TooLong (below 65535 (length d)) (λ a.
    ask d TooShort (below (length d) 4) (λ b.
    ask d LctVersion (other (first_word d).version 1) (λ c.
    ask d HeaderLength (below (first_word d).header_words (fixed_words (first_word d))) (λ e.
    ask d HeaderCut (below (length d) (header_len (first_word d))) (λ f.
    ask d NoTsi (cases_eq (tsi_len (first_word d)) 0) (λ g.
    ask d NoToi (cases_eq (toi_len (first_word d)) 0) (λ h.
    ask d Codepoint (other (first_word d).codepoint 0) (λ i.
    elim (decide_extensions (length (extension_area d)) (extension_area d) (omega arith)) [
      | inr none ↦ inr (ExtensionLength, none)
      | inl found ↦
          let header : PassesHeader d =
          search rules in
          behind d found.0 found.1 header
    ]))))))))

pub decide_packet : (d : List ℕ) → ((c : Content) × Spells d c) ⊎ ((r : Refusal) × Applies r d)
decide_packet d =
    elim (decide_refusal d) [ inl none ↦ inl (some_packet d none) | inr some ↦ inr some ]

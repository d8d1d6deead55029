-- Why a datagram is refused.
use Rattle.std.specs.Prelude.{◌≡◌, ◌≢◌, ℕ, ◌<◌, ◌⊎◌, List, [], length, Some, IsSomeAnd}
use Rattle.flute_parts.specs.Information.{info_fault}
use Rattle.flute_wire.specs.declared.refusal.Refusal.{Refusal}
use Rattle.flute_wire.specs.declared.refusal.Refusal.TheVariants.{TooLong, TooShort, LctVersion}
use Rattle.flute_wire.specs.declared.refusal.Refusal.TheVariants.{HeaderLength, HeaderCut, NoTsi}
use Rattle.flute_wire.specs.declared.refusal.Refusal.TheVariants.{NoToi, Codepoint, ExtensionLength}
use Rattle.flute_wire.specs.declared.refusal.Refusal.TheVariants.{Repeated, FtiLength, Information}
use Rattle.flute_wire.specs.declared.refusal.Refusal.TheVariants.{NoInstance, FluteVersion}
use Rattle.flute_wire.specs.declared.refusal.Refusal.TheVariants.{ContentEncoded, PayloadIdCut}
use Rattle.flute_wire.specs.Header.{first_word, tsi_len, toi_len, header_len, fixed_words, toi_in}
use Rattle.flute_wire.specs.Header.{extension_area, after_header}
use Rattle.flute_wire.specs.Extensions.{HeaderExtension, HasExtensions, bodies, ext_fti, ext_fdt}
use Rattle.flute_wire.specs.Extensions.{ext_cenc, fti_information, fdt_version, content_encoding}
use Rattle.flute_wire.specs.Extensions.{first}

-- the extensions of the datagram, which are these: they have the property
abbrev pub Carries : List ℕ → (List HeaderExtension → Type 0) → Type 0
Carries d P = (es : List HeaderExtension) × HasExtensions (extension_area d) es × P es

-- the place of a refusal in the order of the checks
abbrev pub rank : Refusal → ℕ
rank TooLong = 1
rank TooShort = 2
rank LctVersion = 3
rank HeaderLength = 4
rank HeaderCut = 5
rank NoTsi = 6
rank NoToi = 7
rank Codepoint = 8
rank ExtensionLength = 9
rank Repeated = 10
rank FtiLength = 11
rank (Information f) = 12
rank NoInstance = 13
rank FluteVersion = 14
rank ContentEncoded = 15
rank PayloadIdCut = 16

-- when each refusal applies to the datagram
abbrev pub Applies : Refusal → List ℕ → Type 0
Applies TooLong d = 65535 < length d
Applies TooShort d = length d < 4
Applies LctVersion d = (first_word d).version ≢ 1
Applies HeaderLength d = (first_word d).header_words < fixed_words (first_word d)
Applies HeaderCut d = length d < header_len (first_word d)
Applies NoTsi d = tsi_len (first_word d) ≡ 0
Applies NoToi d = toi_len (first_word d) ≡ 0
Applies Codepoint d = (first_word d).codepoint ≢ 0
Applies ExtensionLength d = (es : List HeaderExtension) → ¬ HasExtensions (extension_area d) es
Applies Repeated d =
    Carries d (λ es. (1 < length (bodies ext_fti es))
    ⊎ ((1 < length (bodies ext_fdt es)) ⊎ (1 < length (bodies ext_cenc es))))
Applies FtiLength d =
    Carries d (λ es. IsSomeAnd (first (bodies ext_fti es)) (λ body. length body ≢ 15))
Applies (Information f) d =
    Carries d (λ es. IsSomeAnd (first (bodies ext_fti es))
    (λ body. info_fault (fti_information body) ≡ Some f))
Applies NoInstance d = (toi_in d ≡ 0) × Carries d (λ es. bodies ext_fdt es ≡ [])
Applies FluteVersion d =
    (toi_in d ≡ 0)
    × Carries d (λ es. IsSomeAnd (first (bodies ext_fdt es)) (λ body. fdt_version body ≢ 2))
Applies ContentEncoded d =
    Carries d (λ es. IsSomeAnd (first (bodies ext_cenc es)) (λ body. content_encoding body ≢ 0))
Applies PayloadIdCut d = (0 < length (after_header d)) × (length (after_header d) < 4)

-- no refusal before this place applies
abbrev pub PassesUpTo : ℕ → List ℕ → Type 0
PassesUpTo n d = (r : Refusal) → rank r < n → ¬ Applies r d

-- the refusal is the first that applies
pub record Refuses (d : List ℕ) (r : Refusal) : Type 0 where
  pub applies : Applies r d
  pub first : PassesUpTo (rank r) d

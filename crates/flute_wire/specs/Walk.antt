-- What the walk over the extensions has seen.
use Rattle.std.specs.Prelude.{◌≡◌, ◌≢◌, ◌<◌, ◌⊎◌, ℕ, List, [], ◌∷◌}
use Rattle.std.specs.Prelude.{length, Option, Some, None, IfSome, IsSomeAnd}
use Rattle.std.specs.Option.{option_to_list}
use Rattle.flute_parts.specs.Information.{info_fault}
use Rattle.flute_wire.specs.Extensions.{HeaderExtension, HasExtensions, bodies, ext_fti, ext_fdt}
use Rattle.flute_wire.specs.Extensions.{ext_cenc, fti_information, fdt_version}
use Rattle.flute_wire.specs.declared.extensions.Extension.{Extension}
use Rattle.flute_wire.specs.declared.extensions.Occurrence.{Occurrence}
use Rattle.flute_wire.specs.declared.extensions.Occurrence.TheVariants.{Absent, Once, Repeated}
use Rattle.flute_wire.specs.declared.refusal.Refusal.{Refusal}
use Rattle.flute_wire.specs.declared.refusal.Refusal.TheVariants as refusals

-- an extension without where it lies in memory
abbrev pub extension_of : Extension → HeaderExtension
extension_of e = record { het = e.het; body = e.body.now }

-- the bodies of one type are none, this one, or more than one
abbrev pub Occurs : Occurrence → List (List ℕ) → Type 0
Occurs Absent bs = bs ≡ []
Occurs (Once body) bs = bs ≡ body.now ∷ []
Occurs Repeated bs = 1 < length bs

-- some type that FLUTE reads is there twice
abbrev pub IsRepeated : List HeaderExtension → Type 0
IsRepeated es =
    (1 < length (bodies ext_fti es))
    ⊎ ((1 < length (bodies ext_fdt es)) ⊎ (1 < length (bodies ext_cenc es)))

-- the bytes of the extensions are refused: they are no extensions, or some type is there twice
pub record RefusesArea (area : List ℕ) (r : Refusal) : Type 0 where
  pub cases :
      ((r ≡ refusals.ExtensionLength) × ((es : List HeaderExtension) → HasExtensions area es → ⊥))
      ⊎ ((r ≡ refusals.Repeated)
      × ((es : List HeaderExtension) × HasExtensions area es × IsRepeated es))

-- the bytes are extensions, and these are the bodies of the types that FLUTE reads
pub record Finds (area : List ℕ) (fti fdt cenc : Option (List ℕ)) : Type 0 where
  pub extensions : List HeaderExtension
  pub spelled : HasExtensions area extensions
  pub fti_is : bodies ext_fti extensions ≡ option_to_list fti
  pub fdt_is : bodies ext_fdt extensions ≡ option_to_list fdt
  pub cenc_is : bodies ext_cenc extensions ≡ option_to_list cenc
  pub fdt_len : IfSome fdt (λ body. length body ≡ 3)
  pub cenc_len : IfSome cenc (λ body. length body ≡ 3)

-- EXT_FTI is refused
abbrev pub RefusesFti : Option (List ℕ) → Refusal → Type 0
RefusesFti fti refusals.FtiLength = IsSomeAnd fti (λ body. length body ≢ 15)
RefusesFti fti (refusals.Information f) =
    IsSomeAnd fti (λ body. (length body ≡ 15) × (info_fault (fti_information body) ≡ Some f))
RefusesFti fti _ = ⊥

-- EXT_FDT is refused
abbrev pub RefusesFdt : ℕ → Option (List ℕ) → Refusal → Type 0
RefusesFdt toi fdt refusals.NoInstance = (toi ≡ 0) × (fdt ≡ None)
RefusesFdt toi fdt refusals.FluteVersion = (toi ≡ 0) × IsSomeAnd fdt (λ body. fdt_version body ≢ 2)
RefusesFdt toi fdt _ = ⊥

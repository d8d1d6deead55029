-- Texts that are a size, computed from the definitions.
use Rattle.std.specs.Prelude.{◌≡◌, ◌^◌, refl, codes, [], Some, None}
use Rattle.flutejoin_line.specs.Options.{number_in}
use Rattle.flutejoin_line.specs.Sizes.{size_of}

-- how many bytes a size is; other texts are none
pub sizes : (size_of (codes "1000") ≡ Some 1000) × (size_of (codes "1K") ≡ Some 1024)
    × (size_of (codes "256M") ≡ Some 268435456) × (size_of (codes "02G") ≡ Some 2147483648)
    × (size_of (codes "4294967296G") ≡ Some (2 ^ 62)) × (size_of (codes "4294967297G") ≡ None)
    × (size_of (codes "0K") ≡ None) × (size_of (codes "1k") ≡ None)
    × (size_of (codes "1MB") ≡ None) × (size_of (codes "K") ≡ None) × (size_of [] ≡ None)
unfolding size_of number_in
sizes = (refl, refl, refl, refl, refl, refl, refl, refl, refl, refl, refl)

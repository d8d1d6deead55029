-- Datagram files and their faults, computed.
use Rattle.std.specs.Prelude.{◌≡◌, [], ◌∷◌, ◌++◌, flat_map, Some, None, refl}
use Rattle.flute_journal.specs.declared.fault.ReadFault.TheVariants.{Magic, Version, Cut, TooMany}
use Rattle.flute_journal.specs.Faults.{opening_fault}
use Rattle.flute_journal.specs.Records.{file_header, record_of}
use Rattle.flute_journal.specs.FileFraming.{record_fault}

-- no datagram, and one of one byte before one of none
pub no_datagram :
    file_header ++ flat_map record_of [] ≡ 0x46 ∷ 0x4C ∷ 0x44 ∷ 0x47 ∷ 0x00 ∷ 0x01 ∷ []
no_datagram = refl

pub two_datagrams : file_header ++ flat_map record_of ((7 ∷ []) ∷ [] ∷ [])
    ≡ 0x46 ∷ 0x4C ∷ 0x44 ∷ 0x47 ∷ 0x00 ∷ 0x01 ∷ 0x00 ∷ 0x01 ∷ 0x07 ∷ 0x00 ∷ 0x00 ∷ []
two_datagrams = refl

-- headers: a whole one, a short one, a journal's, and another version
pub whole_header : opening_fault file_header (0x46 ∷ 0x4C ∷ 0x44 ∷ 0x47 ∷ 0x00 ∷ 0x01 ∷ []) ≡ None
whole_header = refl

pub short_header : opening_fault file_header (0x46 ∷ 0x4C ∷ 0x44 ∷ 0x47 ∷ 0x00 ∷ []) ≡ Some Cut
short_header = refl

pub other_magic : opening_fault file_header (0x46 ∷ 0x4C ∷ 0x4A ∷ 0x4E ∷ 0x00 ∷ []) ≡ Some Magic
other_magic = refl

pub other_file_version : opening_fault file_header (0x46 ∷ 0x4C ∷ 0x44 ∷ 0x47 ∷ 0x00 ∷ 0x02 ∷ [])
    ≡ Some Version
other_file_version = refl

-- after two records: nothing, a record, one that is cut in its length or in its bytes,
-- and one beyond the bound
pub the_end : record_fault 2 2 [] ≡ None
the_end = refl

pub whole_record : record_fault 3 2 (0x00 ∷ 0x01 ∷ 0x07 ∷ []) ≡ None
whole_record = refl

pub cut_length : record_fault 3 2 (0x00 ∷ []) ≡ Some Cut
cut_length = refl

pub cut_bytes : record_fault 3 2 (0x00 ∷ 0x02 ∷ 0x07 ∷ []) ≡ Some Cut
cut_bytes = refl

pub too_many : record_fault 2 2 (0x00 ∷ []) ≡ Some TooMany
too_many = refl

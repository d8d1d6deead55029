-- Journals and datagram files are framed files: IsSound of both framings (framing_lemmas/Framed).
use Rattle.std.proofs.Common.{rules}
use Rattle.flute_journal.proofs.Common.{◌≡◌, List, [], ◌∷◌, ◌++◌, Option, Some, None, refl, sym}
use Rattle.flute_journal.proofs.Common.{length-append, Address, address, Fact, Version, at_place}
use Rattle.flute_journal.proofs.Common.{before, last_of, journal_framing, file_framing, file_header}
use Rattle.flute_journal.proofs.framing_lemmas.Framed.{IsSound}
use Rattle.flute_journal.proofs.format_lemmas.Parts.{header_passes, version-told}
use Rattle.flute_journal.proofs.framing_lemmas.Existence.{header_is, opening_is, rising_more}
use Rattle.flute_journal.proofs.framing_lemmas.Files.{file_header_passes}
use Rattle.flute_journal.specs.JournalFraming.{after}

last_more : (b : Option Address) (es : List Fact) (f : Fact)
    → last_of b (es ++ f ∷ []) ≡ Some (address f)
last_more b [] f = refl
last_more b (e ∷ es) f = last_more (Some (address e)) es f

after_is : (v : Version) (es : List Fact) (f : Fact)
    → after (before v es) f ≡ before v (es ++ f ∷ [])
after_is v es f = λ i. at_place v (sym (length-append es (f ∷ [])) i) (sym (last_more None es f) i)

pub journal_sound : IsSound journal_framing
journal_sound = search (rules, header_passes, version-told, header_is, after_is, rising_more) steps
    400000

pub file_sound : IsSound file_framing
file_sound = record {
  header_size = λ told. refl;
  header_passes = λ told r. file_header_passes r;
  header_told = λ told r. refl;
  header_is = λ y e. opening_is file_header y refl e;
  told_is = λ told ds. refl;
  counted = λ told ds. refl;
  next_is = λ told ds d. sym (length-append ds (d ∷ []));
  next_counted = λ count d. refl;
  none_in_order = tt;
  more_in_order = λ told ds d h k. tt;
}

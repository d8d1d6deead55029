-- What is left to read of bytes that were put aside.
use Rattle.std.specs.Prelude.{ℕ, List, Option}
use Rattle.flute_asides.specs.declared.aside_reader.AsideReader.{AsideReader}
use Rattle.flute_asides.specs.declared.aside_reader.AsideReader.TheVariants.{File, Held}

-- of the file, or of what is in memory
abbrev pub left_to_read : {F H : Type 0} → (F → Option (List ℕ)) → (H → Option (List ℕ))
    → AsideReader F H → Option (List ℕ)
left_to_read of_file of_held (File f) = of_file f
left_to_read of_file of_held (Held h) = of_held h

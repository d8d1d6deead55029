-- All refusals, and how they are shown.
use Rattle.std.specs.Prelude.{ℕ, List, [], ◌∷◌, codes}
use Rattle.flute_parts.specs.declared.info.InfoFault.TheVariants.{Length, SymbolLength, BlockLength}
use Rattle.flute_parts.specs.declared.info.InfoFault.TheVariants.{TooManyBlocks, BlockTooLong}
use Rattle.flute_wire.specs.declared.refusal.Refusal.{Refusal}
use Rattle.flute_wire.specs.declared.refusal.Refusal.TheVariants.{TooLong, TooShort, LctVersion}
use Rattle.flute_wire.specs.declared.refusal.Refusal.TheVariants.{HeaderLength, HeaderCut, NoTsi}
use Rattle.flute_wire.specs.declared.refusal.Refusal.TheVariants.{NoToi, Codepoint, ExtensionLength}
use Rattle.flute_wire.specs.declared.refusal.Refusal.TheVariants.{Repeated, FtiLength, Information}
use Rattle.flute_wire.specs.declared.refusal.Refusal.TheVariants.{NoInstance, FluteVersion}
use Rattle.flute_wire.specs.declared.refusal.Refusal.TheVariants.{ContentEncoded, PayloadIdCut}

-- all refusals, in the order of the checks
abbrev pub refusals : List Refusal
refusals =
    TooLong ∷ TooShort ∷ LctVersion ∷ HeaderLength ∷ HeaderCut ∷ NoTsi ∷ NoToi ∷ Codepoint ∷
    ExtensionLength ∷ Repeated ∷ FtiLength ∷ Information Length ∷ Information SymbolLength ∷
    Information BlockLength ∷ Information TooManyBlocks ∷ Information BlockTooLong ∷
    NoInstance ∷ FluteVersion ∷ ContentEncoded ∷ PayloadIdCut ∷ []

-- the place of a refusal among them, from 0
abbrev pub place : Refusal → ℕ
place TooLong = 0
place TooShort = 1
place LctVersion = 2
place HeaderLength = 3
place HeaderCut = 4
place NoTsi = 5
place NoToi = 6
place Codepoint = 7
place ExtensionLength = 8
place Repeated = 9
place FtiLength = 10
place (Information Length) = 11
place (Information SymbolLength) = 12
place (Information BlockLength) = 13
place (Information TooManyBlocks) = 14
place (Information BlockTooLong) = 15
place NoInstance = 16
place FluteVersion = 17
place ContentEncoded = 18
place PayloadIdCut = 19

-- its number and its name, as it is shown
abbrev pub refusal_words : Refusal → List ℕ
refusal_words TooLong = codes "1 TooLong"
refusal_words TooShort = codes "2 TooShort"
refusal_words LctVersion = codes "3 LctVersion"
refusal_words HeaderLength = codes "4 HeaderLength"
refusal_words HeaderCut = codes "5 HeaderCut"
refusal_words NoTsi = codes "6 NoTsi"
refusal_words NoToi = codes "7 NoToi"
refusal_words Codepoint = codes "8 Codepoint"
refusal_words ExtensionLength = codes "9 ExtensionLength"
refusal_words Repeated = codes "10 Repeated"
refusal_words FtiLength = codes "11 FtiLength"
refusal_words (Information Length) = codes "12 Information Length"
refusal_words (Information SymbolLength) = codes "12 Information SymbolLength"
refusal_words (Information BlockLength) = codes "12 Information BlockLength"
refusal_words (Information TooManyBlocks) = codes "12 Information TooManyBlocks"
refusal_words (Information BlockTooLong) = codes "12 Information BlockTooLong"
refusal_words NoInstance = codes "13 NoInstance"
refusal_words FluteVersion = codes "14 FluteVersion"
refusal_words ContentEncoded = codes "15 ContentEncoded"
refusal_words PayloadIdCut = codes "16 PayloadIdCut"

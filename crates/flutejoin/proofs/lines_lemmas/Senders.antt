-- Senders in texts (specs/Sender).
use Rattle.std.proofs.lemmas.Grind.{common_steps}
use Rattle.std.proofs.Common.{rules}
use Rattle.std.proofs.Common.{◌≡◌, ℕ, ◌==◌, false, List}
use Rattle.std.proofs.Common.{[], ◌++◌, length, codes, None, Ok, Err}
use Rattle.std.proofs.Common.{◌∙◌, arith}
use Rattle.std.specs.Int.{bytes_high_first}
use Rattle.hex.specs.Hex.{decode_of, decode_sized, encode_lower}
use Rattle.hex.specs.declared.error.FromHexError.{FromHexError}
use Rattle.hex.proofs.HexLemmas.{decode_of-ok, decode_sized-twice}
use Rattle.flutejoin.specs.Lines.{source_words}
use Rattle.flutejoin.specs.Sender.{sender_named}

-- bytes that a text has in hexadecimal are decoded into room for them
fits_room : (text bytes : List ℕ) (n : ℕ) → decode_of text ≡ Ok bytes → length bytes ≡ n
    → decode_sized text n ≡ Ok bytes
fits_room text bytes n is len = decode_sized-twice text n (cc ((decode_of-ok text bytes is).2)) ∙ is

pub no_sender : (text : List ℕ) (long short : FromHexError) → decode_sized text 16 ≡ Err long
    → decode_sized text 4 ≡ Err short → None ≡ sender_named text
no_sender text e f long short = search (rules, fits_room)

-- what is put of a sender that is not 0
pub source_pieces : (text digits : List ℕ) (sender : ℕ) → (sender == 0) ≡ false
    → digits ≡ encode_lower (bytes_high_first 16 sender)
    → ((text ++ codes "source ") ++ digits) ++ codes " " ≡ text ++ source_words sender
source_pieces text digits sender some are = grind (arith, common_steps)

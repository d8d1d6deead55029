-- Texts that name a sender, and how it is named, computed from the definitions.
use Rattle.std.specs.Prelude.{◌≡◌, ◌+◌, ◌*◌, ◌^◌, ℕ, refl, codes, [], Some, None}
use Rattle.hex.specs.Hex.{decode_pairs, encode_with}
use Rattle.flutejoin.specs.Sender.{sender_named}
use Rattle.flutejoin.specs.Lines.{source_words}

-- the sender with the IPv4 address 10.0.0.1, by 8 digits or by 32, in upper or lower case;
-- other texts name none
abbrev sender : ℕ
sender = 65535 * 2 ^ 32 + 0x0A000001

pub named : (sender_named (codes "0A000001") ≡ Some sender)
    × (sender_named (codes "00000000000000000000ffff0a000001") ≡ Some sender)
    × (sender_named [] ≡ None) × (sender_named (codes "0A0000") ≡ None)
    × (sender_named (codes "0G000001") ≡ None)
unfolding decode_pairs
named = (refl, refl, refl, refl, refl)

-- how it is named in a line, and that the sender 0 is not
pub told_of_sender : (source_words sender ≡ codes "source 00000000000000000000ffff0a000001 ")
    × (source_words 0 ≡ [])
unfolding encode_with
told_of_sender = (refl, refl)

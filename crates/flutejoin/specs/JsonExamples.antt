-- What lines of JSON name an object by, and say of it, computed from the definitions.
use Rattle.std.specs.Prelude.{◌≡◌, ◌+◌, ◌*◌, ◌^◌, refl, codes}
use Rattle.hex.specs.Hex.{encode_with}
use Rattle.std.specs.Fmt.{digits}
use Rattle.flute_parts.specs.Information.{Information}
use Rattle.flute_parts.specs.Session.{session}
use Rattle.flute_parts.specs.declared.key.Key.{Key}
use Rattle.flute_parts.specs.declared.object_key.ObjectName.TheVariants.{Instance, File}
use Rattle.flutejoin.specs.Json.{json_id, json_information, json_line, json_name, json_symbol}

-- file 1 of the sender with the IPv4 address 10.0.0.1, and an FDT Instance of the sender 0
abbrev file : Key
file = record { session = session (65535 * 2 ^ 32 + 0x0A000001) 7; object = File 1 }

abbrev instance : Key
instance = record { session = session 0 7; object = Instance 2 }

pub named : (json_line (json_name file) ≡
    codes "{\"source\":\"00000000000000000000ffff0a000001\",\"tsi\":7,\"toi\":\"1\"}\n")
    × (json_line (json_name instance) ≡ codes "{\"tsi\":7,\"fdt\":2}\n")
unfolding encode_with digits
named = (refl, refl)

abbrev info : Information
info = record { transfer_length = 40000; symbol_length = 1000; max_block_length = 16 }

pub told : (json_information info
    ≡ codes "\"info\":{\"length\":40000,\"symbol\":1000,\"block\":16}")
    × (json_id (record { sbn = 0; esi = 17 }) ≡ codes "\"symbol\":{\"sbn\":0,\"esi\":17")
    × (json_symbol (record { sbn = 0; esi = 17 }) 1400
    ≡ codes "\"symbol\":{\"sbn\":0,\"esi\":17,\"length\":1400")
unfolding digits
told = (refl, refl, refl)

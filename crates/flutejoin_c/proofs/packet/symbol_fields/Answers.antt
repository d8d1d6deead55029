-- symbol_fields: where the symbol's bytes are.
use Rattle.std.proofs.Common.{◌≡◌, ℕ, Some, length, sym, subst}
use Rattle.std.specs.Prelude.{take, drop}
use Rattle.flutejoin_c.proofs.Symbols.{symbol_is_last}
use Rattle.flutejoin_c.proofs.packet.symbol_fields.Goals as goal

pub returns-in-Some : goal.returns-in-Some
returns-in-Some c =
    let d = c.args.datagram.now in let bytes = c.in-Some.bytes.now in
    subst
    (λ (n : ℕ). Some (c.in-Some.id, take (length bytes) (drop n d)) ≡ c.args.packet.now.symbol)
    (sym c.saturating_sub.ensures)
    (symbol_is_last d c.args.packet.now c.in-Some.id bytes c.requires (sym c.in-Some.ensures))

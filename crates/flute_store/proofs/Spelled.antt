-- Datagrams that a store takes are packets: what follows for their facts.
use Rattle.std.proofs.Common.{rules}
use Rattle.std.proofs.Common.{ℕ, ◌≤◌, List, length, ap, arith}
use Rattle.std.proofs.Common.{length-append}
use Rattle.flute_parts.specs.SymbolBytes.{HasSymbolSize}
use Rattle.flute_wire.specs.{Content.{Content}, Datagram.{Spells, tail_symbol}}
use Rattle.flute_store.proofs.Common.{IfSome}

tail_size : (tail : List ℕ) → length tail ≤ 65535
    → IfSome (tail_symbol tail) (λ symbol. HasSymbolSize symbol.1)
tail_size = search rules

-- the bytes that a packet has for its symbol are a symbol's
pub spelled-size : (d : List ℕ) (c : Content) → Spells d c
    → IfSome c.symbol (λ symbol. HasSymbolSize symbol.1)
spelled-size d c (p, parts, accepted, is) =
    let whole = ap length parts.joined in
    let l : length p.tail ≤ 65535 = omega (arith, length-append {A = ℕ}, accepted.limit) in
    rw (ap (λ k. k.symbol) is) (tail_size _ l)

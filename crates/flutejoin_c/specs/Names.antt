-- Numbers of 128 bits.
use Rattle.std.specs.Prelude.{ℕ, ◌+◌, ◌*◌, ◌^◌}
use Rattle.flutejoin_c.specs.declared.wide.Wide.{Wide}

-- the number of two halves of 64 bits
abbrev pub wide : Wide → ℕ
wide w = w.high * 2 ^ 64 + w.low

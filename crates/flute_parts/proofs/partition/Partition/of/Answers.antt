use Rattle.std.proofs.Common.{rules}
use Rattle.std.proofs.Common.{◌≡◌, ◌-◌, ◌/◌, ◌%◌, ◌<◌, sym, subst, arith}
use Rattle.flute_parts.specs.Information.{symbol_count, block_count}
use Rattle.flute_parts.specs.Split.{IsSplit}
use Rattle.flute_parts.proofs.Split.{IsSplit-none, IsSplit-of}
use Rattle.flute_parts.proofs.partition.Partition.of.Goals as goal

pub invariant_of-result : goal.invariant_of-result
invariant_of-result c = search (rules, IsSplit-none)

pub invariant_of-result-2 : goal.invariant_of-result-2
invariant_of-result-2 c =
    let i = c.args.info.now in
    let n = c.div_ceil-blocks.result in
    let t : c.div_ceil-symbols.result ≡ symbol_count i = cc in
    let b : n ≡ block_count i = cc in
    let l : 0 < i.transfer_length = omega arith in
    rw t (IsSplit-of i n b l (c.length.ensures.valid.parts l))

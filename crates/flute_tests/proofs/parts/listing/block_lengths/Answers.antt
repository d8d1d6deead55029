use Rattle.std.proofs.Common.{◌≡◌, ◌-◌, ◌*◌, ◌/◌, ◌++◌, sym, ◌∙◌, replicate, Result, Ok, Err, arith}
use Rattle.std.specs.Int.{div_ceil}
use Rattle.std.specs.Result.{IfOk}
use Rattle.flute_parts.specs.Information.{symbol_count, block_count, large_length}
use Rattle.flute_parts.proofs.Public.{sizes-none, sizes-some}
use Rattle.flute_tests.proofs.parts.listing.block_lengths.Goals as goal

with_more : {X E : Type 0} (P Q : X → Type 0) (r : Result X E) → ((x : X) → P x → Q x)
    → IfOk r P → IfOk r Q
with_more P Q (Ok x) f h = f x h
with_more P Q (Err e) f h = h

pub returns-then-length-eq0 : goal.returns-then-length-eq0
returns-then-length-eq0 c =
    (c.new.ensures.items ∙ sym (sizes-none c.args.info.now (omega arith)), c.length.ensures.valid)

pub returns : goal.returns
returns c =
    let i = c.args.info.now in
    let t : c.div_ceil-symbols.result ≡ symbol_count i = cc in
    let n : c.div_ceil-blocks.result ≡ block_count i = cc in
    let d : c.div_ceil.result ≡ large_length i = c.div_ceil.ensures ∙ (λ k. div_ceil (t k) (n k)) in
    with_more _ _ c.two_lengths.result
    (λ lengths e. (
      e ∙ (λ k. replicate (t k - t k / n k * n k) (d k)
          ++ replicate (n k - (t k - t k / n k * n k)) (t k / n k))
          ∙ sym (sizes-some i (λ z. omega arith)),
      c.length.ensures.valid,
    ))
    c.two_lengths.ensures

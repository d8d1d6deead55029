-- listed, a test's helper: it lists all ids of a partition.
use Rattle.std.proofs.Common.{◌≡◌, ℕ, ◌<◌, ◌≤◌, List, [], ◌++◌, length}
use Rattle.std.proofs.Common.{get_or, drop, flat_map, sym, ap, ◌∙◌, subst, append-nil, arith}
use Rattle.std.specs.List.{enumerate_from}
use Rattle.std.proofs.Math.Facts.{Fits-of_lt}
use Rattle.std.proofs.lemmas.List.{drop_all}
use Rattle.flute_parts.specs.Information.{sizes}
use Rattle.flute_parts.specs.Partition.{block_ids, ids}
use Rattle.flute_parts.proofs.Public.{sizes-few, sizes-short}
use Rattle.flute_tests.proofs.parts.listing.listed.Goals as goal

pub overflow_cast-sbn : goal.overflow_cast-sbn
overflow_cast-sbn c =
    let few = sizes-few c.args.info.now c.in_ok-lengths.ensures.1 in
    let all : length c.deref-length-items.result.now ≡ length (sizes c.args.info.now) =
    ap length (c.deref-length-items.ensures.value ∙ c.in_ok-lengths.ensures.0) in
    let less : c.loop-sbn.sbn < 65536 = omega arith in
    Fits-of_lt less

pub list_block-requires : goal.list_block-requires
list_block-requires c =
    let e = c.deref-length-items.ensures.value ∙ c.in_ok-lengths.ensures.0 in
    let P : List ℕ → Type 0 = λ xs. get_or xs c.loop-sbn.sbn 0 ≤ 65536 in
    subst P (sym e) (sizes-short c.args.info.now c.loop-sbn.sbn c.in_ok-lengths.ensures.1)

pub returns : goal.returns
unfolding ids
returns c =
    let items = c.deref-length-items.result.now in
    let none : drop c.loop-sbn.sbn items ≡ [] = drop_all c.loop-sbn.sbn items (omega arith) in
    sym (append-nil c.loop-sbn.found.items)
    ∙ ap (λ xs. c.loop-sbn.found.items ++ flat_map block_ids (enumerate_from c.loop-sbn.sbn xs))
    (sym none)
    ∙ c.loop-sbn.invariant
    ∙ ap (λ xs. flat_map block_ids (enumerate_from 0 xs))
    (c.deref-length-items.ensures.value ∙ c.in_ok-lengths.ensures.0)

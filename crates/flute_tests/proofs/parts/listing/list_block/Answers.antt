use Rattle.std.proofs.Common.{◌++◌, [], ◌∷◌, sym, ap, ◌∙◌, append_assoc, map, arith}
use Rattle.std.specs.List.{range_with_len}
use Rattle.std.proofs.lemmas.List.FromFn.{map-range_with_len_more}
use Rattle.flute_parts.specs.Partition.{symbol_id}
use Rattle.flute_tests.proofs.parts.listing.list_block.Goals as goal

pub loop-esi-preserved : goal.loop-esi-preserved
loop-esi-preserved c =
    let id = symbol_id c.args.sbn c.loop-esi.esi in
    c.in_ok-push.ensures.items
    ∙ ap (λ xs. xs ++ id ∷ []) c.loop-esi.invariant
    ∙ append_assoc c.args.found.now.items
    (map (symbol_id c.args.sbn) (range_with_len 0 c.loop-esi.esi)) (id ∷ [])
    ∙ ap (λ xs. c.args.found.now.items ++ xs)
    (sym (map-range_with_len_more (symbol_id c.args.sbn) 0 c.loop-esi.esi c.loop-esi.esi
    (omega arith)))

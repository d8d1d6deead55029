-- compare: the rows of two journals are few enough to be counted (specs/RowsTold).
use Rattle.std.proofs.Common.{◌≡◌, ◌+◌, ◌*◌, ◌≤◌, ◌^◌, false, ◌||◌, ◌&&◌, List, []}
use Rattle.std.proofs.Common.{◌∷◌, ◌++◌, length, length-append, refl, sym, ap, ◌∙◌, arith}
use Rattle.std.specs.Prelude.{map}
use Rattle.std.specs.Cmp.{IsEquivalence}
use Rattle.std.specs.List.{AllByRecursion, IsDistinct, sum_by}
use Rattle.std.specs.Set.{is_member}
use Rattle.std.specs.declared.cmp.Ordering.{Ordering}
use Rattle.std.specs.declared.cmp.Ordering.TheVariants.{Less, Equal, Greater}
use Rattle.std.specs.Ordering.{is_eq, ordering_reverse}
use Rattle.std.proofs.lemmas.List.{length-map}
use Rattle.std.proofs.lemmas.List.Folds.{list_any-append}
use Rattle.std.proofs.lemmas.List.Sums.{count_by-le-length, sum_by-cons}
use Rattle.std.proofs.lemmas.Map.Made.{length-le_from_is_member}
use Rattle.flute_parts.specs.Addresses.{address}
use Rattle.flute_parts.specs.Equality.{key_itself, key_same}
use Rattle.flute_parts.specs.Facts.{fact_at}
use Rattle.flute_parts.specs.Order.{same_key}
use Rattle.flute_parts.specs.Totality.{key_total}
use Rattle.flute_parts.specs.declared.fact.Fact.{Fact}
use Rattle.flute_parts.specs.declared.key.Key.{Key}
use Rattle.flute_streams.specs.Compared.{AreRows, KeysAfter, KeysRise, is_alike, is_listed, is_lone}
use Rattle.flute_streams.specs.Compared.{is_named, is_other, is_symbol_of, row_of}
use Rattle.flute_streams.specs.declared.merge.sides.Row.{Row}
use Rattle.flutejoin.specs.RowsTold.{AreFew, weight}

turned : (o : Ordering) → is_eq (ordering_reverse o) ≡ is_eq o
turned Less = refl
turned Equal = refl
turned Greater = refl

laws : IsEquivalence same_key
laws = record {
  refl = key_itself;
  symm = λ x y. ap is_eq (key_total.antisymm x y) ∙ turned _;
  congr = λ x y z e. ap (λ k. same_key k z) (key_same x y e);
}

apart : (x : Key) (keys : List Key) → KeysAfter x keys
    → AllByRecursion (λ y. same_key x y ≡ false) keys
apart x [] a = tt
apart x (k ∷ ks) a = (cc, apart x ks a.1)

distinct : (keys : List Key) → KeysRise keys → IsDistinct same_key keys
unfolding IsDistinct
distinct [] r = tt
distinct (k ∷ ks) r = (apart k _ r.0, distinct ks r.1)

abbrev key_in : Fact → Key
key_in f = (address f).key

named : (key : Key) (F : List Fact) → is_named key F ≡ is_member same_key (map key_in F) key
named _ [] = refl
named key (f ∷ F) = ap (λ b. same_key key (key_in f) || b) (named _ F)

few_keys : (keys : List Key) (F G : List Fact) → KeysRise keys
    → ((key : Key) → is_listed key keys ≡ (is_named key F || is_named key G))
    → length keys ≤ length F + length G
few_keys keys F G r e =
    let few = length-le_from_is_member laws keys (map key_in (F ++ G)) (distinct _ r)
    (λ q l. sym (named q _) ∙ list_any-append _ F G ∙ sym (e q) ∙ l) in omega
    (arith, length-map (F ++ G) key_in, length-append F G)

-- ---- how much is counted of a row

module _ (F G : List Fact) (few : length F ≤ 2 ^ 24) (few_others : length G ≤ 2 ^ 24) where
  light : (key : Key) → weight (row_of F G key) ≤ 2 ^ 27
  light key =
      let q = is_symbol_of key in
      let same = count_by-le-length
      (λ f. is_symbol_of key (address f) && is_alike (fact_at G (address f)) f) F in
      let other = count_by-le-length
      (λ f. is_symbol_of key (address f) && is_other (fact_at G (address f)) f) F in
      let lone = count_by-le-length
      (λ f. is_symbol_of key (address f) && is_lone (fact_at G (address f)) f) F in
      let others = count_by-le-length
      (λ f. is_symbol_of key (address f) && is_lone (fact_at F (address f)) f) G in omega arith

  all_light : (keys : List Key) → sum_by weight (map (row_of F G) keys) ≤ length keys * 2 ^ 27
  all_light [] = omega arith
  all_light (k ∷ ks) =
      omega (arith, sum_by-cons weight (row_of F G k) (map (row_of F G) ks), light k, all_light ks)

  pub few_rows : (rows : List Row) → AreRows F G rows → AreFew rows
  few_rows rows a =
      let keys = few_keys a.keys F G a.rise a.all in
      let all = all_light a.keys in
      rw a.are (omega (arith, keys, all, few, few_others))

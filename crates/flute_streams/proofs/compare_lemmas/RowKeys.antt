-- The keys of rows, as one address more is counted (specs/Compared).
use Rattle.std.proofs.Common.{◌≡◌, true, false, Bool, ◌||◌, List, [], ◌∷◌, ◌++◌, refl}
use Rattle.std.proofs.Common.{ap, ◌∙◌, Option, Some, None}
use Rattle.std.proofs.Common.{is_eq}
use Rattle.std.proofs.lemmas.List.Folds.{list_any-append}
use Rattle.std.specs.declared.cmp.Ordering.{Ordering}
use Rattle.std.specs.declared.cmp.Ordering.TheVariants.{Less, Equal, Greater}
use Rattle.std.specs.Ordering.{ordering_reverse, ordering_then}
use Rattle.flute_parts.specs.declared.address.Address.{Address}
use Rattle.flute_parts.specs.declared.fact.Fact.{Fact}
use Rattle.flute_parts.specs.declared.key.Key.{Key}
use Rattle.flute_parts.specs.Order.{address_cmp, key_cmp, same_key}
use Rattle.flute_parts.specs.Totality.{key_total}
use Rattle.flute_streams.specs.Streams.{option_list}
use Rattle.flute_streams.specs.Compared.{is_listed, is_named, KeysAfter, KeysRise}
use Rattle.flute_streams.proofs.compare_lemmas.CountedRows.{At}
use Rattle.flute_streams.proofs.compare_lemmas.Meetings.{no_some}

keys_apart : (x k : Key) → key_cmp x k ≡ Less → same_key k x ≡ false
keys_apart x k l = ap is_eq (key_total.antisymm k x ∙ ap ordering_reverse l)

pub key_of : (x p : Address) → address_cmp x p ≡ Less → same_key x.key p.key ≡ false
    → key_cmp x.key p.key ≡ Less
key_of x p l n = by _ _ l n
  where
    by : (o q : Ordering) → ordering_then o q ≡ Less → is_eq o ≡ false → o ≡ Less
    by Less q l n = refl
    by Equal q l n = absurd cc
    by Greater q l n = l

after_more : (y k : Key) (ks : List Key) → KeysAfter y ks → key_cmp y k ≡ Less
    → KeysAfter y (ks ++ k ∷ [])
after_more y k [] s l = (l, tt)
after_more y k (x ∷ ks) s l = (s.0, after_more y k ks s.1 l)

pub after_last : (y x : Key) (ks : List Key) → KeysAfter y (ks ++ x ∷ []) → key_cmp y x ≡ Less
after_last y x [] s = s.0
after_last y x (z ∷ ks) s = after_last y x ks s.1

pub rise_more : (x k : Key) (ks : List Key) → KeysRise (ks ++ x ∷ []) → key_cmp x k ≡ Less
    → KeysRise ((ks ++ x ∷ []) ++ k ∷ [])
rise_more x k [] r l = ((l, tt), (tt, tt))
rise_more x k (y ∷ ks) r l = (
  after_more y k _ r.0
      (key_total.trans y x k (after_last y x ks r.0) l),
  rise_more x k ks r.1 l,
)

-- a key after all of a rising list is none of them
pub not_listed : (k x : Key) (ks : List Key) → KeysRise (ks ++ x ∷ []) → key_cmp x k ≡ Less
    → is_listed k (ks ++ x ∷ []) ≡ false
not_listed k x [] r l = ap (λ b. b || false) (keys_apart x k l)
not_listed k x (y ∷ ks) r l = ap (λ b. b || is_listed k (ks ++ x ∷ []))
    (keys_apart y k (key_total.trans y x k (after_last y x ks r.0) l)) ∙ not_listed k x ks r.1 l

pub or_nil : (a : Bool) → (a || false) ≡ a
or_nil true = refl
or_nil false = refl

-- what the facts there add to the objects that are named
held_named : (key : Key) (p : Address) (f : Option Fact) → At p f → (f ≡ None → ⊥)
    → is_named key (option_list f) ≡ same_key key p.key
held_named key p None d n = absurd (n refl)
held_named key p (Some f) d n = or_nil _ ∙ ap (λ a. same_key key a.key) d

module _ (key : Key) (p : Address) where
  pub named_step : (F G : List Fact) (f g : Option Fact) → At p f → At p g → (f ≡ None → g ≡ None
      → ⊥)
      → (is_named key (F ++ option_list f) || is_named key (G ++ option_list g))
      ≡ ((is_named key F || is_named key G) || same_key key p.key)
  named_step F G f g d e n =
      ap (λ b. b || is_named key (G ++ option_list g))
      (list_any-append _ F _)
      ∙ ap (λ b. (is_named key F || is_named key (option_list f)) || b)
      (list_any-append _ G _)
      ∙ crossed (is_named key F) (is_named key G) (is_named key (option_list f))
      (is_named key (option_list g)) (same_key key p.key) (one f g d e n)
    where
      crossed : (a b c d k : Bool) → (c || d) ≡ k → ((a || c) || (b || d)) ≡ ((a || b) || k)
      crossed true b c d k e = refl
      crossed false true c d k e = true_or c
        where
          true_or : (c : Bool) → (c || true) ≡ true
          true_or true = refl
          true_or false = refl
      crossed false false c d k e = e

      one : (f g : Option Fact) → At p f → At p g → (f ≡ None → g ≡ None → ⊥)
          → (is_named key (option_list f) || is_named key (option_list g)) ≡ same_key key p.key
      one None None d e n = absurd (n refl refl)
      one None (Some g) d e n = held_named _ p _ e (no_some g)
      one (Some f) None d e n =
          or_nil _ ∙ held_named _ p _ d (no_some f)
      one (Some f) (Some g) d e n =
          ap (λ b. b || is_named key (g ∷ [])) (held_named _ p _ d (no_some f))
          ∙ ap (λ b. same_key key p.key || b) (held_named _ p _ e (no_some g))
          ∙ twice _
        where
          twice : (b : Bool) → (b || b) ≡ b
          twice true = refl
          twice false = refl

pub listed_more : (key k : Key) (ks : List Key)
    → is_listed key (ks ++ k ∷ []) ≡ (is_listed key ks || same_key key k)
listed_more key k ks = list_any-append _ ks _ ∙ ap (λ b. is_listed key ks || b) (or_nil _)

-- Where two streams meet (specs/Compares).
use Rattle.std.proofs.Common.{◌≡◌, true, false, cond, Bool, List, ◌++◌, refl}
use Rattle.std.proofs.Common.{sym, ap, ◌∙◌, Option, Some, None}
use Rattle.std.proofs.Common.{is_eq}
use Rattle.std.proofs.lemmas.Option.{none-some, same_Some}
use Rattle.std.specs.declared.cmp.Ordering.{Ordering}
use Rattle.std.specs.declared.cmp.Ordering.TheVariants.{Less, Equal, Greater}
use Rattle.flute_parts.specs.declared.address.Address.{Address}
use Rattle.flute_parts.specs.declared.fact.Fact.{Fact}
use Rattle.flute_parts.specs.Addresses.{address}
use Rattle.flute_parts.specs.Equality.{address_same}
use Rattle.flute_parts.specs.Facts.{IsRising, StandAfter, same_fact}
use Rattle.flute_parts.specs.Order.{address_cmp}
use Rattle.flute_streams.specs.Streams.{option_list}
use Rattle.flute_streams.specs.Behind.{Behind, StandBefore}
use Rattle.flute_streams.specs.Compares.{first_goes}
use Rattle.flute_streams.specs.Compares.{second_goes}
use Rattle.flute_streams.specs.Counting.{meeting_of, meeting_at, lowest_at}
use Rattle.flute_streams.specs.Counting.{side_of}
use Rattle.flute_streams.specs.declared.merge.sides.Meeting.{Meeting}
use Rattle.flute_streams.specs.declared.merge.sides.Side.TheVariants.{Same, Differ, First, Second}
use Rattle.flute_streams.proofs.streams_lemmas.Before.{rising_before, turned}
use Rattle.flute_streams.proofs.compare_lemmas.CountedRows.{IsNext}

-- where two sides meet, of which the one gave these facts and holds h, and the other those and k
pub record Met (h k : Option Fact) (m : Meeting) (all others : List Fact) : Type 0 where
  pub f : Option Fact
  pub g : Option Fact
  pub side : m.side ≡ side_of f g
  pub some : f ≡ None → g ≡ None → ⊥
  pub takes_f : f ≡ cond (first_goes m.side) h None
  pub takes_g : g ≡ cond (second_goes m.side) k None
  pub some_f : first_goes m.side ≡ true → f ≡ None → ⊥
  pub some_g : second_goes m.side ≡ true → g ≡ None → ⊥
  pub stays_f : first_goes m.side ≡ false → StandAfter m.at (option_list h)
  pub stays_g : second_goes m.side ≡ false → StandAfter m.at (option_list k)
  pub next : IsNext m.at all others f g
  pub after : (x : Address) → StandAfter x (option_list h) → StandAfter x (option_list k) → address_cmp x m.at ≡ Less

true_false : {X : Type 0} → true ≡ false → X
true_false e = absurd cc

pub no_some : (f : Fact) → Some f ≡ None → ⊥
no_some f e = none-some f (sym e)

-- both go on, whether they hold the same value or not
both_go : (b : Bool) → (first_goes (cond b Same Differ) ≡ true)
    × (second_goes (cond b Same Differ) ≡ true)
both_go true = (refl, refl)
both_go false = (refl, refl)

of_both : (f g : Fact) (all others : List Fact) → address f ≡ address g
    → StandBefore (address f) all → StandBefore (address g) others
    → Met (Some f) (Some g) (record { at = address f; side = side_of (Some f) (Some g) }) all others
of_both f g all others e s t =
    let go = both_go (same_fact f g) in
    record {
      f = Some f;
      g = Some g;
      side = refl;
      some = λ x y. no_some f x;
      takes_f = rw go.0;
      takes_g = rw go.1;
      some_f = λ x y. no_some f y;
      some_g = λ x y. no_some g y;
      stays_f = λ x. true_false (sym go.0 ∙ x);
      stays_g = λ x. true_false (sym go.1 ∙ x);
      next = record { early = s; early_others = rw e t; at = refl; at_others = sym e };
      after = λ x y z. y.0;
    }

of_first : (f : Fact) (k : Option Fact) (all others : List Fact) → StandAfter (address f) (option_list k)
    → StandBefore (address f) all → StandBefore (address f) others
    → Met (Some f) k (record { at = address f; side = First }) all others
of_first f k all others l s t = record {
  f = Some f;
  g = None;
  side = refl;
  some = λ x y. no_some f x;
  takes_f = refl;
  takes_g = refl;
  some_f = λ x y. no_some f y;
  some_g = λ x y. true_false (sym x);
  stays_f = λ x. true_false x;
  stays_g = λ x. l;
  next = record { early = s; early_others = t; at = refl; at_others = tt };
  after = λ x y z. y.0;
}

of_second : (h : Option Fact) (g : Fact) (all others : List Fact) → StandAfter (address g) (option_list h)
    → StandBefore (address g) all → StandBefore (address g) others
    → Met h (Some g) (record { at = address g; side = Second }) all others
of_second h g all others l s t = record {
  f = None;
  g = Some g;
  side = refl;
  some = λ x y. no_some g y;
  takes_f = refl;
  takes_g = refl;
  some_f = λ x y. true_false (sym x);
  some_g = λ x y. no_some g y;
  stays_f = λ x. l;
  stays_g = λ x. true_false x;
  next = record { early = s; early_others = t; at = tt; at_others = refl };
  after = λ x y z. z.0;
}

module _ (f g : Fact) (m : Meeting) (all others : List Fact) where
  by_order : (o : Ordering) → address_cmp (address f) (address g) ≡ o
      → meeting_at (lowest_at o f g).0 (lowest_at o f g).1 ≡ Some m → StandBefore (address g) all
      → StandBefore (address f) others → StandBefore (address f) all
      → StandBefore (address g) others → Met (Some f) (Some g) m all others
  by_order Less l e a b c d = rw (← same_Some _ m e) (of_first f (Some g) all others (l, tt) c b)
  by_order Equal l e a b c d = rw (← same_Some _ m e)
      (of_both f g all others (address_same (address f) (address g) (ap is_eq l)) c d)
  by_order Greater l e a b c d = rw (← same_Some _ m e)
      (of_second (Some f) g all others (turned (address f) (address g) l, tt) a d)

module _ (m : Meeting) (all others : List Fact) where
  pub met_of : (h k : Option Fact) → meeting_of h k ≡ Some m → Behind k all → Behind h others
      → IsRising (all ++ option_list h) → IsRising (others ++ option_list k) → Met h k m all others
  met_of None None e b c r t = absurd (none-some m e)
  met_of (Some f) None e b c r t = rw (← same_Some _ m e)
      (of_first f None all others tt (rising_before all f r) c)
  met_of None (Some g) e b c r t = rw (← same_Some _ m e)
      (of_second None g all others tt b (rising_before others g t))
  met_of (Some f) (Some g) e b c r t =
      by_order f g m all others (address_cmp (address f) (address g)) refl e b
      c (rising_before all f r) (rising_before others g t)

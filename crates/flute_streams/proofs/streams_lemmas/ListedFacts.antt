-- WalkStream and FactStream: facts in memory are a stream.
use Rattle.std.proofs.Common.{rules}
use Rattle.flute_journal.specs.HeldEntries.{IsSpelling}
use Rattle.flute_streams.proofs.Common.{◌≡◌, List, [], ◌∷◌, ◌++◌, length, Option}
use Rattle.flute_streams.proofs.Common.{Some, None, refl}
use Rattle.flute_streams.proofs.Common.{sym, ap, ◌∙◌, subst, inl, inr, append_assoc}
use Rattle.flute_streams.proofs.Common.{append-nil}
use Rattle.flute_streams.proofs.Common.{arith, length-append, IfSome, ◌⊎◌, AllByRecursion}
use Rattle.flute_streams.proofs.Common.{IsRising, Address, Fact, FactRef, IsSized, YieldsFact}
use Rattle.flute_streams.proofs.Common.{fact_in, option_list, GoesOn}
use Rattle.flute_journal.proofs.Public.{all_split}
use Rattle.flute_journal.proofs.Public.{Rises, rising-rises, rises-rising}
use Rattle.flute_streams.specs.Listed.{listed_behaviour}

rises_front : (l : Option Address) (xs ys : List Fact) → Rises l (xs ++ ys) → Rises l xs
rises_front l [] ys r = tt
rises_front l (x ∷ xs) ys r = (r.0, rises_front _ xs ys r.1)

rising_front : (xs ys : List Fact) → IsRising (xs ++ ys) → IsRising xs
rising_front xs ys r = rises-rising xs (rises_front _ xs ys (rising-rises _ r))

some_of : (P : Fact → Type 0) (o : Option Fact) → AllByRecursion P (option_list o) → IfSome o P
some_of P o h = grind arith

-- the next fact of a walk
walked : (r : Option FactRef) (xs ys : List Fact) → YieldsFact (λ (l : List Fact). l) xs r ys →
    (xs ≡ option_list (fact_in r) ++ ys) × (fact_in r ≡ None → ys ≡ []) × IfSome (fact_in r) IsSized
walked = grind arith

spells_none : (o : Option Fact) → IsSpelling [] o
spells_none = search rules

module _ {S : Type 0} (held : S → Option Fact) (rest : S → List Fact) (is_sound : S → Type 0) where
  -- it holds the next fact, or none is left
  pub listed_goes_on : (s t : S) → rest s ≡ option_list (held t) ++ rest t
      → (held t ≡ None → rest t ≡ [])
      → ((start : S) → is_sound start → AllByRecursion IsSized (rest start))
      ⊎ IfSome (held t) IsSized → GoesOn (listed_behaviour held rest is_sound) s t
  listed_goes_on s t e n v = record {
    gave = λ start F p.
        let G = F ++ option_list (held s) in
        let all : rest start ≡ (G ++ option_list (held t)) ++ rest t = grind (arith, append_assoc)
        in
        record {
          passes = record {
            all = all ∙ append_assoc G (option_list (held t)) (rest t);
            rising =
                p.rising;
            sound = p.sound;
          };
          reads = (
            option_list (held t) ++ rest t,
            all ∙ append_assoc G (option_list (held t))
                (rest t),
          );
          reads_held = (rest t, all);
          fails = refl;
          rising = rising_front (G ++ option_list (held t)) (rest t) (rw all at p.rising);
          sized = elim v [
            | inl h ↦ some_of IsSized (held t)
                (all_split IsSized G (option_list (held t))
                (all_split IsSized (G ++ option_list (held t)) (rest t)
                (subst (AllByRecursion IsSized) all (h start p.sound))).0).1
            | inr h ↦ h
          ];
          spelled = spells_none (held t);
          ended = λ h. told G (held t) (rest t) (rest start) h (n h) all;
          ends = λ h. told G (held t) (rest t) (rest start) h (n h) all;
          known = λ K k. record {
            rest = rest t;
            is = k ∙ all;
            rising = subst IsRising (sym k)
                p.rising;
            ended = n;
          };
        };
    fewer = let l = ap length e in omega (arith, l, length-append (option_list (held t)) (rest t));
  }
    where
      told : (G : List Fact) (o : Option Fact) (left all : List Fact) → o ≡ None → left ≡ []
          → all ≡ (G ++ option_list o) ++ left → G ≡ all
      told G None left all h n e = sym (e ∙ ap (λ (l : List Fact). (G ++ []) ++ l) n
          ∙ append-nil (G ++ []) ∙ append-nil G)
      told G (Some f) left all h n e = absurd (let p : Some f ≡ None = h in cc)

-- a walk goes on to its next fact
pub walk_goes_on : {S : Type 0} (held : S → Option Fact) (rest : S → List Fact) (s t : S)
    (r : Option FactRef) → YieldsFact (λ (l : List Fact). l) (rest s) r (rest t)
    → held t ≡ fact_in r → GoesOn (listed_behaviour held rest (λ _. Unit {0})) s t
walk_goes_on held rest s t r yields is =
    let w = walked r _ _ yields in
    listed_goes_on _ _ (λ _. Unit) s t (w.0 ∙ ap (λ o. option_list o ++ rest t) (sym is))
    (λ e. w.1 (sym is ∙ e)) (inr (rw is w.2))

-- Lemmas on LowestValue (specs/Lowest): what the stream there holds, and one stream more.
use Rattle.std.proofs.Common.{rules}
use Rattle.flute_streams.proofs.Common.{Address, AllByRecursion, AreNew, Behaviour, Bool, Equal}
use Rattle.flute_streams.proofs.Common.{Fact}
use Rattle.flute_streams.proofs.Common.{Greater, IfSome, IsFact, IsLowest, Less, Lowest, heads}
use Rattle.flute_streams.proofs.Common.{List, None, Option, Some}
use Rattle.flute_streams.proofs.Common.{[], address, address_cmp, ap, arith}
use Rattle.flute_streams.proofs.Common.{bytes_eq, cases_Bool, conflict_at, entry, fact_same}
use Rattle.flute_streams.proofs.Common.{if◌then◌else◌, inl, inr, length, option_list}
use Rattle.flute_streams.proofs.Common.{address_of, refl, same_Some, same_fact, slice_get}
use Rattle.flute_streams.proofs.Common.{not, subst, suc}
use Rattle.flute_streams.proofs.Common.{sym, true, false, zero, ℕ, ◌++◌, ◌<◌, ◌∙◌, ◌∷◌, ◌≡◌, ◌≢◌}
use Rattle.std.specs.Prelude.{◌==◌}
use Rattle.std.proofs.lemmas.Slice.Eq.{bytes_eq-Decides}
use Rattle.flute_parts.specs.Equality.{bytes_same, fact_itself}
use Rattle.flute_journal.proofs.Public.{same_entry}
use Rattle.flute_journal.specs.HeldEntries.{IsSpelling}
use Rattle.flute_journal.specs.JournalWriters.{Puts}
use Rattle.flute_journal.specs.declared.writers.journal_writer.JournalWriter.{JournalWriter}
use Rattle.flute_streams.proofs.Common.{Ordering}
use Rattle.flute_streams.proofs.merge_lemmas.GoingOn.{item_at}
use Rattle.flute_streams.proofs.merge_lemmas.LowestFacts.{lowest_alone}
use Rattle.flute_streams.proofs.merge_lemmas.LowestFacts.{lowest_apart, lowest_same, lowest_stays}
use Rattle.flute_streams.proofs.merge_lemmas.LowestFacts.{lowest_turns, up_to_itself}
use Rattle.flute_streams.proofs.merge_lemmas.RankFacts.{comes-apart, comes-first, comes-same}
use Rattle.flute_streams.specs.Lowest.{AreSpelled, ComesTo, IsNotBefore, Joins, Stands, StandsOn}
use Rattle.flute_streams.specs.Lowest.{conflict_of, first_at, held_at, held_in, place_at}
use Rattle.flute_streams.specs.Lowest.{value_at}
use Rattle.flute_streams.specs.declared.merge.lowest.LowestValue.{LowestValue}

all_at : {X : Type 0} (P : X → Type 0) (xs : List X) (k : ℕ) {x : X} → AllByRecursion P xs
    → slice_get xs k ≡ Some x → P x
all_at P [] k h e = absurd cc
all_at P (y ∷ ys) zero h e = rw (← same_Some _ _ e) h.0
all_at P (y ∷ ys) (suc k) h e = all_at P ys k h.1 e

pub held-within : {S : Type 0} (b : Behaviour S) (streams : List S) (k : ℕ) {f : Fact}
    → held_at b streams k ≡ Some f → k < length streams
held-within b [] k e = absurd cc
held-within b (s ∷ streams) zero e = omega arith
held-within b (s ∷ streams) (suc k) e = search (rules, held-within b streams k e)

pub place-some : (o : Option Fact) (a : Address) → address_of o ≡ Some a
    → (f : Fact) × (o ≡ Some f) × (address f ≡ a)
place-some = search rules

pub place-none : (o : Option Fact) → address_of o ≡ None → o ≡ None
place-none = search rules

pub not-empty : {bytes : List ℕ} {r : Bool} → r ≡ (length bytes == 0) → r ≡ false → bytes ≢ []
not-empty = search rules

pub some-of : (P : Fact → Type 0) {o : Option Fact} {f : Fact} → o ≡ Some f → IfSome o P → P f
some-of P e h = search rules

-- Of two streams, the bytes of the same fact are the same.

same_spelled : (g f : Fact) (one other : List ℕ) → IsFact g × (one ≡ entry g)
    → IsFact f × (other ≡ entry f) → bytes_eq one other ≡ same_fact g f
same_spelled g f one other p q = elim (cases_Bool (bytes_eq one other)) [
  | inl e ↦ let same : g ≡ f = same_entry g f p.0 q.0 (sym p.1 ∙ bytes_same one other e ∙ q.1)
      in e ∙ sym (subst (λ x. same_fact g x ≡ true) same (fact_itself g))
  | inr e ↦ elim (cases_Bool (same_fact g f)) [
    | inl s ↦ let same : one ≡ other = p.1 ∙ ap entry (fact_same g f s) ∙ sym q.1 in
        let is : bytes_eq one other ≡ true = subst (λ l. bytes_eq one l ≡ true) same
        ((bytes_eq-Decides one one).1 refl) in absurd cc
    | inr s ↦ e ∙ sym s
  ]
]

spelled_some : (bytes : List ℕ) (f : Fact) → bytes ≢ [] → IsSpelling bytes (Some f)
    → IsFact f × (bytes ≡ entry f)
spelled_some = search rules

pub spelled-same : {one other : List ℕ} {o p : Option Fact} (g f : Fact) → IsSpelling one o
    → IsSpelling other p → one ≢ [] → other ≢ [] → o ≡ Some g → p ≡ Some f
    → bytes_eq one other ≡ same_fact g f
spelled-same {one} {other} g f h k some any e d = same_spelled g f _ _
    (spelled_some _ g some (subst (IsSpelling one) e h)) (spelled_some _ f any (rw d at k))

-- the first of new streams holds nothing
pub none-new : {S : Type 0} (b : Behaviour S) (streams : List S) → AreNew b streams
    → address_of (held_at b streams 0) ≡ None
none-new b [] new = refl
none-new b (s ∷ streams) new = ap address_of new.0.held

module _ {S : Type 0} (b : Behaviour S) (streams : List S) where
  -- what is read of the stream with that number
  pub read-at : {X : Type 0} (k : ℕ) (read : Option Fact → X)
      {o : X} → k < length streams → ((s : S) → slice_get streams k ≡ Some s → o ≡ read (b.held s)) →
      o ≡ read (held_at b streams k)
  read-at k read within h =
      let x = item_at streams k within in
      h x.0 x.1 ∙ ap (λ s. read (held_in b s)) (sym x.1)

  -- the bytes that one stream has of what it holds
  pub spelled-at : (k : ℕ) {bytes : List ℕ} → AreSpelled b streams → k < length streams →
      ((s : S) → slice_get streams k ≡ Some s → bytes ≡ b.spelled s) → IsSpelling bytes
      (held_at b streams k)
  spelled-at k {bytes} all within spelled =
      let x = item_at streams k within in
      let own = all_at (λ s. IsSpelling (b.spelled s) (b.held s)) streams k all x.1 in
      rw (x.1, spelled x.0 x.1) own

  -- the value where a stream stands
  pub record HasValue (l : LowestValue) : Type 0 where
    pub fact : Fact
    pub is : value_at b streams l ≡ Some fact
    pub at : place_at b streams l ≡ Some (address fact)

  pub has_value : (l : LowestValue) → Stands b streams l → HasValue l
  has_value l stands =
      let held = held_at b streams l.number in
      let h = place-some held stands.0 stands.1 in
      elim (cases_Bool l.conflict) [
        | inl e ↦ record { fact = conflict_at (address h.0); is = search rules; at = search rules }
        | inr e ↦ search rules
      ]

  pub stands-within : (l : LowestValue) → Stands b streams l → l.number < length streams
  stands-within l stands = search (rules, held-within, place-some, held_at)

  -- the order of the place of a stream, which holds a fact, and that of a value
  pub record Compared (k : ℕ) (l : LowestValue)
      (order : Ordering) : Type 0 where
    pub fact : Fact
    pub here : held_at b streams k ≡ Some fact
    pub value : HasValue l
    pub is : address_cmp (address fact) (address value.fact) ≡ order

  -- as the addresses that were read of them have it
  pub compared : (l : LowestValue) {k : ℕ} {p q : Option Address} {order : Ordering} → Stands b
      streams l → Stands b streams (first_at k) →
      ((s : S) → slice_get streams k ≡ Some s → p ≡ address_of (b.held s)) →
      ((s : S) → slice_get streams l.number ≡ Some s → q ≡ address_of (b.held s)) →
      ((a c : Address) → p ≡ Some a → q ≡ Some c → order ≡ address_cmp a c) → Compared k l order
  compared l {k} stands here first second is =
      let f = place-some _ _ here.1 in
      let v = has_value l stands in
      record { fact = f.0; here = f.1; value = v; is = search rules }

  -- the value at the lowest address
  pub record AtLowest (l : LowestValue) : Type 0 where
    pub value : HasValue l
    pub lowest : Lowest (heads b streams) value.fact

  pub at_lowest : {l : LowestValue} → Stands b
      streams l → IsLowest (heads b streams) (value_at b streams l) → AtLowest l
  at_lowest {l} stands h =
      let v = has_value l stands in
      record { value = v; lowest = rw v.is at h }

  -- it was written
  pub record WrittenAt {W : Type 0} (l : LowestValue)
      (written : W → Option (List ℕ)) (failures : W → ℕ) (old new : JournalWriter W)
      : Type 0 where
    pub value : HasValue l
    pub lowest : Lowest (heads b streams) value.fact
    pub valid : IsFact value.fact
    pub puts : Puts written failures (entry value.fact) old new

  pub written_at : {W : Type 0} {l : LowestValue} {written : W → Option (List ℕ)} {failures : W → ℕ}
      {old new : JournalWriter W} → Stands b streams l → IsLowest (heads b streams)
      (value_at b streams l) → IfSome (value_at b streams l) IsFact → IfSome (value_at b streams l)
      (λ f. Puts written failures (entry f) old new) → WrittenAt l written failures old new
  written_at stands h valid puts =
      let v = at_lowest stands h in
      record {
        value = v.value;
        lowest = v.lowest;
        valid = some-of _ v.value.is valid;
        puts = search rules;
      }

  -- its address is that of the stream
  pub placed : {l : LowestValue} {o : Option Address} {a : Address} (v : HasValue l) → Stands b
      streams l → ((s : S) → slice_get streams l.number ≡ Some s → o ≡ address_of (b.held s)) → o ≡
      Some a → address v.fact ≡ a
  placed v stands h e = search rules

  pub place-joined : (l : LowestValue) (k : ℕ) (r : LowestValue) → Joins b streams l k r
      → place_at b streams r ≡ place_at b streams l
  place-joined = search rules

  -- where values differ, the next value there changes nothing
  pub joins-conflict : (l : LowestValue) (k : ℕ) → Stands b streams l → place_at b streams
      (first_at k) ≡ place_at b streams l → l.conflict ≡ true → Joins b streams l k l
  joins-conflict l k stands here e = record {
    number = refl;
    same = λ g f v h s. v;
    apart = λ g f v h s. let held = held_at b streams l.number in
        let x = place-some held stands.0 stands.1 in
        let at = same_Some (address f) (address x.0)
        (sym (ap address_of h) ∙ here ∙ ap address_of x.1) in ap
        (λ c. if c then conflict_of held else held) e ∙ ap conflict_of x.1 ∙ ap
        (λ a. Some (conflict_at a)) (sym at);
  }

  -- else it is a conflict with it unless that is the same
  pub joins-by : (l : LowestValue) (k : ℕ) (same : Bool) → l.conflict ≡ false → place_at b streams
      (first_at k) ≡ place_at b streams l → ((g f : Fact) → held_at b streams l.number ≡ Some g →
      held_at b streams k ≡ Some f → same ≡ same_fact g f) → Joins b streams l k
      (record { number = l.number; conflict = not same })
  joins-by = search rules

  -- One stream more, which holds the fact f.
  module _ (facts : List Fact) (k : ℕ) {f : Fact} (here : held_at b streams k ≡ Some f) where
    -- it is the first
    pub lowest-first : facts ≡ []
        → IsLowest (facts ++ option_list (held_at b streams k)) (held_at b streams k)
    lowest-first none = search (rules, lowest_alone)

    module _ (l : LowestValue) {g : Fact} (is : value_at b streams l ≡ Some g)
        (h : IsLowest facts (value_at b streams l)) where
      low : IsLowest facts (Some g)
      low = search rules

      -- it is below the lowest place
      pub lowest-below : address_cmp (address f) (address g) ≡ Less
          → IsLowest (facts ++ option_list (held_at b streams k)) (held_at b streams k)
      lowest-below less = search (rules, lowest_turns)

      -- it is above the lowest place
      pub lowest-above : address_cmp (address f) (address g) ≡ Greater
          → IsLowest (facts ++ option_list (held_at b streams k)) (value_at b streams l)
      lowest-above greater = search (rules, value_at, lowest_stays)

      -- it is there
      pub lowest-joined : address_cmp (address f) (address g) ≡ Equal → (r : LowestValue)
          → Joins b streams l k r
          → IsLowest (facts ++ option_list (held_at b streams k)) (value_at b streams r)
      lowest-joined equal r j = rw here (elim (cases_Bool (same_fact g f)) [
        | inl e ↦ rw (j.same g f is here e) (lowest_same facts f g low equal e)
        | inr e ↦ rw (j.apart g f is here e) (lowest_apart facts f g low equal e)
      ])

  -- What comes to be the value at that address, with one stream more that is there.
  module _ (facts : List Fact) (k : ℕ) (a : Address)
      (on : StandsOn b a streams (first_at k)) where
    held : (f : Fact) × (held_at b streams k ≡ Some f) × (address f ≡ a)
    held = search rules

    not_before : IsNotBefore a held.0
    not_before = subst (λ x. IsNotBefore x held.0) held.2 (up_to_itself (address held.0))

    pub comes-alone : ComesTo a facts None
        → ComesTo a (facts ++ option_list (held_at b streams k)) (held_at b streams k)
    comes-alone h = rw held.1 (comes-first a _ _ held.2 not_before h)

    pub comes-joined : (l r : LowestValue) → StandsOn b a streams l → Joins b streams l k r
        → ComesTo a facts (value_at b streams l)
        → ComesTo a (facts ++ option_list (held_at b streams k)) (value_at b streams r)
    comes-joined l r stands j h =
        let v = has_value l (a, stands) in
        let low = rw v.is at h in
        rw held.1 (elim (cases_Bool (same_fact v.fact held.0)) [
          | inl e ↦ rw (j.same v.fact held.0 v.is held.1 e)
              (comes-same a facts v.fact held.0 held.2 not_before e low)
          | inr e ↦ rw (j.apart v.fact held.0 v.is held.1 e)
              (comes-apart a facts v.fact held.0 held.2 not_before e low)
        ])

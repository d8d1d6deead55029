-- Tally: facts at rising addresses, counted one after another (specs/Tally).
use Rattle.std.proofs.Common.{rules}
use Rattle.std.proofs.Common.{◌≡◌, ℕ, ◌+◌, ◌<◌, ◌≤◌, Bool, true, false, List}
use Rattle.std.proofs.Common.{[], ◌∷◌, ◌++◌, length, map, Option, Some, None, refl, sym}
use Rattle.std.proofs.Common.{ap, ◌∙◌, subst, inl, inr, ◌&&◌, ◌==◌, arith}
use Rattle.std.specs.List.{last_or}
use Rattle.std.specs.declared.cmp.Ordering.TheVariants.{Greater}
use Rattle.std.specs.Ordering.{is_eq}
use Rattle.std.proofs.lemmas.Bool.{false≢true, cases_Bool}
use Rattle.std.proofs.lemmas.Option.{same_Some, none-some}
use Rattle.flute_parts.specs.Session.{Session}
use Rattle.flute_parts.specs.declared.key.Key.{Key}
use Rattle.flute_parts.specs.declared.symbol_id.SymbolId.{SymbolId}
use Rattle.flute_parts.specs.declared.address.Part.TheVariants.{Info as InfoPart}
use Rattle.flute_parts.specs.declared.address.Part.TheVariants.{Symbol as SymbolPart}
use Rattle.flute_parts.specs.declared.fact.Fact.{Fact}
use Rattle.flute_parts.specs.declared.tally.Tally.{Tally}
use Rattle.flute_parts.specs.Order.{session_cmp, key_cmp, same_session, same_object, same_key}
use Rattle.flute_parts.specs.Order.{same_symbol_id, same_address}
use Rattle.flute_parts.specs.Addresses.{address}
use Rattle.flute_parts.specs.Equality.{session_place}
use Rattle.flute_parts.specs.Equality.{key_same, key_itself, address_itself}
use Rattle.flute_parts.specs.Totality.{session_total, key_total}
use Rattle.flute_parts.specs.Facts.{IsRising}
use Rattle.flute_parts.specs.Limits.{symbol_in, session_of, object_of, symbol_of, sessions, objects}
use Rattle.flute_parts.specs.Limits.{symbols, Over, more_sessions, more_objects, more_symbols}
use Rattle.flute_parts.specs.Tally.{last_key, Counts, CountsKey}
use Rattle.flute_parts.proofs.Facts.{Member}
use Rattle.flute_parts.proofs.Rising.{member-after}
use Rattle.flute_parts.proofs.OneMore.{count-none, count-again, count-new, count-empty}
use Rattle.flute_parts.proofs.OneMore.{object_of-some, object_of-elsewhere}
use Rattle.flute_parts.proofs.OneMore.{symbol_of-inside, symbol_of-elsewhere, symbol_of-some}
use Rattle.flute_parts.proofs.OneMore.{keys-after, equal-is_not, tied, key-before, before-next}
use Rattle.flute_parts.proofs.OneMore.{rising-front}
use Rattle.flute_parts.proofs.Named.{session_tells, object_tells, symbol_id_tells}

-- ---- the last of them

-- the last fact, and its object, after which none of the facts is
abbrev LastAfter : List Fact → Fact → Type 0
LastAfter F g = (l : Fact) × Member l F × (last_key F ≡ Some (address l).key) ×
    (key_cmp (address g).key (address l).key ≡ Greater → ⊥)

last_after : (F : List Fact) (g : Fact) → IsRising F → Member g F → LastAfter F g
unfolding Member
last_after [] g r m = absurd m
last_after (f ∷ []) g r (inl e) = (
  f,
  inl refl,
  refl,
  rw e
      (equal-is_not (key_cmp (address f).key (address f).key) (key_itself (address f).key)),
)
last_after (f ∷ []) g r (inr m) = absurd m
last_after (f ∷ h ∷ F) g r (inl e) =
    let w = last_after (h ∷ F) h r.1 (inl refl) in
    let l = member-after _ w.0 (h ∷ F) r.0 w.1 in
    (w.0, inr w.1, w.2, rw e (key-before (address f) (address w.0) l))
last_after (f ∷ h ∷ F) g r (inr m) = let w = last_after (h ∷ F) g r.1 m in (w.0, inr w.1, w.2, w.3)

last_member : (F : List Fact) (k : Key) → IsRising F → last_key F ≡ Some k
    → (l : Fact) × Member l F × ((address l).key ≡ k)
unfolding Member
last_member [] k r e = absurd (none-some k e)
last_member (f ∷ F) k r e = let w =
    last_after (f ∷ F) f r (inl refl) in (w.0, w.1, same_Some _ k (sym w.2 ∙ e))

last_key-more : (o : Option Key) (F : List Fact) (f : Fact)
    → last_or o (map (λ g. (address g).key) (F ++ f ∷ [])) ≡ Some (address f).key
last_key-more o [] f = refl
last_key-more o (g ∷ F) f = last_key-more _ F f

last_key-snoc : (F : List Fact) (f : Fact) → last_key (F ++ f ∷ []) ≡ Some (address f).key
last_key-snoc F f = last_key-more _ F f

few-from : (n m : ℕ) → (m < n → ⊥) → n ≤ m
few-from n m h = omega arith

-- ---- the address of one more fact is after theirs

module _ (F : List Fact) (f : Fact) (r : IsRising (F ++ f ∷ [])) where
  abbrev session : Session
  session = (address f).key.session

  abbrev key : Key
  key = (address f).key

  front : IsRising F
  front = rising-front F _ r

  other_address : (g : Fact) → Member g F → address g ≡ address f → ⊥
  other_address g m e =
      let l = before-next F f g r m in
      false≢true (sym (ap is_eq l) ∙ rw (← e) (address_itself (address g)))

  -- their objects are others if the last one is, and so are their sessions
  other_key : (last_key F ≡ Some key → ⊥) → (g : Fact) → Member g F → (address g).key ≡ key → ⊥
  other_key other g m e =
      let w = last_after F g front m in
      let before = key-before (address w.0) (address f) (before-next F f w.0 r w.1) in
      let after : key_cmp key (address w.0).key ≡ Greater → ⊥ = search rules in
      let same = tied _ _ (key_total.antisymm key _) after before in
      other (w.2 ∙ sym (ap Some (key_same key (address w.0).key (ap is_eq same))))

  other_session : ((k : Key) → last_key F ≡ Some k → k.session ≡ session → ⊥)
      → (g : Fact) → Member g F → (address g).key.session ≡ session → ⊥
  other_session other g m e =
      let w = last_after F g front m in
      let last = (address w.0).key in
      let before : session_cmp last.session session ≡ Greater → ⊥ = λ h. key-before _ (address f)
      (before-next F f w.0 r w.1) (keys-after last key h) in
      let after : session_cmp session last.session ≡ Greater → ⊥ = search rules in
      let same = tied _ _ (session_total.antisymm session _) after before in
      other last w.2 (sym (session_place session _ same))

  -- what the facts name with it

  sessions-again : (k : Key) → last_key F ≡ Some k → k.session ≡ session
      → length (sessions (F ++ f ∷ [])) ≡ length (sessions F)
  unfolding sessions
  sessions-again k e s =
      let l = last_member F k front e in
      count-again _ session_tells session_of F f l.0 _ refl l.1
      (ap (λ x. Some x.session) l.2 ∙ ap Some s)

  sessions-new : ((k : Key) → last_key F ≡ Some k → k.session ≡ session → ⊥)
      → length (sessions (F ++ f ∷ [])) ≡ length (sessions F) + 1
  unfolding sessions
  sessions-new other = count-new _ session_tells session_of F f _ refl
      (λ g m e. other_session other g m (same_Some _ _ e))

  named_object : object_of session (address f) ≡ Some key.object
  named_object = search rules

  objects-again : last_key F ≡ Some key
      → length (objects (F ++ f ∷ []) session) ≡ length (objects F session)
  unfolding objects
  objects-again e =
      let l = last_member F key front e in
      let named : object_of session (address l.0) ≡ Some key.object = search rules in
      count-again _ object_tells (object_of _) F f l.0 _ named_object l.1 named

  objects-new : (last_key F ≡ Some key → ⊥)
      → length (objects (F ++ f ∷ []) session) ≡ length (objects F session) + 1
  unfolding objects
  objects-new other = search (
    rules,
    count-new,
    same_object,
    object_tells,
    object_of,
    named_object,
    object_of-some,
    other_key,
  )

  objects-none : ((k : Key) → last_key F ≡ Some k → k.session ≡ session → ⊥)
      → length (objects F session) ≡ 0
  unfolding objects
  objects-none other = search
      (rules, count-empty, same_object, object_tells, object_of, other_session, object_of-some)

  symbols-none : (last_key F ≡ Some key → ⊥) → length (symbols F key) ≡ 0
  unfolding symbols
  symbols-none other = count-empty _ symbol_id_tells (symbol_of key) F
      (λ x g m e. other_key other g m (symbol_of-some key _ x e).0)

  symbols-again : (address f).part ≡ InfoPart
      → length (symbols (F ++ f ∷ []) key) ≡ length (symbols F key)
  unfolding symbols
  symbols-again e = search (rules, count-none, symbol_id_tells, symbol_of-inside)

  symbols-new : (id : SymbolId) → (address f).part ≡ SymbolPart id
      → length (symbols (F ++ f ∷ []) key) ≡ length (symbols F key) + 1
  unfolding symbols
  symbols-new id e = count-new _ symbol_id_tells (symbol_of key) F f id
      (symbol_of-inside key _ refl ∙ ap symbol_in e) (λ g m n. let q = symbol_of-some key _ id n in
      let part = q.1 ∙ sym e in
      other_address g m (λ i. record { key = q.0 i; part = part i }))

  -- no more than the limits, if neither they nor what it adds are

  few_objects : (x : Session) (o : ℕ) → (length (objects F x) ≤ o) → length
      (objects (F ++ f ∷ []) session) ≤ o → length (objects (F ++ f ∷ []) x) ≤ o
  unfolding objects
  few_objects x o few here = search (
    rules,
    cases_Bool,
    objects,
    count-none,
    same_object,
    object_tells,
    object_of,
    object_of-elsewhere,
  )

  few_symbols : (k : Key) (y : ℕ) → (length (symbols F k) ≤ y)
      → length (symbols (F ++ f ∷ []) key) ≤ y → length (symbols (F ++ f ∷ []) k) ≤ y
  unfolding symbols
  few_symbols k y few here = elim (cases_Bool (same_key key k)) [
    | inl t ↦ search rules
    | inr t ↦ let e = count-none _ symbol_id_tells (symbol_of k) F f
        (symbol_of-elsewhere k _ t) in omega (arith, few, e)
  ]

  module _ (s o y : ℕ) (within : Over F s o y → ⊥) where
    within-more : length (sessions (F ++ f ∷ [])) ≤ s → length (objects (F ++ f ∷ []) session) ≤ o →
        length (symbols (F ++ f ∷ []) key) ≤ y → Over (F ++ f ∷ []) s o y → ⊥
    within-more few few_here few_there (more_sessions l) = omega (arith, few, l)
    within-more few few_here few_there (more_objects x l) =
        let n = few_objects x o (few-from _ o (λ m. within (more_objects x m)))
        few_here in omega (arith, n, l)
    within-more few few_here few_there (more_symbols k l) =
        let n = few_symbols k y (few-from _ y (λ m. within (more_symbols k m)))
        few_there in omega (arith, n, l)

-- ---- names distinguished by their parts

-- the tests of the parts of two sessions
abbrev same_parts : Session → Session → Bool
same_parts a b = (a.sender == b.sender) && (a.tsi == b.tsi)

pub session-told : (a b : Session) → true ≡ ((a.sender == b.sender) && (a.tsi == b.tsi)) → a ≡ b
session-told a b t = search rules

pub session-told_apart : (last : Option Key) (x key : Key) → last ≡ Some x
    → false ≡ ((x.session.sender == key.session.sender) && (x.session.tsi == key.session.tsi))
    → (k : Key) → last ≡ Some k → k.session ≡ key.session → ⊥
session-told_apart last x key e t k p q = search rules

pub key-told : (a b : Key) → true ≡ (((a.session.sender == b.session.sender) &&
    (a.session.tsi == b.session.tsi)) && same_object a.object b.object) → a ≡ b
key-told a b t = search rules

pub key-told_apart : (a b : Key) → false ≡ (((a.session.sender == b.session.sender) &&
    (a.session.tsi == b.session.tsi)) && same_object a.object b.object) → a ≡ b → ⊥
key-told_apart a b t e = search rules

-- ---- what a tally has counted

module _ {s o y : ℕ} (F : List Fact) (f : Fact) (tally : Tally s o y)
    (r : IsRising (F ++ f ∷ [])) where
  -- the object of the last fact once more
  pub count-same_key : Counts s o y F tally → tally.last ≡ Some (address f).key
      → CountsKey s o y F f tally
  count-same_key c e =
      let at = sym c.last ∙ e in
      let all = sessions-again F f r (address f).key at refl in
      let here = objects-again F f r at in
      let known = c.object_count (address f).key e in
      let few = few-from (length (sessions F)) s (λ l. c.within (more_sessions l)) in
      let few_here = few-from _ o
      (λ l. c.within (more_objects (address f).key.session l)) in record {
        last = e;
        session_count = c.session_count ∙ sym all;
        object_count = known ∙ sym here;
        symbol_count = c.symbol_count (address f).key e;
        few_sessions = omega (arith, few, all);
        few_objects = omega (arith, few_here, here);
        within = c.within;
      }

  -- another object of its session
  module _ (c : Counts s o y F tally) (key k : Key) (d : (address f).key ≡ key)
      (e : tally.last ≡ Some k) (q : k.session ≡ key.session) (apart : k ≡ key → ⊥) where
    inside : k.session ≡ (address f).key.session
    inside = search rules

    other : last_key F ≡ Some (address f).key → ⊥
    other h = search rules

    known : tally.objects ≡ length (objects F (address f).key.session)
    known = search rules

    pub count-object : (n : ℕ) → n ≡ tally.objects + 1 → tally.objects < o → CountsKey s o y F f
        (record { last = Some key; sessions = tally.sessions; objects = n; symbols = 0 })
    count-object n m below =
        let all = sessions-again F f r k (sym c.last ∙ e) inside in
        let here = objects-new F f r other in
        let few = few-from _ s (λ l. c.within (more_sessions l)) in
        let was = known in
        record {
          last = ap Some (sym d);
          session_count = c.session_count ∙ sym all;
          object_count = omega (arith, m, was, here);
          symbol_count = sym (symbols-none F f r other);
          few_sessions = omega (arith, few, all);
          few_objects = omega (arith, was, here, below);
          within = c.within;
        }

    pub over-object : o ≤ tally.objects → Over (F ++ f ∷ []) s o y
    over-object above =
        let here = objects-new F f r other in
        let was = known in
        more_objects (address f).key.session (omega (arith, was, here, above))

  -- another session
  module _ (c : Counts s o y F tally) (key : Key) (d : (address f).key ≡ key)
      (apart : (k : Key) → tally.last ≡ Some k → k.session ≡ key.session → ⊥) where
    others_apart : (k : Key) → last_key F ≡ Some k → k.session ≡ (address f).key.session → ⊥
    others_apart k h q = search rules

    key_apart : last_key F ≡ Some (address f).key → ⊥
    key_apart h = search rules

    first_object : length (objects (F ++ f ∷ []) (address f).key.session) ≡ 1
    first_object = search (rules, objects-none, others_apart, objects-new, key_apart)

    pub count-session : (n m : ℕ) → n ≡ tally.sessions + 1 → m ≡ 1 → tally.sessions < s → 0 < o →
        CountsKey s o y F f (record { last = Some key; sessions = n; objects = m; symbols = 0 })
    count-session n m p q below some =
        let all = sessions-new F f r others_apart in
        let here = first_object in
        let was = c.session_count in
        record {
          last = ap Some (sym d);
          session_count = omega (arith, p, was, all);
          object_count = omega (arith, q, here);
          symbol_count = sym (symbols-none F f r key_apart);
          few_sessions = omega (arith, was, all, below);
          few_objects = omega (arith, here, some);
          within = c.within;
        }

    pub over-session : s ≤ tally.sessions → Over (F ++ f ∷ []) s o y
    over-session above = search (rules, sessions-new, others_apart)

    pub over-first_object : o ≤ 0 → Over (F ++ f ∷ []) s o y
    over-first_object none = let here =
        first_object in more_objects (address f).key.session (omega (arith, here, none))

  -- the last object and its symbols
  module _ (c : CountsKey s o y F f tally) where
    few_before : length (symbols F (address f).key) ≤ y
    few_before = few-from _ y (λ l. c.within (more_symbols _ l))

    counted : (n : ℕ) → n ≡ length (symbols (F ++ f ∷ []) (address f).key) → n ≤ y
        → Counts s o y (F ++ f ∷ []) (record {
          last = tally.last;
          sessions = tally.sessions;
          objects = tally.objects;
          symbols = n;
        })
    counted n e few = record {
      last = c.last ∙ sym (last_key-snoc F f);
      session_count = c.session_count;
      object_count = search rules;
      symbol_count = search rules;
      within = within-more F f r s o y c.within c.few_sessions c.few_objects (rw e at few);
    }

    pub count-information : (address f).part ≡ InfoPart → Counts s o y (F ++ f ∷ []) tally
    count-information e =
        let same = symbols-again F f r e in
        let was = c.symbol_count in
        let few = few_before in
        counted _ (was ∙ sym same) (omega (arith, was, few))

    pub count-symbol : (id : SymbolId) → (address f).part ≡ SymbolPart id → (n : ℕ) → n ≡
        tally.symbols + 1 → tally.symbols < y → Counts s o y (F ++ f ∷ []) (record {
          last = tally.last;
          sessions = tally.sessions;
          objects = tally.objects;
          symbols = n;
        })
    count-symbol id e n m below =
        let more = symbols-new F f r id e in
        let was = c.symbol_count in
        counted n (omega (arith, m, was, more)) (omega (arith, m, below))

    pub over-symbol : (id : SymbolId) → (address f).part ≡ SymbolPart id → y ≤ tally.symbols
        → Over (F ++ f ∷ []) s o y
    over-symbol id e above =
        let more = symbols-new F f r id e in
        let was = c.symbol_count in
        more_symbols (address f).key (omega (arith, was, more, above))

-- of nothing
none-over : (s o y : ℕ) → Over [] s o y → ⊥
unfolding sessions objects symbols
none-over x0 x1 x2 x3 = search rules

pub count-nothing : (s o y : ℕ)
    → Counts s o y [] (record { last = None; sessions = 0; objects = 0; symbols = 0 })
unfolding sessions objects symbols
count-nothing s o y = search rules

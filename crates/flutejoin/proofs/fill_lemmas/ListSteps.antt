-- GapList: one line more is read (specs/FillStreams: Stands).
use Rattle.std.proofs.Common.{◌≡◌, ◌≢◌, ℕ, ◌+◌, ◌-◌, ◌^◌, ◌<◌, ◌≤◌, true, false, List, [], ◌∷◌, ◌++◌}
use Rattle.std.proofs.Common.{Option, Some, None, refl, sym, ap, ◌∙◌, subst, append-nil, length}
use Rattle.std.proofs.Common.{arith, length-append, take, get_or, zero, suc, inl, inr, drop, take-append-drop, Result, Err, IfErr}
use Rattle.std.specs.Prelude.{IfSome}
use Rattle.std.specs.List.{flat_map, AllByRecursion}
use Rattle.std.specs.Io.KnownBytes.{Consumes, IsAtEnd}
use Rattle.std.proofs.KnownBytes.{Consumes-nil, Consumes-trans}
use Rattle.std.proofs.lemmas.Grind.{flat_map-append}
use Rattle.std.proofs.lemmas.List.{take-append-le, take_all, take_more}
use Rattle.std.proofs.lemmas.List.Elements.{All-append, All-cons, All-nil}
use Rattle.flute_journal.proofs.Public.{all_append}
use Rattle.flutejoin.specs.ListedLines.{IsOneLine}
use Rattle.flutejoin.specs.FillLists.{AreInOrder, IsBadLine, IsListed}
use Rattle.flutejoin.specs.ListedLines.{HasNoEnd}
use Rattle.flutejoin.specs.FillLists.{MayCome, last_of, text_of}
use Rattle.flutejoin.specs.FillLists.{other, no_end, too_many}
use Rattle.flutejoin.specs.FillStreams.{IsBadNext, Knows, NoNext, ReadsNext, Stands, StopsAfter}
use Rattle.flutejoin.specs.NextWords.{TakesWords}
use Rattle.flutejoin.specs.FillStreams.{after_last, before_of, line_of, lines_left}
use Rattle.flutejoin.specs.FillStreams.{other as other_next, no_end as no_end_next}
use Rattle.flutejoin.specs.FillStreams.{too_many as too_many_next}
use Rattle.flutejoin.specs.Lines.{line}
use Rattle.flutejoin.specs.declared.fill.gap_list.GapList.{GapList}
use Rattle.flutejoin.specs.declared.fill.gap_list.GapListFault.{GapListFault}
use Rattle.flutejoin.specs.declared.fill.gap_list.GapListFault.TheVariants as faults
use Rattle.flutejoin.specs.declared.fill.gap_list.LastLine.{LastLine}
use Rattle.flutejoin.specs.declared.fill.gap_list.LastLine.TheVariants.{Unread, Ended}
use Rattle.flutejoin.specs.declared.fill.gap_list.LastLine.TheVariants.{Line as Held}
use Rattle.flutejoin.specs.declared.fill.gap_list.ListedObject.{ListedObject}
use Rattle.flutejoin.specs.declared.fill.listed_line.ListedLine.{ListedLine}
use Rattle.flutejoin.proofs.fill_lemmas.Lists.{in_order_after, in_order_more, knows_more}
use Rattle.flutejoin.proofs.fill_lemmas.Lists.{knows_nothing, last_more}

none_in_order : AreInOrder None []
unfolding AreInOrder
none_in_order = tt

first_may_come : (p : Option ListedLine) (l : ListedLine) → AreInOrder p (l ∷ []) → MayCome p l
unfolding AreInOrder
first_may_come p l o = o.0

pub last_before : (last : LastLine) (passed : List ListedLine) → last ≢ Ended
    → (last ≡ Unread → passed ≡ []) → last_of None (passed ++ line_of last) ≡ before_of last
last_before Unread _ n u = ap (λ x. last_of None (x ++ [])) (u refl)
last_before Ended _ n u = absurd (n refl)
last_before (Held l) passed n u = last_more None passed l

knows_last : (last : LastLine) (passed : List ListedLine) (object : Option ListedObject)
    → AreInOrder None (passed ++ line_of last) → Knows passed object
    → Knows (passed ++ line_of last) (after_last object last)
knows_last Unread passed object o k = rw (append-nil passed) k
knows_last Ended passed object o k = rw (append-nil passed) k
knows_last (Held l) passed object o k = knows_more _ _ l k
    (first_may_come _ l (in_order_after _ _ _ o))

-- what is left of known bytes has P
rest_of : (a b : Option (List ℕ)) (bs : List ℕ) (P Q : List ℕ → Type 0) → Consumes a b bs
    → IfSome b P → ((y : List ℕ) → P y → Q (bs ++ y)) → IfSome a Q
rest_of None b bs P Q c h f = tt
rest_of (Some x) None bs P Q c h f = absurd c
rest_of (Some x) (Some y) bs P Q c h f = rw c (f y h)

-- the bytes of a line, one by one

pub one_byte : (count : ℕ) (buf : List ℕ) → length buf ≡ 1 → count ≤ length buf
    → (count ≡ 0 → ⊥) → take count buf ≡ buf
one_byte count buf one few some =
    take_all count buf (omega arith)
  where
    at_least : (n : ℕ) → (n ≡ 0 → ⊥) → 1 ≤ n
    at_least zero h = absurd (h refl)
    at_least (suc n) h = omega arith

pub one_line_more : (text buf : List ℕ) → length buf ≡ 1 → (get_or buf 0 0 ≡ 10 → ⊥)
    → IsOneLine text → IsOneLine (text ++ buf)
one_line_more text [] one apart words = cc
one_line_more text (b ∷ []) _ apart words = All-append (λ byte. byte ≢ 10) _ _ words
    (All-cons (λ byte. byte ≢ 10) b [] apart (All-nil _))
one_line_more text (b ∷ c ∷ buf) one apart words = omega arith

one_line_taken : (n : ℕ) (xs : List ℕ) → n ≤ length xs
    → ((k : ℕ) → k < n → get_or xs k 0 ≢ 10) → IsOneLine (take n xs)
one_line_taken zero xs l h = All-nil _
one_line_taken (suc n) [] l h = omega arith
one_line_taken (suc n) (x ∷ xs) l h = All-cons (λ byte. byte ≢ 10) x _ (h 0 (omega arith))
    (one_line_taken n xs (omega arith) (λ k m. h (suc k) (omega arith)))

-- the first bytes of those that there is room for
lent_first : (m room : ℕ) (xs lent : List ℕ) → lent ≡ take room xs → m ≤ length lent
    → take m xs ≡ take m lent
lent_first m room xs lent e l = ap (take m) (sym (take-append-drop room xs)) ∙ take-append-le m
    (take room xs) (drop room xs) (omega (arith, ap length e)) ∙ ap (take m) (sym e)

module _ (old new : Option (List ℕ)) (before now xs lent : List ℕ) where
  pub takes_end : (room count : ℕ) → lent ≡ take room xs → count < length lent →
      ((k : ℕ) → k < count → get_or lent k 0 ≢ 10) → get_or lent count 0 ≡ 10 → now ≡ before ++ take
      count lent → Consumes old new (take (count + 1) xs) → TakesWords old new before now true
  takes_end room count e l h ten is c = record {
    words = take count lent;
    now_is = is;
    one_line = one_line_taken _ _ (omega arith) h;
    taken = rw (← lent_first _ _ _ _ e (omega (arith, l))
        ∙ take_more _ _ 0 l ∙ ap (λ b. take count lent ++ b ∷ []) ten) c;
  }

module _ (old new : Option (List ℕ)) (before now xs lent : List ℕ) where
  pub takes_more : (room count : ℕ) → lent ≡ take room xs → count ≤ length lent
      → ((k : ℕ) → k < count → get_or lent k 0 ≢ 10) → now ≡ before ++ take count lent
      → Consumes old new (take count xs) → TakesWords old new before now false
  takes_more room count e l h is c = record {
    words = take count lent;
    now_is = is;
    one_line = one_line_taken _ _ l h;
    taken = rw (← lent_first _ _ _ _ e l ∙ sym (append-nil (take count lent))) c;
  }

-- what was read of a line, and more of it
pub taken_more : (old mid new : Option (List ℕ)) (text now : List ℕ) → Consumes old mid text →
    IsOneLine text → TakesWords mid new text now false → Consumes old new now × IsOneLine now
taken_more old mid new text _ c one t = (
  rw (← ap (λ b. text ++ b) (append-nil t.words) ∙ sym t.now_is) (Consumes-trans _ _ _ _ _ c t.taken),
  rw t.now_is (All-append (λ byte. byte ≢ 10) _ _ one t.one_line),
)

pub longer : (a b : Option (List ℕ)) (text buf : List ℕ) → Consumes a b (text ++ buf)
    → length buf ≡ 1 → length text ≡ 512 → IsOneLine (text ++ buf) → IfSome a HasNoEnd
longer None b _ _ c _ _ _ = tt
longer (Some x) None _ _ c _ _ _ = absurd c
longer (Some x) (Some y) text buf c one full words =
    let len : length (text ++ buf) ≡ 513 = omega (arith, length-append text buf) in
    record {
      words = text ++ buf;
      rest = y;
      bytes_are = c;
      one_line = words;
      some = omega arith;
      long = inr (omega arith);
    }

-- the input ends within a line
module _ (text : List ℕ) (count : ℕ) (buf : List ℕ) where
  pub at_its_end : (a b c : Option (List ℕ)) → Consumes a b text → IsOneLine text → Consumes b c
      (take count buf) → (count ≡ 0) × IsAtEnd c → (text ≡ [] → ⊥) → IfSome a HasNoEnd
  at_its_end None b c k _ m at _ = tt
  at_its_end (Some x) None c k _ m at _ = absurd k
  at_its_end (Some x) (Some y) None k _ m at _ = absurd m
  at_its_end (Some x) (Some y) (Some z) k one m at some = record {
    words = text;
    rest = [];
    bytes_are = cc;
    one_line = one;
    some = at_least _ some;
    long = inl refl;
  }
    where
      at_least : (text : List ℕ) → (text ≡ [] → ⊥) → 0 < length text
      at_least [] h = absurd (h refl)
      at_least (t ∷ text) h = omega arith

pub byte_is : (buf : List ℕ) → length buf ≡ 1 → get_or buf 0 0 ≡ 10 → buf ≡ 10 ∷ []
byte_is [] one ten = cc
byte_is (b ∷ []) _ ten = ap (λ x. x ∷ []) ten
byte_is (b ∷ c ∷ buf) one ten = absurd (omega arith)

-- a line feed follows
pub ended_there : (a b c : Option (List ℕ)) (text : List ℕ) → Consumes a b text → IsOneLine text
    → Consumes b c (10 ∷ []) → IsOneLine text × Consumes a c (line text)
ended_there a b c text k one m = (one, Consumes-trans a b c _ _ k m)

pub none_next : (a b : Option (List ℕ)) (words : List ℕ) (before : Option ListedLine) (read : ℕ)
    → IsOneLine words → Consumes a b (line words)
    → ((l : ListedLine) → IsListed l → MayCome before l → line words ≡ text_of l → ⊥)
    → IfSome a (λ bytes. IsBadNext before read bytes (read + 1))
none_next None b _ _ _ _ c _ = tt
none_next (Some x) None _ _ _ _ c _ = absurd c
none_next (Some x) (Some y) words _ _ one c none = other_next words y c one none refl

module _ {R : Type 0} (unread : R → Option (List ℕ)) (failures : R → ℕ) where
  pub less_lines : (old mid : GapList R) (next : LastLine) → old.last ≢ Ended
      → old.number < 2 ^ 64 → ReadsNext unread failures old mid next
      → lines_left next mid.number < lines_left old.last old.number
  less_lines _ _ Unread _ _ r = absurd r
  less_lines old mid Ended more few r = some_left _ _ more few
    where
      some_left : (last : LastLine) (n : ℕ) → last ≢ Ended → n < 2 ^ 64 → 0 < lines_left last n
      some_left Unread n more few = omega arith
      some_left Ended n more _ = absurd (more refl)
      some_left (Held l) n more few = omega arith
  less_lines old mid (Held l) more few r = one_less _ _ _ more few r.2
    where
      one_less : (last : LastLine) (n m : ℕ) → last ≢ Ended → n < 2 ^ 64 → m ≡ n + 1
          → 2 ^ 64 - m < lines_left last n
      one_less Unread n m more few e = omega arith
      one_less Ended n m more _ e = absurd (more refl)
      one_less (Held l) n m more few e = omega arith

  pub stands_new : (s : R) → Stands unread failures
      (record { source = s; number = 0; object = None; last = Unread })
      (record { source = s; number = 0; object = None; last = Unread }) []
  stands_new s = record {
    read = Consumes-nil _;
    in_order = none_in_order;
    listed = tt;
    number_is = refl;
    fails = refl;
    unread_yet = λ e. refl;
    ended = λ e. absurd cc;
    knows = knows_nothing;
  }

  module _ (start old mid : GapList R) (passed : List ListedLine) (more : old.last ≢ Ended)
      (s : Stands unread failures start old passed) where
    abbrev L : List ListedLine
    L = passed ++ line_of old.last

    last_is : last_of None L ≡ before_of old.last
    last_is = last_before _ _ more s.unread_yet

    pub stands_more : (new : GapList R) (next : LastLine) → ReadsNext unread failures old mid next →
        failures mid.source ≡ failures old.source → new.source ≡ mid.source → new.number ≡
        mid.number → new.last ≡ next → new.object ≡ after_last old.object old.last → Stands unread
        failures start new L
    stands_more _ Unread r f _ _ _ _ = absurd r
    stands_more new Ended r f source number last object =
        let none = append-nil L in
        let now = ap (λ x. L ++ line_of x) last ∙ none in
        record {
          read = subst (λ x. Consumes (unread start.source) (unread x)
              (flat_map text_of (L ++ line_of new.last))) (sym source) (subst
              (λ x. Consumes (unread start.source) (unread mid.source) x)
              (append-nil (flat_map text_of L) ∙ ap (flat_map text_of) (sym now))
              (Consumes-trans _ _ _ _ [] s.read r.1));
          in_order = subst (λ x. AreInOrder None x) (sym now) s.in_order;
          listed = subst (AllByRecursion IsListed) (sym now) s.listed;
          number_is = number ∙ r.2 ∙ s.number_is ∙ ap length (sym now);
          fails = ap failures source ∙ f ∙ s.fails;
          unread_yet = λ e. absurd cc;
          ended = λ e. rest_of _ _ _ _ _ s.read r.0 (λ y n. record {
            text = ap (λ x. flat_map text_of L ++ x) n ∙ append-nil (flat_map text_of L);
            in_order = s.in_order;
            listed = s.listed;
          });
          knows = subst (λ x. Knows L x) (sym object) (knows_last _ _ _ s.in_order s.knows);
        }
    stands_more new (Held l) r f source number last object =
        let now = ap (λ x. L ++ line_of x) last in
        record {
          read = subst (λ x. Consumes (unread start.source) (unread x) (flat_map text_of (L ++ line_of new.last)))
              (sym source)
              (subst (λ x. Consumes (unread start.source) (unread mid.source) x)
              (text_more l ∙ ap (flat_map text_of) (sym now))
              (Consumes-trans _ _ _
              _ _ s.read r.1));
          in_order = subst (λ x. AreInOrder None x) (sym now)
              (in_order_more _ L l s.in_order (subst (λ p. MayCome p l) (sym last_is) r.0));
          listed = subst (AllByRecursion IsListed) (sym now)
              (all_append _ L _ s.listed (r.3, tt));
          number_is = number ∙ r.2 ∙ ap (λ n. n + 1) s.number_is ∙ sym (length-append L (l ∷ []))
              ∙ ap length (sym now);
          fails = ap failures source ∙ f ∙ s.fails;
          unread_yet = λ e. absurd cc;
          ended = λ e. absurd cc;
          knows = subst (λ x. Knows L x) (sym object)
              (knows_last _ _ _ s.in_order s.knows);
        } where
          text_more : (l : ListedLine)
              → flat_map text_of L ++ text_of l ≡ flat_map text_of (L ++ l ∷ [])
          text_more l =
              ap (λ x. flat_map text_of L ++ x) (sym (append-nil (text_of l)))
              ∙ sym (flat_map-append _ L _)

    -- a line that is none
    bad : (y : List ℕ) (number : ℕ) → IsBadNext (before_of old.last) old.number y number
        → IsBadLine (flat_map text_of L ++ y) number
    bad y _ (other_next words rest is one none n) = other L words rest
        (record { text = cc; in_order = s.in_order; number_is = cc }) one
        (λ l i m. none l i (rw (← last_is) m))
    bad y _ (no_end_next none n) = no_end L y
        (record { text = refl; in_order = s.in_order; number_is = cc }) none
    bad y number (too_many_next read n) = too_many L y
        (record { text = refl; in_order = s.in_order; number_is = omega arith }) n

    pub stops_after : (new : GapList R) (fault : GapListFault) → NoNext unread failures old mid
        fault → new.source ≡ mid.source → StopsAfter unread failures start new fault
    stops_after _ faults.Read r source = ap failures source ∙ r ∙ ap (λ n. n + 1) s.fails
    stops_after _ (faults.Line number) r source =
        (rest_of _ _ _ _ _ s.read r.0 (λ y h. bad y _ h), cc)

-- what holds of the fault that is told
pub told : {A E : Type 0} (P : E → Type 0) (r : Result A E) {y : E}
    → (x : E) × (r ≡ Err x) × (x ≡ y) → P y → IfErr r P
told P r e p = rw (e.1 ∙ ap Err e.2) p

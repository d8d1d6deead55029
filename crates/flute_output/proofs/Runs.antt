-- How a run goes on, and what stays true of each of its moments.
use Rattle.std.proofs.Common.{◌≡◌, ◌≢◌, ◌++◌, ℕ, List, [], ◌∷◌, refl, sym, ap, ◌∙◌, subst, append_assoc, take, drop, ◌+◌, ◌-◌, ◌≤◌, arith, length, length-drop, take_all, Bool, true, Result, Ok, Err, OnErr, OnOk, is_ok, Option, Some, None, IfSome, option_map}
use Rattle.std.proofs.lemmas.Bool.{false≢true}
use Rattle.std.proofs.Math.Seq.{take-add}
use Rattle.std.proofs.lemmas.List.Elements.{All-append, All-weaker, All-nil, All-cons}
use Rattle.flute_calls.specs.Disks.{Disk, Held, HasHad, Touches, Creates, Grows, Spoils, Syncs, Unlinks, MakesFolder, OnlyTouches}
use Rattle.flute_calls.specs.Moments.{Run, Always, Does, Passes, IsSame}
use Rattle.flute_output.specs.DiskWrites.{Extends, Keeps, OnlyNames}

pub always-here : (P : Disk → Type 0) (a : Run) → P a.now → Always P a a
always-here P a p = record { added = []; past = refl; each = All-nil P; here = p }

-- what holds at each moment up to b, and what does from b on
pub always-then : (P Q : Disk → Type 0) (a b c : Run) → Always P a b → Always Q b c
    → ((d : Disk) → Q d → P d) → Always P a c
always-then P Q a b c first next weaker = record {
  added = next.added ++ first.added;
  past = next.past ∙ ap (λ l. next.added ++ l) first.past
      ∙ sym (append_assoc next.added first.added a.past);
  each = All-append P _ _ (All-weaker Q P weaker _ next.each) first.each;
  here = weaker _ next.here;
}

pub always-weaker : (P Q : Disk → Type 0) (a b : Run) → Always Q a b
    → ((d : Disk) → Q d → P d) → Always P a b
always-weaker P Q a b so weaker = record {
  added = so.added;
  past = so.past;
  each = All-weaker Q P weaker _ so.each;
  here = weaker _ so.here;
}

-- one call
pub always-does : (P : Disk → Type 0) (R : Disk → Disk → Type 0) (a b : Run) → P a.now
    → Does R a b → (R a.now b.now → P b.now) → Always P a b
always-does P R a b start does here = record {
  added = a.now ∷ [];
  past = does.past;
  each = All-cons P _ [] start (All-nil P);
  here = here does.made;
}

pub on_ok_with : {T E : Type 0} (r : Result T E) (P Q : Type 0) → OnOk r P → (P → Q) → OnOk r Q
on_ok_with (Ok x) P Q p f = f p
on_ok_with (Err e) P Q p f = tt

pub on_err_with : {T E : Type 0} (r : Result T E) (P Q : Type 0) → OnErr r P → (P → Q) → OnErr r Q
on_err_with (Ok x) P Q p f = tt
on_err_with (Err e) P Q p f = f p

-- what follows from either end of a call
pub either_end : {T E : Type 0} (r : Result T E) (P Q R : Type 0) → OnOk r P → OnErr r Q
    → (P → R) → (Q → R) → R
either_end (Ok x) P Q R p q f h = f p
either_end (Err e) P Q R p q f h = h q

pub only-refl : (b : List ℕ) (d : Disk) → OnlyTouches b d d
only-refl b d = record { elsewhere = λ other not. record { entry = refl; files = λ k had. refl } }

pub only-trans : (b : List ℕ) (x y z : Disk) → OnlyTouches b x y → OnlyTouches b y z
    → OnlyTouches b x z
only-trans b x y z xy yz = record {
  elsewhere = λ other not.
      let one = xy.elsewhere other not in
      let two = yz.elsewhere other not in
      record {
        entry = two.entry ∙ one.entry;
        files = λ k had. two.files k (subst (λ e. HasHad e k) (sym one.entry) had) ∙ one.files k had;
      };
}

-- each name but this one is as before, at each moment
abbrev pub Stays : List ℕ → Run → Run → Type 0
Stays b a c = Always (OnlyTouches b a.now) a c

pub stays-same : (b : List ℕ) (a c : Run) → c ≡ a → Stays b a c
stays-same b a c same = subst (λ r. Stays b a r) (sym same) (always-here _ a (only-refl b a.now))

pub stays-then : (b : List ℕ) (a c e : Run) → Stays b a c → Stays b c e → Stays b a e
stays-then b a c e ac ce = always-then (OnlyTouches b a.now) (OnlyTouches b c.now) a c e ac ce
    (λ d so. only-trans b _ _ _ ac.here so)

-- after calls that did nothing
pub stays-later : (b : List ℕ) (a c e : Run) → c ≡ a → Stays b c e → Stays b a e
stays-later b a c e same so = subst (λ r. Stays b r e) same so

pub stays-does : (b : List ℕ) (R : Disk → Disk → Type 0) (a c : Run) → Does R a c
    → (R a.now c.now → OnlyTouches b a.now c.now) → Stays b a c
stays-does b R a c does so = always-does (OnlyTouches b a.now) R a c (only-refl b a.now) does so

pub stays-failed : (b : List ℕ) (a c : Run) → Passes IsSame IsSame a c → Stays b a c
stays-failed b a c so = always-weaker _ _ a c so.always
    (λ d same. subst (λ x. OnlyTouches b a.now x) (sym same) (only-refl b a.now))

pub only-creates : (b : List ℕ) (k : ℕ) (x y : Disk) → Creates b k x y → OnlyTouches b x y
only-creates b k x y so = record {
  elsewhere = λ other not. record {
    entry = so.elsewhere other not;
    files = λ j had. so.others j (λ e. so.fresh other (subst (λ i. HasHad (x.names other) i) e had));
  };
}

pub only-unlinks : (b : List ℕ) (x y : Disk) → Unlinks b x y → OnlyTouches b x y
only-unlinks b x y so = record {
  elsewhere = λ other not. record {
    entry = so.elsewhere other not;
    files = λ j had. so.files j;
  };
}

pub only-touches : (b : List ℕ) (k : ℕ) (x y : Disk)
    → ((other : List ℕ) → other ≢ b → HasHad (x.names other) k → ⊥) → Touches k x y
    → OnlyTouches b x y
only-touches b k x y apart so = record {
  elsewhere = λ other not. record {
    entry = so.names other;
    files = λ j had. so.others j (λ e. apart other not (subst (λ i. HasHad (x.names other) i) e had));
  };
}

pub stays-unlink : {T E : Type 0} (b : List ℕ) (r : Result T E) (a c : Run)
    → OnOk r (Does (Unlinks b) a c) → OnErr r (Passes IsSame IsSame a c) → Stays b a c
stays-unlink b r a c done failed = either_end r _ _ _ done failed
    (λ u. stays-does b (Unlinks b) a c u (only-unlinks b a.now c.now)) (stays-failed b a c)

pub touches-refl : (k : ℕ) (d : Disk) → Touches k d d
touches-refl k d = record { names = λ n. refl; others = λ j apart. refl }

pub touches-trans : (k : ℕ) (a b c : Disk) → Touches k a b → Touches k b c → Touches k a c
touches-trans k a b c ab bc = record {
  names = λ n. bc.names n ∙ ab.names n;
  others = λ j apart. bc.others j apart ∙ ab.others j apart;
}

-- a file that is touched once more
module _ (k : ℕ) (R S T : Disk → Disk → Type 0) where
  pub touched-more : (a b c : Run) → Passes (Touches k) R a b → Passes (Touches k) S b c
      → (R a.now b.now → Touches k a.now b.now)
      → (R a.now b.now → S b.now c.now → T a.now c.now)
      → Passes (Touches k) T a c
  touched-more a b c ab bc at_b both = record {
    made = both ab.made bc.made;
    always = always-then (Touches k a.now) (Touches k b.now) a b c ab.always bc.always
        (λ d t. touches-trans k _ _ _ (at_b ab.made) t);
  }

module _ (k : ℕ) (xs : List ℕ) where
  pub extends-more : (n m : ℕ) (a b c : Disk) → Extends k (take n xs) a b
      → Grows k (take m (drop n xs)) b c → Extends k (take (n + m) xs) a c
  extends-more n m a b c ab bc = record {
    bytes = ap (λ f. f.bytes) bc.file ∙ ap (λ l. l ++ take m (drop n xs)) ab.bytes
        ∙ append_assoc (a.files k).bytes (take n xs) (take m (drop n xs))
        ∙ ap (λ l. (a.files k).bytes ++ l) (sym (take-add n m xs));
    touches = touches-trans k _ _ _ ab.touches bc.touches;
  }

pub spoils-more : (k : ℕ) (more : List ℕ) (a b c : Disk) → Extends k more a b → Spoils k b c
    → Spoils k a c
spoils-more k more a b c ab bc = record {
  rest = more ++ bc.rest;
  bytes = bc.bytes ∙ ap (λ l. l ++ bc.rest) ab.bytes
      ∙ append_assoc (a.files k).bytes more bc.rest;
  touches = touches-trans k _ _ _ ab.touches bc.touches;
}

-- what is left after w bytes is all of the rest
pub rest-all : (w : ℕ) (xs : List ℕ) → take (length xs - w) (drop w xs) ≡ drop w xs
rest-all w xs = take_all _ _ (omega (arith, length-drop w xs))

pub on_err : {T E : Type 0} (r : Result T E) (P : Type 0) → P → OnErr r P
on_err (Ok x) P p = tt
on_err (Err e) P p = p

-- what a failure of one call means is so of another that fails with it
pub on_err_same : {T E F : Type 0} (r : Result T E) (s : Result T F) (P : Type 0)
    → is_ok r ≡ is_ok s → OnErr s P → OnErr r P
on_err_same (Ok x) s P e p = tt
on_err_same (Err x) (Ok y) P e p = absurd (false≢true e)
on_err_same (Err x) (Err y) P e p = p

-- so far this many of the bytes are in the file
pub record IsFilled (told : Bool) (k : ℕ) (bytes : List ℕ) (written : ℕ) (old new : Run) : Type 0
  where
    pub within : written ≤ length bytes
    pub runs : told ≡ true → Passes (Touches k) (Extends k (take written bytes)) old new

-- before calls that did nothing
pub stays-after : (b : List ℕ) (a c e : Run) → Stays b a c → e ≡ c → Stays b a e
stays-after b a c e so same = subst (λ r. Stays b a r) (sym same) so

abbrev settled : List ℕ → Held
settled bytes = record { bytes = bytes; on_disk = true }

keeps-more : (k : ℕ) (more : List ℕ) (a b c : Disk) → Extends k more a b → Syncs k b c
    → Keeps k more a c
keeps-more k more a b c ab bc = record {
  file = bc.file ∙ ap settled ab.bytes;
  touches = touches-trans k _ _ _ ab.touches bc.touches;
}

syncs-passes : (k : ℕ) (a b : Run) → Does (Syncs k) a b → Passes (Touches k) (Syncs k) a b
syncs-passes k a b does = record {
  made = does.made;
  always = always-does (Touches k a.now) (Syncs k) a b (touches-refl k a.now) does (λ s. s.touches);
}

-- a file that got its last bytes, and is then brought to the disk
module _ (more : List ℕ) (a b c : Run) where
  pub kept-then : (o m : Option ℕ) → m ≡ o → IfSome o (λ k. Passes (Touches k) (Extends k more) a b)
      → IfSome m (λ k. Does (Syncs k) b c) → IfSome o (λ k. Passes (Touches k) (Keeps k more) a c)
  kept-then None m same first next = tt
  kept-then (Some k) m same first next =
      let synced = subst (λ x. IfSome x (λ j. Does (Syncs j) b c)) same next in
      touched-more k _ _ _ a b c first (syncs-passes k b c synced) (λ r. r.touches)
      (λ r s. keeps-more k more _ _ _ r s)

-- bytes that are taken behind those that were
module _ (xs : List ℕ) (before now next : ℕ → List ℕ) where
  pub taken-more : (w n : ℕ) (o m : Option ℕ) → m ≡ o
      → IfSome o (λ k. now k ≡ before k ++ take w xs)
      → IfSome m (λ k. next k ≡ now k ++ take n (drop w xs))
      → IfSome o (λ k. next k ≡ before k ++ take (w + n) xs)
  taken-more w n None m same first more = tt
  taken-more w n (Some k) m same first more =
      subst (λ x. IfSome x (λ j. next j ≡ now j ++ take n (drop w xs))) same more
      ∙ ap (λ l. l ++ take n (drop w xs)) first
      ∙ append_assoc (before k) (take w xs) (take n (drop w xs))
      ∙ ap (λ l. before k ++ l) (sym (take-add w n xs))

-- a file that is not open
pub none_open : {F : Type 0} (number : F → ℕ) (file : Option F) (P : ℕ → Type 0) → file ≡ None
    → IfSome (option_map number file) P
none_open number file P e = subst (λ f. IfSome (option_map number f) P) (sym e) tt

-- each name but this one is as before, at each moment
abbrev pub NamesStay : List ℕ → Run → Run → Type 0
NamesStay b a c = Always (OnlyNames b a.now) a c

module _ (b : List ℕ) (a c : Run) where
  pub names_same : c ≡ a → NamesStay b a c
  names_same same =
      subst (λ r. NamesStay b a r) (sym same) (always-here _ a (λ other not. refl))

  pub names_then : (e : Run) → NamesStay b a c → NamesStay b c e → NamesStay b a e
  names_then e ac ce = always-then (OnlyNames b a.now) (OnlyNames b c.now) a c e ac ce
      (λ d so other not. so other not ∙ ac.here other not)

  pub names_failed : Passes IsSame IsSame a c → NamesStay b a c
  names_failed so = always-weaker _ _ a c so.always
      (λ d same other not. ap (λ x. x.names other) same)

  pub names_touched : (k : ℕ) (R : Disk → Disk → Type 0) → Passes (Touches k) R a c
      → NamesStay b a c
  names_touched k R so = always-weaker _ _ a c so.always (λ d t other not. t.names other)

  pub names_made : Does (MakesFolder b) a c → NamesStay b a c
  names_made does = always-does (OnlyNames b a.now) (MakesFolder b) a c (λ other not. refl) does
      (λ m. m.creates.elsewhere)

  pub names_create : {T E : Type 0} (r : Result T E) → OnOk r (Does (MakesFolder b) a c)
      → OnErr r (Passes IsSame IsSame a c) → NamesStay b a c
  names_create r made refused = either_end r _ _ _ made refused names_made names_failed

-- A list that is read line by line (specs/ListedLines: HasRead).
use Rattle.std.proofs.Common.{rules}
use Rattle.std.proofs.Common.{◌≡◌, ℕ, ◌+◌, ◌-◌, ◌^◌, List, [], ◌∷◌, ◌++◌, Option, Some}
use Rattle.std.proofs.Common.{None, arith, refl, append-nil, append_assoc}
use Rattle.std.proofs.Common.{length-append}
use Rattle.std.specs.Prelude.{IfSome, ⊤}
use Rattle.std.specs.Io.KnownBytes.{Consumes}
use Rattle.std.specs.List.{flat_map}
use Rattle.std.proofs.KnownBytes.{Consumes-nil, Consumes-trans}
use Rattle.std.proofs.lemmas.Grind.{flat_map-append}
use Rattle.flutejoin.specs.Lines.{line}
use Rattle.flutejoin.specs.ListedLines.{BeginsLine, HasLine, HasNoEnd, HasRead, HasBadLine}
use Rattle.flutejoin.specs.ListedLines.{IsOneLine, LinesTell, ListTells, no_end, nothing, too_many}

module _ {X : Type 0} (Tells : List ℕ → List X → Type 0) where
  tell_none : LinesTell Tells [] []
  unfolding LinesTell
  tell_none = refl

  tell_more : (lines : List (List ℕ)) (items : List X) (words : List ℕ) (here : List X)
      → LinesTell Tells lines items → IsOneLine words → Tells words here
      → LinesTell Tells (lines ++ words ∷ []) (items ++ here)
  unfolding LinesTell
  tell_more [] _ _ here told one tells = (here, [], one, tells, refl, cc (append-nil here))
  tell_more (l ∷ lines) _ words here (h, later, o, t, rest, e) one tells = (
    h,
    later ++ here,
    o,
    t,
    tell_more lines _ _ _ rest one tells,
    cc (append_assoc h later here),
  )

  text_more : (lines : List (List ℕ)) (words : List ℕ)
      → flat_map line (lines ++ words ∷ []) ≡ flat_map line lines ++ line words
  text_more lines words = search (rules, flat_map-append, line)

  pub read_nothing : (all : Option (List ℕ)) → HasRead Tells all all 1 []
  read_nothing all = record {
    bytes = [];
    taken = Consumes-nil _;
    begins = record { lines = []; text = refl; tell = tell_none; number_is = refl };
  }

  -- what is left of known bytes, with what was read before
  known : (all left : Option (List ℕ)) (bytes : List ℕ) (P Q : List ℕ → Type 0) → Consumes all left
      bytes → IfSome left P → ((rest : List ℕ) → P rest → Q (bytes ++ rest)) → IfSome all Q
  known None _ _ P Q _ h f = tt
  known (Some x) None _ P Q taken h f = absurd taken
  known (Some x) (Some y) _ P Q taken h f = rw taken (f y h)

  some_left : (left : Option (List ℕ)) → IfSome left (λ rest. ⊤)
  some_left None = tt
  some_left (Some rest) = tt

  module _ {all left : Option (List ℕ)} {number : ℕ} {items : List X}
      (r : HasRead Tells all left number items) where
    before : (rest : List ℕ) → BeginsLine Tells (r.bytes ++ rest) number items rest
    before rest = record {
      lines = r.begins.lines;
      text = cc (append-nil (flat_map line r.begins.lines));
      tell = r.begins.tell;
      number_is = r.begins.number_is;
    }

    -- a list that begins with what was read
    pub begins : IfSome all (λ bytes. (rest : List ℕ) × BeginsLine Tells bytes number items rest)
    begins = known _ _ _ _ _ r.taken (some_left _) (λ rest t. (rest, before _))

    pub read_more : (new : Option (List ℕ)) (words : List ℕ) (here : List X)
        → Consumes left new (line words) → IsOneLine words → Tells words here
        → HasRead Tells all new (number + 1) (items ++ here)
    read_more new words here taken one tells = record {
      bytes = r.bytes ++ line words;
      taken = Consumes-trans _ _ _ _ _ r.taken taken;
      begins = record {
        lines = r.begins.lines ++ words ∷ [];
        text = cc (append-nil (flat_map line r.begins.lines), text_more _ _, append-nil (flat_map line (r.begins.lines ++ words ∷ [])));
        tell = tell_more _ _ _ _ r.begins.tell one tells;
        number_is = omega (arith, length-append r.begins.lines (words ∷ []));
      };
    }

    pub read_all : IfSome left (λ rest. rest ≡ [])
        → IfSome all (λ bytes. ListTells Tells bytes items)
    read_all end = known _ _ _ _ _ r.taken end (λ rest none. record {
      lines = r.begins.lines;
      text = cc (append-nil r.bytes, append-nil (flat_map line r.begins.lines));
      tell = r.begins.tell;
    })

    pub has_line : (P : List ℕ → Type 0) (new : Option (List ℕ)) (words : List ℕ)
        → Consumes left new (line words) → IsOneLine words → P words
        → IfSome all (λ bytes. HasLine Tells P bytes number)
    has_line P new words taken one here = known _ _ _ _ _ (Consumes-trans _ _ _ _ _ r.taken taken)
        (some_left _) (λ rest t. record {
          items = items;
          words = words;
          rest = rest;
          begins = rw (append_assoc r.bytes (line words) rest) (before _);
          one_line = one;
          here = here;
        })

    module _ (TellsNothing : List ℕ → Type 0) where
      pub bad_line : (new : Option (List ℕ)) (words : List ℕ) → Consumes left new (line words)
          → IsOneLine words → TellsNothing words
          → IfSome all (λ bytes. HasBadLine Tells TellsNothing bytes number)
      bad_line new words taken one here =
          each _ _ (λ bytes h. nothing h)
          (has_line _ _ _ taken one here)
        where
          each : (o : Option (List ℕ)) (P : List ℕ → Type 0)
              → ((bytes : List ℕ) → P bytes → HasBadLine Tells TellsNothing bytes number)
              → IfSome o P → IfSome o (λ bytes. HasBadLine Tells TellsNothing bytes number)
          each None P f h = tt
          each (Some bytes) P f h = f bytes h

      pub without_end : IfSome left HasNoEnd
          → IfSome all (λ bytes. HasBadLine Tells TellsNothing bytes number)
      without_end h = known _ _ _ _ _ r.taken h (λ rest here. no_end
          (record { items = items; rest = rest; begins = before _; here = here }))

      pub beyond : number ≡ 2 ^ 64
          → IfSome all (λ bytes. HasBadLine Tells TellsNothing bytes (2 ^ 64 - 1))
      beyond last = known _ _ _ _ _ r.taken (some_left _)
          (λ rest t. too_many items rest (rw (← last) (before _)) refl)

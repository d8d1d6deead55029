-- A list of objects, read line by line (specs/KeyLists).
use Rattle.std.proofs.Common.{rules}
use Rattle.std.proofs.Common.{◌≡◌, ◌⊎◌, ℕ, ◌+◌, ◌-◌, ◌^◌, Bool, true, false, ◌||◌, List, [], ◌∷◌}
use Rattle.std.proofs.Common.{◌++◌, Option, Some, None, Err, inl, inr, refl, sym, ap, ◌∙◌}
use Rattle.std.specs.Prelude.{IfSome, cond}
use Rattle.std.specs.BTreeSet.{BTreeSet, IsEmpty, Updates}
use Rattle.std.specs.List.{list_any}
use Rattle.flute_journal.specs.declared.fault.ReadFault.TheVariants.{Read}
use Rattle.flute_parts.specs.Order.{key_cmp, same_key}
use Rattle.flute_parts.specs.declared.key.Key.{Key}
use Rattle.flutejoin.specs.NextWords.{GivesWords}
use Rattle.flutejoin.specs.KeyLists.{HasKeys, HoldsKeys, IsNoName, KeyListFails, LineNames, ListNames}
use Rattle.flutejoin.specs.ListedLines.{HasNoEnd, ListTells}
use Rattle.flutejoin.specs.Show.{FailsToRead}
use Rattle.flutejoin.specs.declared.lines.text.Text.{Text}
use Rattle.flutejoin.specs.declared.command_fault.CommandFault.{CommandFault}
use Rattle.flutejoin.specs.declared.command_fault.CommandFault.TheVariants.{Input, ListLine}
use Rattle.flutejoin.specs.declared.command_fault.CommandFault.TheVariants.{OutOfMemory}
use Rattle.flutejoin.proofs.lines_lemmas.ReadLines.{bad_line, beyond, read_all, read_more}
use Rattle.flutejoin.proofs.lines_lemmas.ReadLines.{read_nothing, without_end}

any_more : (f : Key → Bool) (keys : List Key) (key : Key)
    → list_any f (keys ++ key ∷ []) ≡ cond (f key) true (list_any f keys)
any_more f [] key = either _
  where
    either : (b : Bool) → (b || false) ≡ cond b true false
    either true = refl
    either false = refl
any_more f (k ∷ keys) key =
    first _ _ _ _ (any_more f keys _)
  where
    first : (a b x y : Bool) → x ≡ cond b true y → (a || x) ≡ cond b true (a || y)
    first true true x y e = refl
    first true false x y e = refl
    first false b x y e = e

pub none_held : (keys : BTreeSet Key) → IsEmpty keys → HasKeys keys []
none_held keys none = λ key. search rules

pub one_held : (old new : BTreeSet Key) (key : Key) (named : List Key) → HasKeys old named
    → Updates key_cmp old new key true → HasKeys new (named ++ key ∷ [])
one_held _ _ key named h u = λ k.
    u.0 k ∙ ap (cond (same_key key k) true) (h k) ∙ sym (any_more (λ one. same_key one k) named key)

pub same_held : (old new : BTreeSet Key) (named : List Key) → HasKeys old named → new ≡ old
    → HasKeys new (named ++ [])
same_held old new named h e = search rules

pub begun : (all : Option (List ℕ)) (keys : BTreeSet Key) → IsEmpty keys → HoldsKeys all all 1 keys
begun all keys none = record { named = []; read = read_nothing _ _; keys_are = none_held _ none }

abbrev ReadsNoKeys : Option (List ℕ) → CommandFault → Type 0
ReadsNoKeys all fault = (fault ≡ Input 2 Read) ⊎ IfSome all (λ bytes. KeyListFails bytes fault)

module _ {all left : Option (List ℕ)} {number : ℕ} {keys : BTreeSet Key}
    (h : HoldsKeys all left number keys) where
  pub more : (new : Option (List ℕ)) (words : List ℕ) (now : BTreeSet Key) → GivesWords left new
      (Some words) → ((named : List Key) → HasKeys keys named → (here : List Key) × LineNames words
      here × HasKeys now (named ++ here)) → HoldsKeys all new (number + 1) now
  more new words _ gave added =
      let a = added h.named h.keys_are in
      record {
        named = h.named ++ a.0;
        read = read_more _ h.read _ _ _ gave.1 gave.0 a.1;
        keys_are = a.2;
      }

  pub all_named : (new : Option (List ℕ)) → GivesWords left new None
      → IfSome all (λ bytes. ListNames bytes keys)
  all_named _ gave = each _ (read_all _ h.read gave.0)
    where
      each : (o : Option (List ℕ)) → IfSome o (λ bytes. ListTells LineNames bytes h.named)
          → IfSome o (λ bytes. ListNames bytes keys)
      each None t = tt
      each (Some bytes) t = record { named = h.named; lines = t; keys_are = h.keys_are }

  pub no_line : (fault : CommandFault) → (fault ≡ Input 2 Read)
      ⊎ ((fault ≡ ListLine number) × IfSome left HasNoEnd) → ReadsNoKeys all fault
  no_line _ (inl read) = inl read
  no_line _ (inr (is, end)) = inr (rw is (without_end _ h.read _ end))

  pub not_named : (new : Option (List ℕ)) (words : List ℕ) (fault : CommandFault) → GivesWords left
      new (Some words) → (fault ≡ OutOfMemory) ⊎ ((fault ≡ ListLine number) × IsNoName words) →
      ReadsNoKeys all fault
  not_named new words fault gave (inl short) = inr (rw short (search rules))
  not_named new words _ gave (inr (is, none)) = inr (rw is (bad_line _ h.read _ _ _ gave.1 gave.0 none))

  pub too_many : number ≡ 2 ^ 64 → ReadsNoKeys all (ListLine (2 ^ 64 - 1))
  too_many last = inr (beyond _ h.read _ last)

-- how often the source failed
pub no_line_fails : (old mid new : ℕ) (fault : CommandFault) → mid ≡ old → FailsToRead
    {T = Option Text} mid new (Err fault) → FailsToRead {T = BTreeSet Key} old new (Err fault)
no_line_fails old mid new fault same f = search rules

pub quiet : (old new number : ℕ) (words : List ℕ) (fault : CommandFault) → new ≡ old
    → (fault ≡ OutOfMemory) ⊎ ((fault ≡ ListLine number) × IsNoName words)
    → FailsToRead {T = BTreeSet Key} old new (Err fault)
quiet old new number words fault same (inl e) = search rules
quiet old new number words fault same (inr (e, none)) = search rules

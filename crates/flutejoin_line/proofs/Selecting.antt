-- selection: what the options of a command select, and their faults (specs/Selecting).
use Rattle.std.proofs.Common.{◌≡◌, ◌<◌, ℕ, ◌+◌, ◌^◌, ◌∙◌, ap₂, nat_lt, lit<, Bor, true, false, List, [], length, arith}
use Rattle.std.proofs.Common.{Option, Some, None, codes, refl, sym, ap, inl, inr}
use Rattle.std.specs.Prelude.{is_some, unwrap_or}
use Rattle.std.specs.List.{after_first, before_first, position_or_len}
use Rattle.std.proofs.Math.Bool.{and-false}
use Rattle.std.proofs.lemmas.Bool.{cases_Bool, lt-ltb}
use Rattle.std.proofs.lemmas.List.{drop_all}
use Rattle.std.proofs.lemmas.Str.Pattern.{IsSplitOnceResult, split_once_first}
use Rattle.clap.specs.Walk.{Row, first_of}
use Rattle.flute_parts.specs.declared.symbol_id.SymbolId.{SymbolId}
use Rattle.flutejoin_line.specs.Options.{HasSessions, IsBadNumber, IsInstance, IsSourceIf, IsToi}
use Rattle.flutejoin_line.specs.Options.{first_wrong, has_number, is_below, number_in}
use Rattle.flutejoin_line.specs.Selecting.{IsSelectionFault, IsSymbolIf, has_symbol, is_slash}
use Rattle.flutejoin_line.specs.Selecting.{is_symbol_or_none, object_of, object_options, symbol_by}
use Rattle.flutejoin_line.specs.Selecting.{symbol_in}
use Rattle.flutejoin_line.specs.Selecting.IsWrong.{of_object, of_symbol}
use Rattle.flutejoin.specs.declared.command_fault.CommandFault.{CommandFault}
use Rattle.flutejoin.specs.declared.command_fault.CommandFault.TheVariants.{BadKey, BadNumber}
use Rattle.flutejoin_line.proofs.Options.{number_there}

-- the fault names the first wrong number of an object
abbrev pub IsNumbersFault : List Row → CommandFault → Type 0
IsNumbersFault rows (BadNumber name) = first_wrong (object_options rows) rows ≡ Some name.now
IsNumbersFault rows _ = ⊥

module _ (rows : List Row) where
  has_toi : (toi : Option ℕ) → IsToi rows toi → is_some (first_of (codes "toi") rows) ≡ true
      → has_number (codes "toi") (2 ^ 112) rows ≡ true
  has_toi None e t = absurd (let p = rw e at t in cc)
  has_toi (Some toi) is t = number_there (codes "toi") (2 ^ 112) rows toi is

  has_instance : (instance : Option ℕ) → IsInstance rows instance
      → is_some (first_of (codes "fdt") rows) ≡ true
      → has_number (codes "fdt") (2 ^ 20) rows ≡ true
  has_instance None e t = absurd (let p = rw e at t in cc)
  has_instance (Some instance) is t = number_there (codes "fdt") (2 ^ 20) rows instance is

  pub wrong_toi : (fault : CommandFault) → IsBadNumber (codes "toi") fault
      → is_some (first_of (codes "toi") rows) ≡ true
      → has_number (codes "toi") (2 ^ 112) rows ≡ false → IsNumbersFault rows fault
  wrong_toi (BadNumber name) is t wrong = rw is (simp (t, wrong))
  wrong_toi _ is t wrong = absurd is

  pub wrong_instance : (toi : Option ℕ) → IsToi rows toi → (fault : CommandFault)
      → IsBadNumber (codes "fdt") fault → is_some (first_of (codes "fdt") rows) ≡ true
      → has_number (codes "fdt") (2 ^ 20) rows ≡ false → IsNumbersFault rows fault
  wrong_instance toi are (BadNumber name) is u wrong =
      elim (cases_Bool (is_some (first_of (codes "toi") rows))) [
        | inl t ↦ let n = has_toi toi are t in rw is (simp (t, u, n, wrong))
        | inr t ↦ rw is (simp (t, u, wrong))
      ]
  wrong_instance toi are _ is u wrong = absurd is

  -- numbers, a symbol and an object that are right
  pub right_numbers : (toi instance : Option ℕ) → IsToi rows toi → IsInstance rows instance
      → first_wrong (object_options rows) rows ≡ None
  right_numbers toi instance is and = elim (cases_Bool (is_some (first_of (codes "toi") rows))) [
    | inl t ↦ elim (cases_Bool (is_some (first_of (codes "fdt") rows))) [
      | inl u ↦
          let n = has_toi toi is t in
          let i = has_instance instance and u in
          simp (t, u, n, i)
      | inr u ↦ let n = has_toi toi is t in simp (t, u, n)
    ]
    | inr t ↦ elim (cases_Bool (is_some (first_of (codes "fdt") rows))) [
      | inl u ↦ let i = has_instance instance and u in simp (t, u, i)
      | inr u ↦ simp (t, u)
    ]
  ]

  right_symbol : (symbol : Option SymbolId) → IsSymbolIf rows symbol → has_symbol rows ≡ true
  right_symbol None e = rw e refl
  right_symbol (Some id) h = go (first_of (codes "symbol") rows) h.0 h.1
    where
      go : (o : Option (List ℕ)) → is_some o ≡ true → symbol_in (unwrap_or o []) ≡ Some id
          → is_symbol_or_none o ≡ true
      go None t e = absurd cc
      go (Some text) t e = ap is_some e

  module _ (tsis : List ℕ) (sessions : HasSessions rows tsis) where
    -- the fault of a wrong object, symbol or key
    pub wrong_object : (fault : CommandFault) → IsNumbersFault rows fault
        → IsSelectionFault rows fault
    wrong_object (BadNumber name) wrong = of_object tsis sessions wrong
    wrong_object _ wrong = absurd wrong

    module _ (toi instance : Option ℕ) (is_toi : IsToi rows toi)
        (is_instance : IsInstance rows instance) where
      pub wrong_symbol : (fault : CommandFault) → IsBadNumber (codes "symbol") fault
          → has_symbol rows ≡ false → IsSelectionFault rows fault
      wrong_symbol (BadNumber name) is none =
          of_symbol tsis sessions (right_numbers toi instance is_toi is_instance) is none
      wrong_symbol _ is none = absurd is

      pub wrong_key : (symbol : Option SymbolId) (sender : Option ℕ) → IsSymbolIf rows symbol
          → IsSourceIf rows sender → object_of toi instance ≡ None
          → IsSelectionFault rows BadKey
      wrong_key symbol sender is from none = (
        record {
          tsis = tsis;
          sessions = sessions;
          object = right_numbers toi instance is_toi is_instance;
          symbol = right_symbol symbol is;
        },
        (sender, from),
        record {
          toi = toi;
          instance = instance;
          is_toi = is_toi;
          is_instance = is_instance;
          named = none;
        },
      )

-- ---- the word of a symbol

-- a number that is not below 2^16 names none
no_block : (sbn esi : Option ℕ) → is_below (2 ^ 16) sbn ≡ false → symbol_by sbn esi ≡ None
no_block None esi e = refl
no_block (Some n) None e = refl
no_block (Some n) (Some m) e = rw e refl

no_second : (sbn esi : Option ℕ) → is_below (2 ^ 16) esi ≡ false
    → symbol_by sbn esi ≡ None
no_second None esi e = refl
no_second (Some n) None e = refl
no_second (Some n) (Some m) e = rw (e, and-false (nat_lt n (2 ^ 16))) refl

no_digits : number_in [] ≡ None
unfolding number_in
no_digits = refl

module _ (rows : List Row) (text : List ℕ)
    (given : Some text ≡ first_of (codes "symbol") rows) where
  named_none : symbol_in text ≡ None → has_symbol rows ≡ false
  named_none none = rw (← given) (ap is_some none)

  pub no_slash : IsSplitOnceResult 47 text None → has_symbol rows ≡ false
  unfolding symbol_in
  no_slash split =
      let none : position_or_len is_slash text ≡ length text = split_once_first 47 text None split
      (lit< tt) in
      let all : after_first is_slash text ≡ [] = drop_all (position_or_len is_slash text + 1) text
      (omega arith) in
      named_none (no_second (number_in (before_first is_slash text)) _
      (ap (is_below (2 ^ 16)) (ap number_in all ∙ no_digits)))

  module _ (block symbol : Bor (List ℕ))
      (split : IsSplitOnceResult 47 text (Some (block, symbol))) where
    parted : symbol_in text ≡ symbol_by (number_in block.now) (number_in symbol.now)
    unfolding symbol_in
    parted =
        let parts = split_once_first 47 text (Some (block, symbol)) split (lit< tt) in
        sym (ap₂ (λ x y. symbol_by (number_in x) (number_in y)) parts.1 parts.2)

    pub wrong_block : is_below (2 ^ 16) (number_in block.now) ≡ false
        → has_symbol rows ≡ false
    wrong_block e = named_none (parted ∙ no_block (number_in block.now) (number_in symbol.now) e)

    pub wrong_id : is_below (2 ^ 16) (number_in symbol.now) ≡ false
        → has_symbol rows ≡ false
    wrong_id e = named_none (parted ∙ no_second (number_in block.now) (number_in symbol.now) e)

    pub named : {sbn esi : ℕ} → (number_in block.now ≡ Some sbn) × (sbn < 2 ^ 16)
        → (number_in symbol.now ≡ Some esi) × (esi < 2 ^ 16)
        → IsSymbolIf rows (Some (record { sbn = sbn; esi = esi }))
    named {sbn} {esi} is and = rw (← given) (
      refl,
      parted ∙ ap₂ symbol_by is.0 and.0
          ∙ rw (lt-ltb sbn (2 ^ 16) is.1, lt-ltb esi (2 ^ 16) and.1) refl,
    )

-- An object whose datagrams were all taken is whole (specs/Sent).
use Rattle.std.proofs.Common.{rules}
use Rattle.std.proofs.Common.{◌≡◌, ℕ, zero, suc, inl, inr, List, [], ◌∷◌, ◌++◌, length, map, take}
use Rattle.std.proofs.Common.{true, cond, Bool, Some, refl, sym, ap, subst, ◌∙◌, arith}
use Rattle.std.proofs.lemmas.List.{Folds.{flat_map-map}, take_all}
use Rattle.flute_parts.proofs.Public.{fact_at-one}
use Rattle.flute_store.specs.Sent.{facts_at_key}
use Rattle.flute_wire.specs.{Writing.{IsWritten}, Carousel.{symbols_of, packets_of, facts_sent}}
use Rattle.flute_wire.proofs.Public.{cut-fit, cut-ids, cut-joined, cut-one, facts_are_sent, IsSent}
use Rattle.flute_wire.proofs.Public.{told-iff}
use Rattle.flute_store.proofs.Common
use Common.{flat_map, Contains, filter, AllZip, cases_Bool, Information, IsValid, same_key}
use Common.{key_itself, address, info_address, symbol_address, fact_at, SameMembers, fits}
use Common.{SymbolId, SymbolPart, Address, Key, Fact, Info, Symbol, Member, Member-from}
use Common.{Contains-from, facts, Whole, value_bytes, object}

-- the facts that pass a test are those of the list that do
kept : (p : Fact → Bool) (F : List Fact) (f : Fact) → Member f (filter p F) → Member f F
unfolding Member
kept p [] f m = absurd m
kept p (g ∷ F) f m = elim (cases_Bool (p g)) [
  | inl passed ↦
      elim (subst (λ b. Member f (cond b (g ∷ filter p F) (filter p F))) passed m)
      [ inl e ↦ inl e | inr more ↦ inr (kept p F f more) ]
  | inr no' ↦ inr (kept p F f (subst (λ b. Member f (cond b (g ∷ filter p F) (filter p F))) no' m))
]

keeps : (p : Fact → Bool) (F : List Fact) (f : Fact) → p f ≡ true → Member f F
    → Member f (filter p F)
unfolding Member
keeps p [] f passed m = absurd m
keeps p (g ∷ F) f passed (inl e) = search rules
keeps p (g ∷ F) f passed (inr m) = elim (cases_Bool _) [
  | inl here ↦ subst (λ b. Member f (cond b (g ∷ filter p F) (filter p F))) (sym here)
      (inr (keeps p F f passed m))
  | inr gone ↦ rw gone (keeps p F f passed m)
]

-- what is known of the object is what was sent
record Holds (F : List Fact) (key : Key) (info : Information) (content : List ℕ) : Type 0 where
  told : (f : Fact) → IsSent key info (symbols_of info content) f → Contains F f
  only : (f : Fact) → Contains F f → (address f).key ≡ key
      → IsSent key info (symbols_of info content) f

holds : (F : List Fact) (key : Key) (info : Information) (content : List ℕ) → IsValid info
    → SameMembers (facts_at_key key F) (facts_sent key info content) → Holds F key info content
holds F key info content v same =
    let test : Fact → Bool = λ f. same_key (address f).key key in
    record {
      told = λ f sent. Contains-from F f
          (kept test F f (Member-from _ f ((same f).1 ((told-iff key info content f v).1 sent))));
      only = λ f c at'. (told-iff key info content f v).0 ((same f).0 (Contains-from _ f
          (keeps _ F f (ap (λ k. same_key k key) at' ∙ key_itself key) (Member-from F f c))));
    }

module _ (F : List Fact) (key : Key) (info : Information) (content : List ℕ)
    (h : Holds F key info content) where
  info_there : fact_at F (info_address key) ≡ Some (Info key info)
  info_there = fact_at-one F _ _ (h.told _ (inl refl)) refl (search rules)
    where
      only_info : (g : Fact) → IsSent key info (symbols_of info content) g
          → address g ≡ info_address key → g ≡ Info key info
      only_info g (inl e) at' = e
      only_info g (inr (s, c, e)) at' =
          let a = ap (λ f. (address f).part) (sym e) ∙ ap (λ (a : Address). a.part) at' in cc

  symbol_there : (s : SymbolId × List ℕ) → Contains (symbols_of info content) s
      → fact_at F (symbol_address key s.0) ≡ Some (Symbol key s.0 s.1)
  symbol_there s there = fact_at-one F _ _ (search rules) refl
      (λ g c at'. only_symbol g (search rules) at')
    where
      only_symbol : (g : Fact) → IsSent key info (symbols_of info content) g
          → address g ≡ symbol_address key s.0 → g ≡ Symbol key s.0 s.1
      only_symbol g (inl e) at' =
          let a = ap (λ f. (address f).part) (sym e) ∙ ap (λ (a : Address). a.part) at' in cc
      only_symbol g (inr (t, c, e)) at' =
          let same : SymbolPart t.0 ≡ SymbolPart s.0 =
          ap (λ (a : Address). a.part) (ap address (sym e) ∙ at') in
          let id : t.0 ≡ s.0 = cc in
          e
          ∙ ap (λ (x : SymbolId × List ℕ). Symbol key x.0 x.1) (cut-one info content t s c there id)

  -- each symbol of the partition is one of those that were sent
  sent_as : (ss : List (SymbolId × List ℕ)) (id : SymbolId) → Contains (map (λ s. s.0) ss) id
      → (s : SymbolId × List ℕ) × Contains ss s × (s.0 ≡ id)
  sent_as [] id c = absurd (omega (arith, c.1))
  sent_as (s ∷ ss) id (zero, l, e) = search rules
  sent_as (s ∷ ss) id (suc k, l, e) =
      let t = sent_as ss _ (k, omega (arith, l), e) in
      (t.0, (suc _, omega (arith, t.1.1), t.1.2), t.2)

  is_whole : IsValid info → length content ≡ info.transfer_length → Whole F key info
  is_whole v whole = record {
    information = info_there;
    each = λ id c. let s = sent_as _ _
        (subst (λ xs. Contains xs id) (sym (cut-ids _ content)) c) in record {
          bytes = s.0.1;
          value = subst
              (λ (x : SymbolId). fact_at F (symbol_address key x) ≡ Some (Symbol key x s.0.1))
              s.2 (symbol_there _ s.1);
          fitting = subst (λ (x : SymbolId). fits info x (length s.0.1) ≡ true) s.2
              (cut-fit _ _ _ v whole s.1);
        };
  }

  agree : (ss : List (SymbolId × List ℕ)) → ((s : SymbolId × List ℕ) → Contains ss s → fact_at F
      (symbol_address key s.0) ≡ Some (Symbol key s.0 s.1)) → flat_map
      (λ s. value_bytes (fact_at F (symbol_address key s.0))) ss ≡ flat_map (λ s. s.1) ss
  agree [] each = refl
  agree (s ∷ ss) each =
      let one = ap value_bytes (each s (0, omega arith, refl)) in
      let rest = agree ss (λ t c. each t (suc _, omega (arith, c.1), c.2)) in
      λ i. one i ++ rest i

  is_object : IsValid info → length content ≡ info.transfer_length → object F key info ≡ content
  unfolding object
  is_object v whole =
      let by_id = λ (id : SymbolId). value_bytes (fact_at F _) in
      let joined = ap (flat_map _) (sym (cut-ids _ _)) ∙ flat_map-map by_id (λ s. s.0)
      (symbols_of _ _) ∙ agree _ symbol_there ∙ cut-joined _ _ v whole in ap (take _) joined ∙
      take_all _ _ (omega (arith, whole))

pub datagrams_give_the_object : (F : List Fact) (key : Key) {info : Information} (content : List ℕ)
    (datagrams : List (List ℕ)) → IsValid info → length content ≡ info.transfer_length → AllZip
    IsWritten datagrams (packets_of key info content) → SameMembers (facts_at_key key F)
    (flat_map (facts key.session.sender) datagrams) → Whole F key info ×
    (object F key info ≡ content)
datagrams_give_the_object F key {info = info} content datagrams v whole written same =
    let sent = subst (SameMembers (facts_at_key _ F)) (facts_are_sent key _ _ _ written) same in
    let h = holds F _ _ _ v sent in
    (is_whole F _ _ _ h v whole, is_object F _ _ _ h v whole)

-- What all facts show of an object, of which a scan passed some (specs/Shown, specs/Scan).
use Rattle.std.proofs.Common.{rules}
use Rattle.std.proofs.Common.{◌≡◌, List, [], ◌∷◌, ◌++◌, Some, None, ap, ◌∙◌}
use Rattle.std.proofs.Common.{arith}
use Rattle.flute_parts.proofs.Public.{rising_tells}
use Rattle.flute_store.proofs.{KeyLists.{first_is}, ToldObjects.{want-symbol}}
use Rattle.flute_store.proofs.Shown.{shown-append, shown-none, shown-known, shown-ordered, shown-at}
use Rattle.flute_store.proofs.Shown.{equal_keys}
use Rattle.flute_store.proofs.Common
use Common.{filter_map, option_map, AllByRecursion, Less, ordering_then}
use Common.{Contains-append_right, value_at, IsOrdered, Information, info_address, address, fact_at}
use Common.{IsRising, StandAfter, symbol_id_cmp, address_cmp, key_cmp, part_cmp, symbol_id, ids}
use Common.{Key, Part, InfoPart, Fact, Info, Gap, want, wants, gaps, wanted, with_reason}
use Common.{walk_of, gaps_left, shown, IsNotWhole, Scanned, coming_fact, ComeNext, Follows, Next}
use Common.{announced, ScanState, ComesAs, Walks, Scans}

not-less : (a : Key) (p : Part) (key : Key) → a ≡ key
    → ordering_then (key_cmp a key) (part_cmp p InfoPart) ≡ Less → ⊥
not-less a p key e h = grind (arith, equal_keys key)

stands-before : (F G : List Fact) (g : Fact) (f : Fact) → StandAfter (address f) (F ++ (g ∷ G))
    → address_cmp (address f) (address g) ≡ Less
stands-before [] G g f s = s.0
stands-before (x ∷ F) G g f s = stands-before F G g f s.1

none-before : (key : Key) (info : Information) (F G : List Fact)
    → IsRising (F ++ (Info key info ∷ G)) → AllByRecursion (λ f. (address f).key ≡ key → ⊥) F
none-before key info [] G r = tt
none-before key info (f ∷ F) G r =
    ((λ e. not-less _ (address f).part _ e (stands-before F G _ f r.0)), none-before _ _ F G r.1)

-- what a scan passed is a part of the facts F, which rise, without a gap: the information first
pub record Among (s : Scanned) (F before rest : List Fact) : Type 0 where
  pub symbols : List Fact
  pub begins : s.facts ≡ Info s.key s.info ∷ symbols
  pub all : F ≡ before ++ (s.facts ++ rest)
  pub rising : IsRising F

module _ {s : Scanned} {F before rest : List Fact} (a : Among s F before rest) where
  all-again : F ≡ before ++ (Info s.key s.info ∷ (a.symbols ++ rest))
  all-again = search rules

  -- what the facts show is what was passed and what the others show
  pub shown-all : shown s.key F ≡ shown s.key s.facts ++ shown s.key rest
  shown-all = search (rules, shown-append, shown-none, none-before, all-again)

  -- and the information is in F
  pub information-at : fact_at F (info_address s.key) ≡ Some (Info s.key s.info)
  information-at = rising_tells F _ a.rising (rw all-again
      (Contains-append_right _ ((Info s.key s.info) ∷ (a.symbols ++ rest)) _ (first_is _ _)))

pub wants-shown : (F : List Fact) (key : Key) (info : Information) → IsRising F
    → wants F key info ≡ wanted info (shown key F) (ids info)
unfolding wants wanted
wants-shown F key info r = λ i. filter_map (λ id. option_map (with_reason id) ((ap (want info id)
    (shown-at key id F r) ∙ want-symbol info key id (value_at symbol_id_cmp (shown key F) id)) i))
    (ids info)

come-as : (key : Key) (next : Next) (rest : List Fact) → ComeNext key next rest
    → ComesAs key (coming_fact key next) (shown key rest)
unfolding shown
come-as key None rest h = shown-none _ _ h
come-as key (Some n) rest h = (shown key h.0, rw h.1)

-- ---- what the walks of a scan show of all facts
module _ {o : ScanState} {s : Scanned} {next : Next} (q : Scans o (announced s next))
    {F : List Fact} (f : Follows s next F) where
  pub among-all : Among s F f.before f.rest
  among-all = search rules

  all-shown : shown s.key F ≡ shown s.key s.facts ++ shown s.key f.rest
  all-shown = shown-all among-all

  pub ordered-all : IsOrdered symbol_id_cmp (shown s.key s.facts ++ shown s.key f.rest)
  ordered-all = rw (← all-shown) (shown-ordered s.key F f.rising)

  pub coming-all : ComesAs s.key (coming_fact s.key next) (shown s.key f.rest)
  coming-all = come-as _ _ _ f.come

  pub walks-all : Walks (announced s next) o.walk (shown s.key f.rest)
  walks-all = q.walks _ ordered-all (shown-known _ _) coming-all

  pub gaps-all : gaps F s.key s.info ≡ s.given ++ gaps_left (walk_of o.walk (shown s.key f.rest))
  gaps-all = rw (
    wants-shown F s.key s.info f.rising ∙ ap (λ es. wanted s.info es (ids s.info))
        all-shown,
    walks-all.gaps_are,
  )

  pub information-all : fact_at F (info_address s.key) ≡ Some (Info s.key s.info)
  information-all = information-at among-all

  pub not-whole-all : (g : Gap) (gs : List Gap) → s.given ≡ [] → gaps_left
      (walk_of o.walk (shown s.key f.rest)) ≡ g ∷ gs → IsNotWhole F s.key (symbol_id g.sbn g.first)
  not-whole-all g gs n e = search (rules, information-all, gaps-all, first_is)

-- read_store: a store that is read entry by entry (specs/Stores).
use Rattle.std.proofs.Common.{rules}
use Rattle.flute_journal.proofs.Common.{AreItems, journal_framing, BeginsOver, Below-from_Same}
use Rattle.flute_journal.proofs.Common.{Bool, Consumes, Consumes-whole, Err, Fact, FailsIf}
use Rattle.flute_journal.proofs.Common.{FailsToLoad, Gives, GivesItem, GivesFault, Header, IfSome}
use Rattle.flute_journal.proofs.Common.{IsAtEnd, IsJournalOf, IsLoadFault, List, MatchBool, None}
use Rattle.flute_journal.proofs.Common.{Ok, Option, Over, Over-below, Read, ReadFault, ReadsNoMore}
use Rattle.flute_journal.proofs.Common.{Same, Same-append, Same-itself, Same-sym, Same-trans, Sofar}
use Rattle.flute_journal.proofs.Common.{Some, Two, ReaderState, Before, [], append-nil, arith}
use Rattle.flute_journal.proofs.Common.{count_at, end, err_from_is_err_and, without_end_in, is_open}
use Rattle.flute_journal.proofs.Common.{more_objects, more_sessions, more_symbols, refl, refused}
use Rattle.flute_journal.proofs.Common.{session, spelling_in, subst, sym, ℕ, ◌++◌, ◌∙◌, ◌∷◌, ◌≡◌}
use Rattle.flute_journal.proofs.Common.{journal_frame}
use Rattle.flute_journal.proofs.format_lemmas.Prefixes.{within_nil}
use Rattle.flute_journal.proofs.framing_lemmas.SoFar.{AtEnd, read_some, side-from}
use Rattle.flute_journal.proofs.framing_lemmas.SoFar.{sofar-none, sofar-next}
use Rattle.flute_journal.proofs.framing_lemmas.Framings.{journal_sound}
use Rattle.flute_journal.proofs.readers_lemmas.Whole.{sofar-stops}
use Rattle.flute_join.specs.declared.refusal.JoinRefusal.{JoinRefusal}
use Rattle.flute_join.specs.declared.refusal.JoinRefusal.TheVariants as join
use Rattle.flute_journal.specs.Whole.{after_entries}

-- these entries were read, and the store holds their facts, within its limits
pub record Loaded (s o y limit : ℕ) (first now : Option (List ℕ)) (state : ReaderState Before)
    (content : List Fact) : Type 0 where
  pub entries : List Fact
  pub sofar : Sofar journal_framing limit first now state entries
  pub same : Same content entries
  pub fits : Over entries s o y → ⊥

none-over : (s o y : ℕ) → Over [] s o y → ⊥
unfolding Rattle.flute_parts.specs.Limits.sessions Rattle.flute_parts.specs.Limits.objects
    Rattle.flute_parts.specs.Limits.symbols
none-over x0 x1 x2 x3 = search rules

-- before the first entry the store is empty
pub loaded_none : (s o y limit : ℕ) {u v : Option (List ℕ)} {state : ReaderState Before}
    {content : List Fact} → v ≡ u → state ≡ Header → content ≡ []
    → Loaded s o y limit u v state content
loaded_none s o y limit {u = u} {state = state} {content = content} e is c = subst
    (λ (x : Option (List ℕ)). Loaded s o y limit u x state content) (sym e) (subst
    (λ (x : ReaderState Before). Loaded s o y limit u u x content) (sym is) (subst
    (λ (x : List Fact). Loaded s o y limit u u Header x) (sym c) (record {
      entries = [];
      sofar = sofar-none journal_sound Two limit u;
      same = Same-itself [];
      fits = none-over s o y;
    })))

over-same : (F G : List Fact) (s o y : ℕ) → Same F G → Over F s o y → Over G s o y
over-same F G s o y h = Over-below F G s o y (Below-from_Same F G h)

one_more : (F G : List Fact) (f : Fact) → Same F G → Same (F ++ f ∷ []) (G ++ f ∷ [])
one_more F G f h = search (rules, Same-append, Same-itself)

-- one entry more was read, and its fact was put
pub loaded-next : {s o y limit : ℕ} {u v w : Option (List ℕ)} {old new : ReaderState Before}
    {F G : List Fact} {f : Fact} → Loaded s o y limit u v old F
    → GivesItem journal_framing limit old new v w f → Same G (F ++ f ∷ [])
    → (Over (F ++ f ∷ []) s o y → ⊥) → Loaded s o y limit u w new G
loaded-next {s = s} {o = o} {y = y} {F = F} {G = G} {f = f} l h same fits =
    let es = l.entries in
    let more = one_more F es f l.same in
    record {
      entries = es ++ f ∷ [];
      sofar = sofar-next journal_sound l.sofar h;
      same = Same-trans G (F ++ f ∷ []) (es ++ f ∷ []) same more;
      fits = λ over. fits (over-same (es ++ f ∷ []) (F ++ f ∷ []) s o y
          (Same-sym (F ++ f ∷ []) (es ++ f ∷ []) more) over);
    }

-- the facts that were read are within the limits
pub loaded-fits : {s o y limit : ℕ} {u v : Option (List ℕ)} {state : ReaderState Before}
    {F : List Fact} → Loaded s o y limit u v state F → Over F s o y → ⊥
loaded-fits {s = s} {o = o} {y = y} {F = F} l over =
    l.fits (over-same F l.entries s o y l.same over)

begins-over : {s o y limit : ℕ} (u w : Option (List ℕ)) (es : List Fact) (f : Fact)
    → (a : AreItems journal_frame limit (es ++ f ∷ []))
    → Consumes u w (without_end_in a.told (es ++ f ∷ []))
    → Over (es ++ f ∷ []) s o y → IfSome u (BeginsOver s o y limit)
begins-over None w es f a h over = tt
begins-over (Some x) None es f a h over = absurd h
begins-over (Some x) (Some z) es f a h over = search rules

-- one entry more would pass the limits
pub loaded-over : {s o y limit : ℕ} {u v w : Option (List ℕ)} {old new : ReaderState Before}
    {F : List Fact} {f : Fact} → Loaded s o y limit u v old F → GivesItem journal_framing limit old
    new v w f → Over (F ++ f ∷ []) s o y → IfSome u (BeginsOver s o y limit)
loaded-over {s = s} {o = o} {y = y} {u = u} {w = w} {F = F} {f = f} l h over =
    let es = l.entries in
    let next = sofar-next journal_sound l.sofar h in
    begins-over u w es f next.are_items
    (subst (Consumes u w) (read_some journal_framing next.are_items.told es f) next.read)
    (over-same (F ++ f ∷ []) (es ++ f ∷ []) s o y (one_more F es f l.same) over)

-- what holds at the end of a journal
pub record IsLoaded (limit : ℕ) (first last : Option (List ℕ)) (content : List Fact) : Type 0 where
  pub journal : IfSome first (λ bytes. IsJournalOf limit bytes content)
  pub at_end : IsAtEnd last

-- how many entries were read
abbrev pub entries_at : ReaderState Before → ℕ
entries_at state = count_at journal_framing state

-- How often the source failed.

pub loaded_failed : (T X : Type 0) {s o y limit : ℕ} {u v : Option (List ℕ)}
    {state : ReaderState Before} {F : List Fact} (f : ReadFault) {n m : ℕ} (k : ℕ)
    → Loaded s o y limit u v state F
    → m ≡ n → FailsIf {T = T} (is_open state) m k (Err f) → FailsToLoad {T = X} n k (Err (Read f))
loaded_failed T X {limit = limit} {u = u} {v = v} {state = state} f k l e h = search rules steps
    400000

-- no failure is counted where something was given
pub loaded-read : (b : Bool) (n m k : ℕ) → m ≡ n → MatchBool b (k ≡ m) (k ≡ m) → k ≡ n
loaded-read b n m k e h = grind (arith)

-- What a reader gave, and what became of it in the store.

pub given-entry : {limit bound : ℕ} (v w : Option (List ℕ)) (old new : ReaderState Before)
    {given : Option Fact} {f : Fact} → bound ≡ limit → given ≡ Some f → Gives journal_framing bound
    old new v w (Ok given) → GivesItem journal_framing limit old new v w f
given-entry v w old new b e h = grind (arith)

pub loaded-given : {X : Type 0} {s o y limit : ℕ} {u v w : Option (List ℕ)}
    {old new : ReaderState Before} {F G : List Fact} {f : Fact} (x : X) → Loaded s o y limit u v old
    F → GivesItem journal_framing limit old new v w f → Same G (F ++ f ∷ []) →
    (Over (F ++ f ∷ []) s o y → Ok x ≡ Err join.Full) → Loaded s o y limit u w new G
loaded-given x l h same full = loaded-next l h same (λ over. let is = full over in absurd cc)

pub loaded-full : {s o y limit : ℕ} {u v w : Option (List ℕ)} (z : Option (List ℕ))
    {old new : ReaderState Before} {F : List Fact} {f : Fact} (why : JoinRefusal)
    → Loaded s o y limit u v old F → GivesItem journal_framing limit old new v w f
    → (why ≡ join.Full → Over (F ++ f ∷ []) s o y) → IsLoadFault s o y limit u z (refused why)
loaded-full z join.Full l h full = loaded-over l h (full refl)
loaded-full z join.OutOfMemory l h full = tt

journal-at : (limit : ℕ) (u w : Option (List ℕ)) (es F : List Fact)
    → AtEnd journal_framing limit u w es → Same F es → IfSome u (λ bytes. IsJournalOf limit bytes F)
journal-at limit u w es F s same =
    Consumes-whole u w (spelling_in s.are_items.told es) (λ bytes. IsJournalOf limit bytes F) s.read
    s.at_end (es, record { are_items = s.are_items; bytes_are = refl }, same)

pub loaded_all : {s o y limit bound : ℕ} {u v : Option (List ℕ)} (w : Option (List ℕ))
    {old : ReaderState Before} (new : ReaderState Before) {F : List Fact} (given : Option Fact)
    → Loaded s o y limit u v old F → bound ≡ limit → given ≡ None
    → Gives journal_framing bound old new v w (Ok given) → IsLoaded limit u w F
loaded_all {limit = limit} {bound = bound} {u = u} {v = v} w {old = old} new {F = F} None l b e h =
    let end =
    side-from journal_sound w new None l.sofar
    (subst (λ (n : ℕ). Gives journal_framing n old new v w (Ok None)) b
    (subst (λ (x : Option Fact). Gives journal_framing bound old new v w (Ok x)) e h)) in
    record { journal = journal-at limit u w l.entries F end l.same; at_end = end.at_end }
loaded_all w new (Some f) l b e h = absurd cc

pub loaded-stops : {s o y limit bound : ℕ} {u v w : Option (List ℕ)} {old new : ReaderState Before}
    {F : List Fact} {f : ReadFault} → Loaded s o y limit u v old F → bound ≡ limit → GivesFault
    journal_framing bound old new v w f → IsLoadFault s o y limit u w (Read f)
loaded-stops {v = v} {w = w} {old = old} {new = new} {f = f} l b h = (
  l.entries,
  l.fits,
  (sofar-stops l.sofar (subst (λ (n : ℕ). GivesFault journal_framing n old new v w f) b h)).0,
)

-- What was read where no store was.

pub fault-part : {s o y limit bound : ℕ} {u v w : Option (List ℕ)} {old new : ReaderState Before}
    {F : List Fact} {f : ReadFault} → Loaded s o y limit u v old F → bound ≡ limit → GivesFault
    journal_framing bound old new v w f → ReadsNoMore s o y limit u w (Read f)
fault-part {v = v} {w = w} {old = old} {new = new} {f = f} l b h = (
  l.entries,
  (sofar-stops l.sofar (subst (λ (n : ℕ). GivesFault journal_framing n old new v w f) b h)).1,
)

pub refused-part : {s o y limit : ℕ} {u v w : Option (List ℕ)} {old new : ReaderState Before}
    {F : List Fact} {f : Fact} → Loaded s o y limit u v old F → GivesItem journal_framing limit old
    new v w f → (why : JoinRefusal) → (why ≡ join.Full → Over (F ++ f ∷ []) s o y) → ReadsNoMore s o
    y limit u w (refused why)
refused-part {s = s} {o = o} {y = y} {u = u} {w = w} {F = F} {f = f} l h join.Full full =
    let es = l.entries ++ f ∷ [] in
    let next = sofar-next journal_sound l.sofar h in
    record {
      within = l.entries;
      last = f;
      are_items = next.are_items;
      read = subst (Consumes u w) (read_some journal_framing next.are_items.told l.entries f)
          next.read;
      none_over = l.fits;
      over = over-same (F ++ f ∷ []) es s o y (one_more F l.entries f l.same) (full refl);
    }
refused-part {u = u} {w = w} {f = f} l h join.OutOfMemory full =
    let es = l.entries ++ f ∷ [] in
    let next = sofar-next journal_sound l.sofar h in (
      es,
      after_entries next.are_items [] (subst (Consumes u w) (read_some journal_framing
          next.are_items.told l.entries f ∙ sym (append-nil (without_end_in next.are_items.told es)))
          next.read) (within_nil next.are_items.told),
    )

-- a store before the first entry, at a fault and at the end
pub ruleset loads = (loaded_none, err_from_is_err_and, loaded_failed, loaded_all)

-- Lines that `gaps` prints, by their words and numbers (specs/Lines).
use Rattle.std.proofs.Common.{rules}
use Rattle.std.proofs.Common.{◌≡◌, ℕ, false, List, [], ◌++◌, codes}
use Rattle.std.proofs.Common.{decimal, append_assoc, refl, sym, ◌∙◌, get_or, inl, inr, Some, None}
use Rattle.std.specs.Char.{is_ascii_digit}
use Rattle.std.proofs.lemmas.Bool.{cases_Bool}
use Rattle.std.proofs.lemmas.List.{append_cancel_right}
use Rattle.flute_parts.specs.declared.key.Key.{Key}
use Rattle.flute_store.specs.declared.gap.Gap.{Gap}
use Rattle.flute_store.specs.declared.gap.Reason.{Reason}
use Rattle.flute_store.specs.declared.gap.Reason.TheVariants.{Missing, Conflicting, Misfit}
use Rattle.flute_store.specs.declared.status.Status.{Status}
use Rattle.flutejoin.specs.FillLists.{HasIds, IsListed, MayCome, object_of, text_of}
use Rattle.flutejoin.specs.declared.fill.listed_line.ListedLine.{ListedLine}
use Rattle.flutejoin.specs.declared.fill.listed_line.ListedLine.TheVariants.{Object as ObjectLine}
use Rattle.flutejoin.specs.declared.fill.listed_line.ListedLine.TheVariants.{Gap as GapLine}
use Rattle.flutejoin.specs.Lines.{gap_line, line, object_words, reason_words}
use Rattle.flutejoin.specs.Lines.{source_words, status_line, status_words}
use Rattle.flutejoin.proofs.info_lemmas.LinePieces.{source_chain, source_none}

-- words of a gap

abbrev pub from_last : Gap → List ℕ
from_last g = codes "-" ++ (decimal g.last ++ reason_words g.reason)

abbrev pub from_first : Gap → List ℕ
from_first g = codes "/" ++ (decimal g.first ++ from_last g)

abbrev pub gap_words : Gap → List ℕ
gap_words g = codes "gap " ++ (decimal g.sbn ++ from_first g)

pub same_line : (x y : List ℕ) → line x ≡ line y → x ≡ y
same_line x y e = append_cancel_right x y (codes "\n") e

pub gap_is : (words : List ℕ) (g : Gap) → line words ≡ gap_line g → words ≡ gap_words g
unfolding gap_line
gap_is words g e =
    same_line _ _ e
    ∙ seven (codes "gap ") (decimal g.sbn) (codes "/") (decimal g.first) (codes "-") (decimal g.last)
    (reason_words g.reason)
  where
    seven : (a b c d e f g : List ℕ) → a ++ b ++ c ++ d ++ e ++ f ++ g
        ≡ a ++ (b ++ (c ++ (d ++ (e ++ (f ++ g)))))
    seven a b c d e f g = simp append_assoc refl

pub reason_stops : (r : Reason) → is_ascii_digit (get_or (reason_words r) 0 0) ≡ false
reason_stops Missing = refl
reason_stops Conflicting = refl
reason_stops Misfit = refl

module _ (g : Gap) where
  pub gap_same : (s f l : ℕ) (r : Reason) → s ≡ g.sbn → f ≡ g.first → l ≡ g.last → r ≡ g.reason
      → record { sbn = s; first = f; last = l; reason = r } ≡ g
  gap_same s f l r a b d e = search rules

-- words of an object

abbrev pub from_status : Status → List ℕ
from_status status = codes " " ++ status_words status

abbrev pub from_name : Key → Status → List ℕ
from_name key status = codes " " ++ (object_words key.object ++ from_status status)

pub status_is : (words : List ℕ) (key : Key) (status : Status) → line words ≡ status_line key status
    → words ≡ source_words key.session.sender ++
    (codes "session " ++ (decimal key.session.tsi ++ from_name key status))
unfolding status_line
status_is words key status e =
    same_line _ _ e
    ∙ seven (source_words key.session.sender) (codes "session ") (decimal key.session.tsi)
    (codes " ") (object_words key.object) (codes " ") (status_words status)
  where
    seven : (a b c d e f g : List ℕ) → (a ++ b ++ c ++ d ++ e) ++ f ++ g
        ≡ a ++ (b ++ (c ++ (d ++ (e ++ (f ++ g)))))
    seven a b c d e f g = simp append_assoc refl

-- no line is both

source : (x y : List ℕ) → codes "gap " ++ x ≡ codes "source " ++ y → ⊥
source x y e = search rules

session : (x y : List ℕ) → codes "gap " ++ x ≡ codes "session " ++ y → ⊥
session x y e = search rules

pub apart : (n : ℕ) (x y : List ℕ) → codes "gap " ++ x ≡ source_words n ++ (codes "session " ++ y) → ⊥
apart n x y e = elim (cases_Bool _) [
  | inl h ↦ session x y (e ∙ source_none n _ h)
  | inr h ↦ source x _ (e ∙ source_chain n _ h)
]

pub not_both : (words : List ℕ) (g : Gap) (key : Key) (status : Status)
    → line words ≡ gap_line g → line words ≡ status_line key status → ⊥
not_both words g key status e h = apart _ _ _ (sym (gap_is _ g e) ∙ status_is _ _ _ h)

-- what a line is, if it is read as that of a gap

module _ (words : List ℕ) (g : Gap) where
  pub gap_after : (p : ListedLine) → line words ≡ gap_line g
      → ((gap : Gap) → HasIds gap → line words ≡ gap_line gap → g ≡ gap) → (l : ListedLine)
      → IsListed l → MayCome (Some p) l → line words ≡ text_of l → GapLine (object_of p) g ≡ l
  gap_after p is _ (ObjectLine key status) i m e = absurd (not_both _ g _ _ is e)
  gap_after p is finds (GapLine key gap) i m e = λ j. GapLine (m.1 j) (finds gap i e j)

pub gap_first : (words : List ℕ) (g : Gap) → line words ≡ gap_line g → (l : ListedLine)
    → MayCome None l → line words ≡ text_of l → ⊥
gap_first words g is (ObjectLine key status) m e = not_both _ g _ _ is e
gap_first _ g is (GapLine key gap) m e = m

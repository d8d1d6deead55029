-- write_datagrams: datagrams that are written record by record.
use Rattle.flute_journal.proofs.Common.{◌≡◌, ℕ, zero, suc, ◌+◌, ◌≤◌, List, [], ◌∷◌, ◌++◌, length}
use Rattle.flute_journal.proofs.Common.{drop, Option, Some, None, refl, sym, ap, ◌∙◌, subst}
use Rattle.flute_journal.proofs.Common.{append_assoc, append-nil, arith, slice_get, flat_map}
use Rattle.flute_journal.proofs.Common.{AllByRecursion, Appends, Appends-trans, flat_map-append}
use Rattle.flute_journal.proofs.Common.{nil_from_length, length-append, length-drop, flat_map_more}
use Rattle.flute_journal.proofs.Common.{slice_get_within, get_or_from_slice_get, AppendsPart}
use Rattle.flute_journal.proofs.Common.{AppendsPart-first, AppendsPart-second, file_header}
use Rattle.flute_journal.proofs.Common.{record_of, IsDatagram, IsFileOf, drop-cons}
use Rattle.flute_journal.proofs.Each.{all_more}

-- the records before a place were written, and nothing else
pub record Sent (all : List (List ℕ)) (place : ℕ) (old now : Option (List ℕ)) : Type 0 where
  pub done : List (List ℕ)
  pub parts : all ≡ done ++ drop place all
  pub valid : AllByRecursion IsDatagram done
  pub counted : place ≡ length done
  pub written : Appends old now (file_header ++ flat_map record_of done)

next_one : (all : List (List ℕ)) (place : ℕ) (d : List ℕ) → slice_get all place ≡ Some d
    → drop place all ≡ d ∷ drop (suc place) all
next_one all place d e = cc (
  drop-cons all place d (slice_get_within all place d e),
  get_or_from_slice_get all place d d e,
)

pub sent_next : {all : List (List ℕ)} {place : ℕ} {u v : Option (List ℕ)}
    (w : Option (List ℕ)) {d : List ℕ} → Sent all place u v → slice_get all place ≡ Some d
    → IsDatagram d → Appends v w (record_of d) → Sent all (place + 1) u w
sent_next {place = place} {u = u} {v = v} w {d = d} s e valid h =
    let n : suc place ≡ place + 1 = omega arith in
    record {
      done = s.done ++ d ∷ [];
      parts = grind (arith, next_one, append_assoc);
      valid = all_more IsDatagram s.done d s.valid valid;
      counted = omega (arith, s.counted, length-append s.done (d ∷ []));
      written = subst (Appends u w) (flat_map_more record_of file_header s.done d)
          (Appends-trans u v w (file_header ++ flat_map record_of s.done)
          (record_of d) s.written h);
    }

pub sent-part : {all : List (List ℕ)} {place : ℕ} {u v : Option (List ℕ)}
    (w : Option (List ℕ)) {d : List ℕ} → Sent all place u v → slice_get all place ≡ Some d
    → AppendsPart v w (record_of d) → AppendsPart u w (file_header ++ flat_map record_of all)
sent-part {all = all} {place = place} {u = u} {v = v} w {d = d} s e h =
    let rest = drop (suc place) all in
    let whole : all ≡ s.done ++ d ∷ rest =
    s.parts ∙ ap (λ (x : List (List ℕ)). s.done ++ x) (next_one all place d e) in
    let spelled : ((file_header ++ flat_map record_of s.done) ++ record_of d)
    ++ flat_map record_of rest ≡ file_header ++ flat_map record_of (s.done ++ d ∷ rest) =
    grind (arith, append_assoc, flat_map-append) in
    subst (AppendsPart u w)
    (spelled ∙ ap (λ (x : List (List ℕ)). file_header ++ flat_map record_of x) (sym whole))
    (AppendsPart-first u w ((file_header ++ flat_map record_of s.done) ++ record_of d)
    (flat_map record_of rest)
    (AppendsPart-second u v w (file_header ++ flat_map record_of s.done) (record_of d) s.written h))

past : (all : List (List ℕ)) (place : ℕ) → slice_get all place ≡ None → length all ≤ place
past [] place e = omega arith
past (d ∷ all) zero e = absurd cc
past (d ∷ all) (suc place) e = omega (arith, past all place e)

done_all : (all : List (List ℕ)) (place : ℕ) (u v : Option (List ℕ))
    → (s : Sent all place u v) → slice_get all place ≡ None → s.done ≡ all
done_all all place u v s e =
    let none : drop place all ≡ [] =
    nil_from_length (drop place all) (omega (arith, length-drop place all, past all place e)) in
    sym (append-nil s.done) ∙ ap (λ (x : List (List ℕ)). s.done ++ x) (sym none) ∙ sym s.parts

pub sent-all : (all : List (List ℕ)) (place : ℕ) (u v : Option (List ℕ)) → Sent all place u v →
    slice_get all place ≡ None → Appends u v (file_header ++ flat_map record_of all)
sent-all all place u v s e =
    subst (λ (x : List (List ℕ)). Appends u v (file_header ++ flat_map record_of x))
    (done_all all place u v s e) s.written

pub sent-file : (all : List (List ℕ)) (place : ℕ) (u v : Option (List ℕ)) → Sent all place u v →
    slice_get all place ≡ None → IsFileOf (file_header ++ flat_map record_of all) all
sent-file all place u v s e = record {
  valid = subst (AllByRecursion IsDatagram) (done_all all place u v s e) s.valid;
  bytes_are = refl;
}

-- one record more was written
pub ruleset sends = (slice_get_within, sent_next)

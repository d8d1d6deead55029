-- What the steps of finishing an output make of its entries, and of what OUT was at each moment.
use Rattle.std.proofs.Common.{◌≡◌, ℕ, List, [], ◌∷◌, refl, ap, ◌∙◌, subst, Result, Ok, Err, OnErr, OnOk, Option, Some, None, IsSome, option_map, inl, inr}
use Rattle.std.proofs.lemmas.Bool.{false≢true}
use Rattle.flute_output.specs.Entries.{Stored, Entries, Leads, Does, Flushes, taken, file_bytes, whole, safe, synced, names_synced}
use Rattle.flute_output.specs.OutMoments.{Moment, Follows, Steady, BecomesAt, replaced, settled}
use Rattle.flute_output.proofs.Moments.{steady_then, steady_becomes, replaced_becomes}

-- a file of these bytes, once the disk has it
safe_is : (s : Option Stored) (bytes : List ℕ) → IsSome s → file_bytes s ≡ bytes
    → option_map safe s ≡ Some (whole bytes)
safe_is None bytes is e = absurd (false≢true is)
safe_is (Some s) bytes is e = ap (λ b. Some (whole b)) e

-- the steps up to the rename, between which OUT stayed what it was
module _ (k l m n : List Moment) (first : Steady k l) (second : Steady l m) where
  pub keep_given : {T E : Type 0} (r : Result T E) (a b c d : Option Entries)
      → Leads Flushes a b → Does synced b c
      → OnOk r (Leads (λ old _. Follows (replaced old.beside) m n) c d)
      → OnOk r (Leads (λ old _. Follows (replaced (Some (whole (taken old)))) k n) a d)
  keep_given (Err y) a b c d flushes syncs puts = tt
  keep_given (Ok y) None None None None flushes syncs puts = tt
  keep_given (Ok y) None None None (Some u) flushes syncs puts = absurd puts
  keep_given (Ok y) None None (Some z) d flushes syncs puts = absurd syncs
  keep_given (Ok y) None (Some x) c d flushes syncs puts = absurd flushes
  keep_given (Ok y) (Some x) None c d flushes syncs puts = absurd flushes
  keep_given (Ok y) (Some x) (Some z) None d flushes syncs puts = absurd syncs
  keep_given (Ok y) (Some x) (Some z) (Some u) None flushes syncs puts = absurd puts
  keep_given (Ok y) (Some x) (Some z) (Some u) (Some v) flushes syncs puts =
      subst (λ f. Follows (replaced f) k n)
      (ap (λ e. e.beside) syncs ∙ safe_is z.beside (taken x) flushes.beside flushes.content)
      (steady_then _ k m n (steady_then _ k l m first second) puts)

-- T of the ends of two steps
module _ (R S T : Entries → Entries → Type 0) where
  leads_next : (a b c : Option Entries) → Leads R a b → Leads S b c
      → ((x y z : Entries) → R x y → T x z) → Leads T a c
  leads_next None None None r s f = tt
  leads_next None None (Some z) r s f = absurd s
  leads_next None (Some y) c r s f = absurd r
  leads_next (Some x) None c r s f = absurd r
  leads_next (Some x) (Some y) None r s f = absurd s
  leads_next (Some x) (Some y) (Some z) r s f = f x y z r

module _ (a b c : Option Entries) (k l m : List Moment) where
  pub becomes_named : {T E : Type 0} (r : Result T E)
      → Leads (λ old _. Follows (replaced (Some (whole (taken old)))) k l) a b
      → OnOk r (Does names_synced b c) → OnErr r (Does (λ same. same) b c)
      → OnOk r (Follows settled l m) → OnErr r (Steady l m)
      → Leads (λ old _. BecomesAt (whole (taken old)) k m) a c
  becomes_named (Ok y) given synced same sure steady = leads_next _ _ _ a b c given synced
      (λ x y z f. replaced_becomes (whole (taken x)) settled k l m f sure (λ w. inr refl))
  becomes_named (Err y) given synced same sure steady = leads_next _ _ _ a b c given same
      (λ x y z f. replaced_becomes (whole (taken x)) (λ w. w) k l m f steady (λ w. inl refl))

  -- a file beside OUT was removed, or not, and OUT stayed what it was
  module _ (R S Q : Entries → Entries → Type 0) where
    pub becomes_nothing : {T E : Type 0} (r : Result T E) → Leads R a b → OnOk r (Leads S b c)
        → OnErr r (Leads Q b c) → Steady k l → Steady l m
        → Leads (λ old _. BecomesAt (whole (taken old)) k m) a c
    becomes_nothing (Ok y) first removed refused steady next = leads_next R S _ a b c first removed
        (λ x y z f. steady_becomes (whole (taken x)) k m (steady_then _ k l m steady next))
    becomes_nothing (Err y) first removed refused steady next = leads_next R Q _ a b c first refused
        (λ x y z f. steady_becomes (whole (taken x)) k m (steady_then _ k l m steady next))

pub leads_itself : (a : Option Entries) → Leads (λ x y. y ≡ x) a a
leads_itself None = tt
leads_itself (Some x) = refl

pub steady_itself : (k : List Moment) → Steady k k
steady_itself [] = refl
steady_itself (now ∷ before) = (refl, λ m h. inl h)

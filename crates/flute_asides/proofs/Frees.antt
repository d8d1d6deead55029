-- Names that are given and taken away.
use Rattle.std.proofs.Common.{◌≡◌, ℕ, List, [], Option, Some, None, IfSome, refl, sym, ap, ◌∙◌, subst, inl, inr, ⊎_elim, option_map}
use Rattle.flute_calls.specs.Disks.{Disk, FilesStay}
use Rattle.flute_asides.specs.Asides.{IsUnnamed, IsVoid, Opened, OnlyFrees}

pub frees-refl : (p : List ℕ) (a : Disk) → OnlyFrees p a a
frees-refl p a = record { names = λ name. inl refl; files = λ k. refl }

seen_same : (o : Option ℕ) (a b : Disk) → FilesStay a b
    → IfSome (option_map (λ k. (b.files k).bytes) o) (λ bytes. bytes ≡ [])
    → IfSome (option_map (λ k. (a.files k).bytes) o) (λ bytes. bytes ≡ [])
seen_same None a b same is = tt
seen_same (Some k) a b same is = ap (λ h. h.bytes) (sym (same k)) ∙ is

void_before : (name : List ℕ) (a b : Disk) → FilesStay a b
    → (b.names name).leads ≡ (a.names name).leads → IsVoid b name → IsVoid a name
void_before name a b same leads is = seen_same _ a b same
    (subst (λ o. IfSome (option_map (λ k. (b.files k).bytes) o) (λ bytes. bytes ≡ [])) leads is)

module _ (p : List ℕ) (a b c : Disk) where
  pub frees-then : OnlyFrees p a b → OnlyFrees p b c → OnlyFrees p a c
  frees-then ab bc = record {
    names = λ name. ⊎_elim
        (λ same. ⊎_elim (λ first. inl (same ∙ first))
        (λ first. inr (first.0, first.1, same ∙ first.2)) (ab.names name))
        (λ gone. ⊎_elim
        (λ first. inr (gone.0, void_before name a b ab.files first gone.1, gone.2))
        (λ first. inr (gone.0, first.1, gone.2)) (ab.names name)) (bc.names name);
    files = λ k. bc.files k ∙ ab.files k;
  }

  pub unnamed-later : (o : Opened) → OnlyFrees p a b → IsUnnamed p o b c → IsUnnamed p o a c
  unnamed-later o ab bc = record {
    frees = frees-then ab bc.frees;
    alone = bc.alone;
    empty = bc.empty;
    start = bc.start;
    mode = bc.mode;
  }

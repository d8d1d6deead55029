-- Blob::read: a whole input, read piece by piece (specs/Blob).
use Rattle.std.proofs.Common.{◌≡◌, ◌<◌, ◌≤◌, ◌+◌, ℕ, List, [], ◌++◌}
use Rattle.std.proofs.Common.{length, take, Option, Some, None, refl, ap, subst, ◌∙◌, arith}
use Rattle.std.proofs.Common.{length-append, append-nil, ◌-◌}
use Rattle.std.proofs.lemmas.List.{length-take}
use Rattle.std.specs.Prelude.{IfSome}
use Rattle.std.specs.Io.KnownBytes.{Consumes, IsAtEnd}
use Rattle.std.proofs.KnownBytes.{Consumes-nil, Consumes-trans, Consumes-all}

pub nothing_kept : (u : Option (List ℕ)) (bytes : List ℕ) → bytes ≡ []
    → (length bytes ≤ 4294967295) × Consumes u u bytes
nothing_kept u bytes e = rw e (omega arith, Consumes-nil u)

-- the input ends where nothing more was read
pub all_kept : (u v : Option (List ℕ)) (bytes : List ℕ) → Consumes u v bytes → IsAtEnd v
    → IfSome u (λ all. bytes ≡ all)
all_kept u v bytes read end = Consumes-all u v bytes [] bytes read end refl

pub end_kept : (u v w : Option (List ℕ)) (bytes : List ℕ) {part : List ℕ}
    → Consumes u v bytes → Consumes v w part → part ≡ [] → IsAtEnd w
    → IfSome u (λ all. bytes ≡ all)
end_kept u v w bytes {part = part} read more none end =
    let P : List ℕ → Type 0 = λ xs. Consumes u w xs in
    all_kept u w bytes
    (subst P (ap (λ xs. bytes ++ xs) none ∙ append-nil bytes)
    (Consumes-trans u v w bytes part read more)) end

-- more was read than may be kept
pub too_large : (u v w : Option (List ℕ)) (bytes part : List ℕ) → Consumes u v bytes
    → Consumes v w part → 4294967295 < length bytes + length part
    → IfSome u (λ all. 4294967295 < length all)
too_large u v w bytes part read more large =
    go u w (bytes ++ part) (Consumes-trans u v w bytes part read more)
    (omega (arith, large, length-append bytes part))
  where
    go : (a b : Option (List ℕ)) (front : List ℕ) → Consumes a b front
        → 4294967295 < length front → IfSome a (λ all. 4294967295 < length all)
    go None b front h large = tt
    go (Some all) None front h large = absurd h
    go (Some all) (Some rest) front h large = rw h (omega (arith, large, length-append front rest))

-- a piece was kept
pub piece_kept : (u v w : Option (List ℕ)) (bytes : List ℕ) {more : List ℕ} (part : List ℕ)
    → more ≡ bytes ++ part
    → Consumes u v bytes → Consumes v w part → Consumes u w more
piece_kept u v w bytes part e read given = rw e (Consumes-trans u v w bytes part read given)

pub piece_of : (bytes more buffer read : List ℕ) (count : ℕ)
    → more ≡ bytes ++ take count buffer → buffer ≡ read
    → more ≡ bytes ++ take count read
piece_of bytes more buffer read count e same = e ∙ ap (λ xs. bytes ++ take count xs) same

pub piece_fits : (bytes more buffer : List ℕ) (count : ℕ)
    → more ≡ bytes ++ take count buffer → count ≤ 4294967295 - length bytes
    → length bytes ≤ 4294967295 → length more ≤ 4294967295
piece_fits bytes more buffer count e room small =
    let n : length more ≡ length bytes + length (take count buffer) =
    ap length e ∙ length-append bytes (take count buffer) in
    omega (arith, n, length-take count buffer, room, small)

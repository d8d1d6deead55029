-- A datagram to which no refusal applies spells a packet (specs/Datagram).
use Rattle.std.proofs.Common.{rules}
use Rattle.std.proofs.lemmas.Grind.{common_steps}
use Rattle.std.proofs.Common.{◌≡◌, ℕ, ◌<◌, ◌≤◌, ◌⊎◌, List, [], ◌∷◌}
use Rattle.std.proofs.Common.{length, Option, Some, None, inl, inr, refl, arith}
use Rattle.std.specs.Prelude.{IfSome, IsSomeAnd}
use Rattle.std.specs.Option.{option_to_list}
use Rattle.flute_parts.specs.Information.{info_fault}
use Rattle.flute_parts.specs.declared.info.InfoFault.{InfoFault}
use Rattle.flute_wire.specs.declared.refusal.Refusal.{Refusal}
use Rattle.flute_wire.specs.declared.refusal.Refusal.TheVariants.{ExtensionLength, Repeated}
use Rattle.flute_wire.specs.declared.refusal.Refusal.TheVariants.{FtiLength, Information}
use Rattle.flute_wire.specs.declared.refusal.Refusal.TheVariants.{NoInstance, FluteVersion}
use Rattle.flute_wire.specs.declared.refusal.Refusal.TheVariants.{ContentEncoded, PayloadIdCut}
use Rattle.flute_wire.specs.Header.{extension_area, after_header}
use Rattle.flute_wire.specs.Extensions.{bodies, ext_fti, ext_fdt, ext_cenc, fti_information}
use Rattle.flute_wire.specs.Extensions.{fdt_version, content_encoding, first}
use Rattle.flute_wire.specs.Content.{Content}
use Rattle.flute_wire.specs.Datagram.{Spells}
use Rattle.flute_wire.specs.Refusals.{Applies, PassesUpTo}
use Rattle.flute_wire.specs.Walk.{Finds}
use Rattle.flute_wire.proofs.Decision.{decide_extensions}
use Rattle.flute_wire.proofs.Walking.{short_bodies, short_body}
use Rattle.flute_wire.proofs.Spelling.{stable, spells, content_at}

at_most_one : (bs : List (List ℕ)) → (1 < length bs → ⊥) → bs ≡ option_to_list (first bs)
at_most_one x0 x1 = grind (arith, common_steps)

no_fault : (o : Option InfoFault) → ((f : InfoFault) → o ≡ Some f → ⊥) → o ≡ None
no_fault x0 x1 = search rules

fti_taken : (o : Option (List ℕ)) → (IsSomeAnd o (λ body. length body ≡ 15 → ⊥) → ⊥) →
    ((f : InfoFault) → IsSomeAnd o (λ body. info_fault (fti_information body) ≡ Some f) → ⊥) →
    IfSome o (λ body. (length body ≡ 15) × (info_fault (fti_information body) ≡ None))
fti_taken None h k = tt
fti_taken (Some body) h k =
    (stable (length body) 15 h, no_fault (info_fault (fti_information body)) k)

fdt_taken : (bs : List (List ℕ)) → (bs ≡ [] → ⊥)
    → (IsSomeAnd (first bs) (λ body. fdt_version body ≡ 2 → ⊥) → ⊥)
    → IsSomeAnd (first bs) (λ body. fdt_version body ≡ 2)
fdt_taken [] h k = absurd (h refl)
fdt_taken (body ∷ bs) h k = stable (fdt_version body) 2 k

plain_taken : (o : Option (List ℕ)) → (IsSomeAnd o (λ body. content_encoding body ≡ 0 → ⊥) → ⊥) →
    IfSome o (λ body. content_encoding body ≡ 0)
plain_taken None h = tt
plain_taken (Some body) h = stable (content_encoding body) 0 h

tail_taken : (tail : List ℕ) → ((0 < length tail) × (length tail < 4) → ⊥)
    → (tail ≡ []) ⊎ (4 ≤ length tail)
tail_taken tail h = grind (arith, common_steps)

pub some_packet : (d : List ℕ) → ((r : Refusal) → Applies r d → ⊥) → (c : Content) × Spells d c
some_packet d h = elim
    (decide_extensions (length (extension_area d)) (extension_area d) (omega arith)) [
      | inr none ↦ absurd (h ExtensionLength none)
      | inl found ↦ let es = found.0 in
          let x = found.1 in
          let fti = first (bodies ext_fti es) in
          let fdt = first (bodies ext_fdt es) in
          let cenc = first (bodies ext_cenc es) in
          let fdt_is = at_most_one (bodies ext_fdt es) (λ two. h Repeated (es, x, inr (inl two))) in
          let cenc_is = at_most_one (bodies ext_cenc es) (λ two. h Repeated (es, x, inr (inr two)))
          in
          let f : Finds (extension_area d) fti fdt cenc = record {
            extensions = es;
            spelled = x;
            fti_is = at_most_one (bodies ext_fti es) (λ two. h Repeated (es, x, inl two));
            fdt_is = fdt_is;
            cenc_is = cenc_is;
            fdt_len = short_body fdt (bodies ext_fdt es) fdt_is
                (short_bodies ext_fdt (omega arith) es x.each);
            cenc_len = short_body cenc (bodies ext_cenc es) cenc_is
                (short_bodies ext_cenc (omega arith) es x.each);
          } in
          let passes : PassesUpTo 9 d = λ r lt a. h r a in (
            content_at d fti fdt,
            spells passes f (fti_taken fti (λ a. h FtiLength (es, x, a))
                (λ fault a. h (Information fault) (es, x, a))) (λ zero. fdt_taken (bodies ext_fdt es)
                (λ none. h NoInstance (zero, (es, x, none))) (λ a. h FluteVersion (zero, (es, x, a))))
                (plain_taken cenc (λ a. h ContentEncoded (es, x, a)))
                (tail_taken (after_header d) (λ a. h PayloadIdCut a)),
          )
    ]

-- The outcome of a step, from that of its store (specs/Outcome).
use Rattle.std.proofs.Common.{◌≡◌, ◌≢◌, ℕ, false, List, [], ◌∷◌, ◌++◌, map, cond, eqb, refl, sym}
use Rattle.std.proofs.Common.{◌∙◌, ap, subst, arith, ◌<◌, length, get_or, ◌⊎◌, inl, inr, Result, Ok}
use Rattle.std.proofs.Common.{Err, OnOk, OnErr, IfErr, ◌&&◌, eq-eqb}
use Rattle.std.specs.List.{AllByRecursion}
use Rattle.std.proofs.Math.ListN.{set, length-set}
use Rattle.std.proofs.lemmas.Bool.{cases_eq, ne_eqb}
use Rattle.std.proofs.lemmas.List.{map-set, get_or-set_same, get_or-set_other, set-set, set-get_or}
use Rattle.std.proofs.lemmas.List.{get_or-map, get_or_default, length-map}
use Rattle.flute_join.specs.declared.refusal.JoinRefusal.{JoinRefusal}
use Rattle.flute_join.specs.declared.refusal.JoinRefusal.TheVariants as join
use Rattle.flute_parts.specs.declared.fact.Fact.{Fact}
use Rattle.flute_parts.specs.Facts.{Same, Below}
use Rattle.flute_parts.proofs.Public.{Below-from_Same, Same-sym, Same-twice}
use Rattle.flute_wire.specs.Reading.{facts}
use Rattle.flute_store.specs.Held.{HasCell}
use Rattle.flutejoin_replicas.specs.declared.steps.Step.{Step}
use Rattle.flutejoin_replicas.specs.declared.steps.Step.TheVariants.{Take, Load, Add, Merge, Reopen}
use Rattle.flutejoin_replicas.specs.declared.steps.StepFault.{StepFault}
use Rattle.flutejoin_replicas.specs.declared.steps.StepFault.TheVariants.{NoReplica, Full}
use Rattle.flutejoin_replicas.specs.declared.steps.StepFault.TheVariants.{OutOfMemory}
use Rattle.flutejoin.specs.declared.limits.TheConstants.{MAX_ENTRIES}
use Rattle.flutejoin_replicas.specs.Faults.{fault_of_join}
use Rattle.flutejoin_replicas.specs.Held.{Held, Capacity, IsOver}
use Rattle.flutejoin_replicas.specs.Steps.{held_by, given_to, held_after_step, NamesReplicas}
use Rattle.flutejoin_replicas.specs.Steps.{target_of, LoadsJournal, FitsStep, EachSame, EachBelow}
use Rattle.flutejoin.specs.Refused.{is_refused}
use Rattle.flutejoin_replicas.specs.Counts.{is_refused_take, one_more}
use Rattle.flutejoin_replicas.specs.Outcome.{WritesWithin, IsDone, IsRefused, HasCause, IsHarmless}
use Rattle.flutejoin_replicas.proofs.Receptions.{IsOver-below}
use Rattle.flutejoin_replicas.proofs.Places.{EachBelow-itself, EachBelow-set, set_same}
use Rattle.flutejoin_replicas.proofs.Places.{given_to-same, given_to-above}

-- one replica has new facts, and nothing else changed
pub record IsChangedAt (before now : Held) (i : ℕ) (old content : List Fact) : Type 0 where
  pub within : i < length before.contents
  pub held : held_by before.contents i ≡ old
  pub contents : now.contents ≡ set before.contents i content
  pub refused : now.refused ≡ before.refused

-- what a list of replicas shows
abbrev pub shown : {X : Type 0} → (X → List Fact) → (X → ℕ) → List X → Held
shown store refused xs = record { contents = map store xs; refused = map refused xs }

-- a list has a replica at this place
pub record IsPlaced {X : Type 0} (xs : List X) (i : ℕ) (x : X) : Type 0 where
  pub within : i < length xs
  pub is : x ≡ get_or xs i x

pub changed : {X : Type 0} (store : X → List Fact) (refused : X → ℕ) {xs : List X} {i : ℕ} {x : X}
    (y : X) → IsPlaced xs i x → refused y ≡ refused x
    → IsChangedAt (shown store refused xs) (shown store refused (set xs i y)) i (store x) (store y)
changed store refused {xs = xs} {i = i} {x = x} y placed same =
    record {
      within = omega (arith, length-map xs store, placed.within);
      held = get_or-map store xs i x [] placed.within ∙ ap store (sym placed.is);
      contents = map-set store xs i y;
      refused =
          let there = get_or-map refused xs i x (refused y) placed.within in
          map-set refused xs i y
          ∙ set_same (map refused xs) i (refused y) (same ∙ ap refused placed.is ∙ sym there);
    }

-- the place of a replica that is shown is in the list
pub within_items : {X : Type 0}
    → (store : X → List Fact) (refused : X → ℕ) (xs : List X) (before : Held) (i : ℕ)
    → shown store refused xs ≡ before → i < length before.contents → i < length xs
within_items store refused xs before i e within =
    let P : Held → Type 0 = λ h. i < length h.contents in
    let k : i < length (map store xs) = subst P (sym e) within in
    omega (arith, length-map xs store)

pub placed_at : {X : Type 0} (store : X → List Fact) (refused : X → ℕ) {xs : List X}
    {before : Held} {i : ℕ} {x : X} → shown store refused xs ≡ before
    → i < length before.contents → x ≡ get_or xs i x → IsPlaced xs i x
placed_at store refused {xs = xs} {before = before} {i = i} e within is =
    record { within = within_items store refused xs before i e within; is = is }

pub unchanged_at : (before now : Held) (i : ℕ) (old content : List Fact)
    → IsChangedAt before now i old content → content ≡ old → now ≡ before
unchanged_at before now i old content h e =
    let k : now.contents ≡ before.contents =
    h.contents ∙ ap (set before.contents i) (e ∙ sym h.held)
    ∙ set-get_or before.contents i [] in
    let with_contents : List (List Fact) → Held =
    λ x. record { contents = x; refused = now.refused } in
    let with_refused : List ℕ → Held = λ x. record { contents = before.contents; refused = x } in
    ap with_contents k ∙ ap with_refused h.refused

pub content_at : (before now : Held) (i : ℕ) (old content : List Fact)
    → IsChangedAt before now i old content → held_by now.contents i ≡ content
content_at before now i old content h =
    rw h.contents (get_or-set_same before.contents i content [] h.within)

pub others_at : (before now : Held) (i : ℕ) (old content : List Fact)
    → IsChangedAt before now i old content → (r : ℕ) → r ≢ i
    → held_by now.contents r ≡ held_by before.contents r
others_at before now i old content h r ne =
    rw h.contents (get_or-set_other before.contents i r content [] ne)

-- a step names replicas that are there, reads and writes journals within the bound, and counts no
-- refusal
pub record IsPlainStep (before : Held) (step : Step) : Type 0 where
  pub named : target_of step < length before.contents
      → NamesReplicas (length before.contents) step
  pub journal : LoadsJournal MAX_ENTRIES step
  pub readable : WritesWithin before.contents step
  pub accepted : (r : ℕ) → is_refused_take r step ≡ false

-- a step gives its replica more facts, and P holds of these
abbrev pub Gives : (List Fact → Type 0) → Held → Step → Type 0
Gives P before step = (origin : List Fact) → FitsStep step origin → (more : List Fact)
    × (held_after_step before.contents step origin
    ≡ given_to before.contents (target_of step) more) × P more

-- a step that gave its replica what it gives
pub given_done : (limit : Capacity) {before : Held} (step : Step) {now : Held}
    {old content : List Fact} → IsChangedAt before now (target_of step) old content
    → IsPlainStep before step → Gives (λ more. Same content (old ++ more)) before step
    → ¬ IsOver content limit → IsDone limit before step now
given_done limit {before = before} step {now = now} {old = old} {content = content} h plain gives
    within =
    record {
      named = plain.named h.within;
      as_many = ap length h.contents ∙ length-set before.contents (target_of step) content;
      journal = plain.journal;
      readable = plain.readable;
      content = λ origin fits.
          let g = gives origin fits in
          rw (g.1, h.contents)
          (given_to-same before.contents (target_of step) g.0 content h.within (rw h.held g.2));
      others = others_at before now (target_of step) old content h;
      refused = λ r. rw (h.refused, plain.accepted r) refl;
      within = λ over.
          let P : List Fact → Type 0 = λ F. IsOver F limit in
          within (subst P (content_at before now (target_of step) old content h) over);
    }

-- no step takes anything away
pub held_after-above : (held : List (List Fact)) (step : Step) (origin : List Fact)
    → EachBelow held (held_after_step held step origin)
held_after-above held (Take replica sender datagram) origin =
    given_to-above held replica (facts sender datagram)
held_after-above held (Load replica journal) origin = given_to-above held replica origin
held_after-above held (Add replica fact) origin = given_to-above held replica (fact ∷ [])
held_after-above held (Merge into from) origin = given_to-above held into (held_by held from)
held_after-above held (Reopen replica) origin = EachBelow-itself held

-- a step that was refused and changed nothing
pub unchanged_refused : (limit : Capacity) (before : Held) (step : Step) (now : Held)
    (fault : StepFault) → now ≡ before
    → ((origin : List Fact) → FitsStep step origin
    → HasCause limit before.contents step origin fault) → IsRefused limit before step now fault
unchanged_refused limit before step now fault e cause =
    let P : Held → Type 0 = λ h. IsRefused limit before step h fault in
    subst P (sym e) (record {
      cause = cause;
      kept = EachBelow-itself before.contents;
      no_more = λ origin _. held_after-above before.contents step origin;
      others = λ r _. refl;
      refused = refl;
      unchanged = λ _. refl;
    })

-- a step that names a replica that is not there
pub not_there : (limit : Capacity) (before : Held) (step : Step)
    → ¬ NamesReplicas (length before.contents) step → IsRefused limit before step before NoReplica
not_there limit before step none =
    unchanged_refused limit before step before NoReplica refl (λ origin _. none)

-- what is given to a replica is over the limit
pub over_given : (limit : Capacity) (held : List (List Fact)) (i : ℕ) (old more : List Fact)
    → i < length held → held_by held i ≡ old → IsOver (old ++ more) limit
    → IsOver (held_by (given_to held i more) i) limit
over_given limit held i old more within e over =
    rw (get_or-set_same held i (held_by held i ++ more) [], e) over

-- a step that was refused for want of memory, and left its replica as it was
pub memory_refused : (limit : Capacity) (before : Held) (step : Step) (now : Held)
    (old content : List Fact) → IsChangedAt before now (target_of step) old content → content ≡ old
    → IsRefused limit before step now OutOfMemory
memory_refused limit before step now old content h same =
    unchanged_refused limit before step now OutOfMemory
    (unchanged_at before now (target_of step) old content h same) (λ origin _. tt)

-- a step that was refused for a limit, and left its replica as it was
pub full_refused : (limit : Capacity) {before : Held} (step : Step) {now : Held}
    {old content : List Fact} → IsChangedAt before now (target_of step) old content
    → content ≡ old → Gives (λ more. IsOver (old ++ more) limit) before step
    → IsRefused limit before step now Full
full_refused limit {before = before} step {now = now} {old = old} {content = content} h same
    gives =
    unchanged_refused limit before step now Full
    (unchanged_at before now (target_of step) old content h same)
    (λ origin fits.
    let g = gives origin fits in
    let over = over_given limit before.contents (target_of step) old g.0 h.within h.held g.2 in
    inl (rw g.1 over))

-- an `Add` that was refused
pub added_refused : (limit : Capacity) {before now : Held} {i : ℕ} {old content : List Fact}
    (fact : Fact) (f : JoinRefusal) → IsChangedAt before now i old content → content ≡ old
    → (f ≡ join.Full → IsOver (old ++ fact ∷ []) limit)
    → IsRefused limit before (Add i fact) now (fault_of_join f)
added_refused limit {i = i} fact join.Full h same over =
    full_refused limit (Add i fact) h same (λ origin _. (fact ∷ [], refl, over refl))
added_refused limit {before = before} {now = now} {i = i} {old = old} {content = content} fact
    join.OutOfMemory h same over =
    memory_refused limit before (Add i fact) now old content h same

-- what was added is not over the capacity
pub added_within : (limit : Capacity) (F content : List Fact) → ¬ IsOver F limit → Same content F
    → ¬ IsOver content limit
added_within limit F content none same over =
    none (IsOver-below content F limit (Below-from_Same content F same) over)

-- a step that was refused with its replica between what it was and what it should be
pub between_refused : (limit : Capacity) {before : Held} (step : Step) {now : Held}
    {old content : List Fact} (fault : StepFault)
    → IsChangedAt before now (target_of step) old content
    → (IsHarmless step fault → ⊥)
    → ((origin : List Fact) → FitsStep step origin
    → HasCause limit before.contents step origin fault)
    → Below old content → Gives (λ more. Below content (old ++ more)) before step
    → IsRefused limit before step now fault
between_refused limit {before = before} step {now = now} {old = old} {content = content} fault h
    harmful cause kept gives =
    let held = before.contents in
    let i = target_of step in
    record {
      cause = cause;
      kept =
          let P : List (List Fact) → Type 0 = λ A. EachBelow A now.contents in
          subst P (set-get_or held i []) (rw h.contents
          (EachBelow-set held held i (held_by held i) content h.within (EachBelow-itself held)
          (rw h.held kept)));
      no_more = λ origin fits.
          let g = gives origin fits in
          rw (g.1, h.contents)
          (EachBelow-set held held i content (held_by held i ++ g.0) h.within
          (EachBelow-itself held) (rw h.held g.2));
      others = others_at before now i old content h;
      refused = h.refused;
      unchanged = λ harmless. absurd (harmful harmless);
    }

-- a `Take`, at a replica that took the datagram or counted its refusal
pub taken_done : {sender : ℕ} {datagram : List ℕ} {X : Type 0}
    → (store : X → List Fact) (refused : X → ℕ) {xs : List X} {i : ℕ} {x : X} (y : X)
    (limit : Capacity) → IsPlaced xs i x → Same (store y) (store x ++ facts sender datagram)
    → refused y ≡ cond (is_refused datagram) (one_more (refused x)) (refused x)
    → ¬ IsOver (store y) limit
    → IsDone limit (shown store refused xs) (Take i sender datagram)
    (shown store refused (set xs i y))
taken_done {sender} {datagram} store refused {xs = xs} {i = i} {x = x} y limit placed same counted
    inside =
    let stores = map store xs in
    let counts = map refused xs in
    let within : i < length xs = placed.within in
    let within_map : i < length stores = omega (arith, within, length-map xs store) in
    let within_counts : i < length counts = omega (arith, within, length-map xs refused) in
    let held : held_by stores i ≡ store x =
    get_or-map store xs i x [] within ∙ ap store (sym placed.is) in
    let count : get_or counts i 0 ≡ refused x =
    get_or-map refused xs i x 0 within ∙ ap refused (sym placed.is) in
    record {
      named = within_map;
      as_many = ap length (map-set store xs i y) ∙ length-set stores i (store y);
      journal = tt;
      readable = tt;
      content = λ origin _.
          rw (map-set store xs i y)
          (given_to-same stores i (facts sender datagram) (store y) within_map (rw held same));
      others = λ r ne.
          rw (map-set store xs i y) (get_or-set_other stores i r (store y) [] ne);
      refused = λ r.
          rw (map-set refused xs i y)
          (elim (cases_eq i r) [
            | inl e ↦
                let P : ℕ → Type 0 = λ q.
                get_or (set counts i (refused y)) q 0
                ≡ cond (eqb i q && is_refused datagram) (one_more (get_or counts q 0))
                (get_or counts q 0) in
                subst P e
                (rw (eq-eqb i i refl, get_or-set_same counts i (refused y) 0, count) counted)
            | inr ne ↦
                rw (ne_eqb i r ne) (get_or-set_other counts i r (refused y) 0 (λ e. ne (sym e)))
          ]);
      within = λ over.
          let P : List Fact → Type 0 = λ F. IsOver F limit in
          let there = get_or-set_same stores i (store y) [] within_map in
          inside (subst P (ap (λ A. held_by A i) (map-set store xs i y) ∙ there) over);
    }

-- a `Take` that was refused
pub taken_refused : {sender : ℕ} {datagram : List ℕ} (limit : Capacity) {before now : Held} {i : ℕ}
    {old content : List Fact} (fault : StepFault)
    → IsChangedAt before now i old content → content ≡ old
    → ((fault ≡ Full) × IsOver (old ++ facts sender datagram) limit) ⊎ (fault ≡ OutOfMemory)
    → IsRefused limit before (Take i sender datagram) now fault
taken_refused {sender} {datagram} limit {before = before} {now = now} {i = i} {old = old}
    {content = content} fault h same cause =
    let step = Take i sender datagram in
    let P : StepFault → Type 0 = λ f. IsRefused limit before step now f in
    elim cause [
      | inl full ↦
          subst P (sym full.0)
          (full_refused limit step h same (λ origin _. (facts sender datagram, refl, full.1)))
      | inr memory ↦
          subst P (sym memory) (memory_refused limit before step now old content h same)
    ]

pub ok_from_three : {T E P Q R S : Type 0} → (r : Result T E) → OnOk r P → OnOk r Q → OnOk r R
    → (P → Q → R → S) → OnOk r S
ok_from_three (Ok x) p q h f = f p q h
ok_from_three (Err e) p q h f = tt

pub err_from : {T E Q : Type 0} → {P R : E → Type 0} (r : Result T E) → IfErr r P → OnErr r Q
    → ((e : E) → P e → Q → R e) → IfErr r R
err_from (Ok x) p q f = tt
err_from (Err e) p q f = f e p q

-- Two replicas are merged: the first has y at its place while the second is read, and then w.
pub record IsMerging {X : Type 0} (refused : X → ℕ) (xs : List X) (i j : ℕ) (x y z w : X)
    : Type 0 where
  pub first : IsPlaced xs i x
  pub within : j < length xs
  pub apart : i ≡ j → ⊥
  pub counted : refused w ≡ refused x
  pub second : z ≡ get_or (set xs i y) j z

pub merging : {X : Type 0} (refused : X → ℕ) {xs : List X} {i j : ℕ} {x y z w : X}
    → IsPlaced xs i x → j < length xs → (i ≡ j → ⊥) → refused w ≡ refused x
    → z ≡ get_or (set xs i y) j z → IsMerging refused xs i j x y z w
merging refused first within apart counted second =
    record {
      first = first;
      within = within;
      apart = apart;
      counted = counted;
      second = second;
    }

-- what the second replica holds
merged_from : {X : Type 0} (store : X → List Fact) {refused : X → ℕ} {xs : List X} {i j : ℕ}
    {x y z w : X} → IsMerging refused xs i j x y z w → held_by (map store xs) j ≡ store z
merged_from store {xs = xs} {i = i} {j = j} {y = y} {z = z} m =
    let there : z ≡ get_or xs j z =
    m.second ∙ get_or-set_other xs i j y z (λ e. m.apart (sym e)) in
    get_or-map store xs j z [] m.within ∙ ap store (sym there)

-- a `Merge` that was done
pub merged_done : {X : Type 0} (store : X → List Fact) {refused : X → ℕ} {xs : List X} {i j : ℕ}
    {x y z w : X} (limit : Capacity) → IsMerging refused xs i j x y z w
    → Same (store w) (store x ++ store z) → ¬ IsOver (store w) limit
    → IsDone limit (shown store refused xs) (Merge i j)
    (shown store refused (set (set xs i y) i w))
merged_done store {refused = refused} {xs = xs} {i = i} {j = j} {y = y} {z = z} {w = w} limit m
    joined inside =
    rw (set-set xs i y w)
    (given_done limit (Merge i j) (changed store refused w m.first m.counted)
    (record {
      named = λ k. (k, omega (arith, m.within, length-map xs store));
      journal = tt;
      readable = tt;
      accepted = λ r. refl;
    })
    (λ origin _. (store z, ap (given_to (map store xs) i) (merged_from store m), joined)) inside)

-- a `Merge` that was refused
pub merged_refused : {X : Type 0} (store : X → List Fact) {refused : X → ℕ} {xs : List X}
    {i j : ℕ} {x y z w : X} (limit : Capacity) (fault : StepFault)
    → IsMerging refused xs i j x y z w → Below (store x) (store w)
    → Below (store w) (store x ++ store z)
    → ((fault ≡ Full) × IsOver (store x ++ store z) limit) ⊎ (fault ≡ OutOfMemory)
    → IsRefused limit (shown store refused xs) (Merge i j)
    (shown store refused (set (set xs i y) i w)) fault
merged_refused store {refused = refused} {xs = xs} {i = i} {j = j} {x = x} {y = y} {z = z} {w = w}
    limit fault m below above cause =
    let held = merged_from store m in
    let h = changed store refused w m.first m.counted in
    let P : StepFault → Type 0 = λ f.
    IsRefused limit (shown store refused xs) (Merge i j) (shown store refused (set xs i w)) f
    in
    rw (set-set xs i y w)
    (elim cause [
      | inl full ↦
          let over =
          over_given limit (map store xs) i (store x) (store z) h.within h.held full.1 in
          subst P (sym full.0)
          (between_refused limit (Merge i j) Full h (λ e. e) (λ origin _. inl (rw held over)) below
          (λ origin _. (store z, ap (given_to (map store xs) i) held, above)))
      | inr memory ↦
          subst P (sym memory)
          (between_refused limit (Merge i j) OutOfMemory h (λ e. e) (λ origin _. tt) below
          (λ origin _. (store z, ap (given_to (map store xs) i) held, above)))
    ])

-- a `Merge` of a replica into itself gives nothing new, and changed nothing
pub merged_into_itself : (limit : Capacity) (before : Held) (i : ℕ) → i < length before.contents
    → ¬ IsOver (held_by before.contents i) limit → IsDone limit before (Merge i i) before
merged_into_itself limit before i within inside =
    let here = held_by before.contents i in
    record {
      named = (within, within);
      as_many = refl;
      journal = tt;
      readable = tt;
      content = λ origin _.
          let P : List (List Fact) → Type 0 = λ A.
          EachSame (given_to before.contents i here) A in
          subst P (set-get_or before.contents i [])
          (given_to-same before.contents i here here within (Same-sym _ _ (Same-twice here)));
      others = λ r _. refl;
      refused = λ r. refl;
      within = inside;
    }

-- the facts shown of a replica
pub held_at : {X : Type 0} (store : X → List Fact) (refused : X → ℕ) {xs : List X} {before : Held}
    {i : ℕ} {x : X} → shown store refused xs ≡ before → IsPlaced xs i x
    → held_by before.contents i ≡ store x
held_at store refused {xs = xs} {i = i} {x = x} e placed =
    ap (λ h. held_by h.contents i) (sym e) ∙ get_or-map store xs i x [] placed.within
    ∙ ap store (sym placed.is)

-- a replica within its limit is shown so
pub inside_at : {X : Type 0} (store : X → List Fact) (refused : X → ℕ) {xs : List X}
    {before : Held} {i : ℕ} {x : X} (limit : Capacity) → shown store refused xs ≡ before
    → IsPlaced xs i x → ¬ IsOver (store x) limit → ¬ IsOver (held_by before.contents i) limit
inside_at store refused limit e placed inside over =
    let P : List Fact → Type 0 = λ F. IsOver F limit in
    inside (subst P (held_at store refused e placed) over)

-- the cause of a step's fault, where a join was refused
pub join_cause : {T : Type 0}
    → (r : Result T JoinRefusal) (f : JoinRefusal) (F : List Fact) (limit : Capacity)
    (fault : StepFault) → r ≡ Err f → fault ≡ fault_of_join f → (r ≡ Err join.Full → IsOver F limit)
    → ((fault ≡ Full) × IsOver F limit) ⊎ (fault ≡ OutOfMemory)
join_cause r join.Full F limit fault e d over = inl (d, over e)
join_cause r join.OutOfMemory F limit fault e d over = inr d

-- two reads of one place
pub same_read : {X : Type 0} → (xs : List X) (i : ℕ) (x y : X) → i < length xs → x ≡ get_or xs i x
    → y ≡ get_or xs i y → x ≡ y
same_read xs i x y within is also = is ∙ get_or_default xs i x y within ∙ sym also

-- facts at held cells of a replica, as its store and the caller see them
pub cells_at : (contents : List (List Fact)) {replica i : ℕ} {F fs gs : List Fact}
    → held_by contents i ≡ F → i ≡ replica → gs ≡ fs
    → AllByRecursion (HasCell (held_by contents replica)) fs → AllByRecursion (HasCell F) gs
cells_at contents at is same cells = rw (← at, is, same) cells

-- What the changes of the calls in memory make of the disk.
use Rattle.std.proofs.Common.{◌≡◌, ◌≢◌, inl, ⊎_elim, ℕ, suc, ◌+◌, ◌-◌, get_or, ◌<◌, ◌≤◌, List, [], ◌∷◌, ◌++◌, length, take, Option, Some, None, Bool, true, false, refl, sym, ap, ◌∙◌, subst, arith, if◌then◌else◌, length-take}
use Rattle.std.specs.Str.{bytes_eq}
use Rattle.std.specs.Bool.{nat_eq}
use Rattle.std.proofs.lemmas.Slice.Eq.{bytes_eq-Decides}
use Rattle.std.proofs.lemmas.Bool.{false_from_ne_true}
use Rattle.std.proofs.lemmas.Bool.Decides.{Decides-eqb}
use Rattle.std.proofs.lemmas.List.{take_more, length_push}
use Rattle.std.proofs.lemmas.Option.{none-some, same_Some}
use Rattle.std.proofs.lemmas.List.Elements.{All-nil, All-cons}
use Rattle.flute_calls.specs.Disks.{Disk, Entry, Held, Touches, Creates, CreatesWithin, Grows, Syncs, Renames, Unlinks, UnlinksWithin, Confirms, HasHad, led_to}
use Rattle.flute_calls.specs.Moments.{Run, Does, Passes, no_run}
use Rattle.flute_asides.specs.Asides.{Empties}
use Rattle.flute_memory.specs.MemoryDisk.{with_name, with_file, empty, unsure, after, next, run_from, run_of, AreUnused, IsOfEarlier}
use Rattle.flute_memory.specs.MemoryFolders.{led_within, within_from, within, AddsBytes}
use Rattle.flute_memory.specs.declared.changes.Change.{Change}
use Rattle.flute_memory.specs.declared.changes.Change.TheVariants.{Made, FolderMade, MadeWithin, Written, Truncated, Synced, Renamed, Removed, RemovedWithin, Emptied, Confirmed}

bytes_same : (a : List ℕ) → bytes_eq a a ≡ true
bytes_same a = (bytes_eq-Decides a a).1 refl

bytes_differ : (a b : List ℕ) → a ≢ b → bytes_eq a b ≡ false
bytes_differ a b not = false_from_ne_true _ (λ e. not ((bytes_eq-Decides a b).0 e))

name_here : (name : List ℕ) (target : Option ℕ) (names : List ℕ → Entry)
    → with_name name target names name ≡ led_to target (names name)
name_here name target names =
    ap (λ b. if b then led_to target (names name) else names name) (bytes_same name)

name_elsewhere : (name : List ℕ) (target : Option ℕ) (names : List ℕ → Entry) (other : List ℕ)
    → other ≢ name → with_name name target names other ≡ names other
name_elsewhere name target names other not =
    ap (λ b. if b then led_to target (names other) else names other) (bytes_differ other name not)

file_here : (k : ℕ) (file : Held) (files : ℕ → Held) → with_file k file files k ≡ file
file_here k file files = ap (λ b. if b then file else files k) ((Decides-eqb k k).1 refl)

file_elsewhere : (k : ℕ) (file : Held) (files : ℕ → Held) (j : ℕ) → j ≢ k
    → with_file k file files j ≡ files j
file_elsewhere k file files j not =
    ap (λ b. if b then file else files j) (false_from_ne_true _ (λ e. not ((Decides-eqb j k).0 e)))

-- the name has only led to files below n
abbrev Below : ℕ → Entry → Type 0
Below n e = (j : ℕ) → HasHad e j → j < n

below-more : (n : ℕ) (e : Entry) → Below n e → Below (suc n) e
below-more n e below j had = omega (arith, below j had)

below-led : (n : ℕ) (target : Option ℕ) (e : Entry) → Below n e
    → ((j : ℕ) → Some j ≡ target → j < n) → Below n (led_to target e)
below-led n target e below new j had = ⊎_elim (λ is. new j is) (below j) had

below-pick : (n : ℕ) (b : Bool) (e f : Entry) → Below n e → Below n f → Below n (if b then e else f)
below-pick n true e f first second = first
below-pick n false e f first second = second

below-with : (n : ℕ) (name : List ℕ) (target : Option ℕ) (names : List ℕ → Entry)
    → ((other : List ℕ) → Below n (names other)) → ((j : ℕ) → Some j ≡ target → j < n)
    → (other : List ℕ) → Below n (with_name name target names other)
below-with n name target names below new other =
    below-pick n (bytes_eq other name) _ _ (below-led n target (names other) (below other) new) (below other)

below-after : (c : Change) (k : ℕ) (d : Disk) → ((other : List ℕ) → Below k (d.names other))
    → (other : List ℕ) → Below (suc k) ((after c k d).names other)
below-after (Made name) k d below other = below-with (suc k) name.items (Some k) d.names
    (λ o. below-more k (d.names o) (below o))
    (λ j is. subst (λ i. i < suc k) (sym (same_Some j k is)) (omega arith)) other
below-after (FolderMade name) k d below other = below-with (suc k) name.items (Some k) d.names
    (λ o. below-more k (d.names o) (below o))
    (λ j is. subst (λ i. i < suc k) (sym (same_Some j k is)) (omega arith)) other
below-after (MadeWithin folder name) k d below other = below-more k (d.names other) (below other)
below-after (Written file bytes) k d below other = below-more k (d.names other) (below other)
below-after (Truncated file) k d below other = below-more k (d.names other) (below other)
below-after (Synced file) k d below other = below-more k (d.names other) (below other)
below-after (Renamed source target) k d below other =
    below-with (suc k) target.items (d.names source.items).leads (with_name source.items None d.names)
    (λ o. below-with (suc k) source.items None d.names (λ p. below-more k (d.names p) (below p))
    (λ j is. absurd (none-some j (sym is))) o)
    (λ j is. omega (arith, below source.items j (inl is))) other
below-after (Removed name) k d below other = below-with (suc k) name.items None d.names
    (λ o. below-more k (d.names o) (below o)) (λ j is. absurd (none-some j (sym is))) other
below-after (RemovedWithin folder name) k d below other = below-more k (d.names other) (below other)
below-after (Emptied folder) k d below other = below-more k (d.names other) (below other)
below-after Confirmed k d below other = below-more k (d.names other) (below other)

abbrev AllBelow : Run → Type 0
AllBelow r = (other : List ℕ) → Below (length r.past) (r.now.names other)

below-from : (r : Run) (cs : List Change) → AllBelow r → AllBelow (run_from r cs)
below-from r [] below = below
below-from r (c ∷ cs) below =
    below-from (next r c) cs (λ other. below-after c (length r.past) r.now below other)

below-of : (cs : List Change) → AllBelow (run_of cs)
below-of cs = below-from _ cs (λ other j had. ⊎_elim (λ is. absurd (none-some j (sym is))) (λ no. absurd no) had)

length-from : (r : Run) (cs : List Change) → length (run_from r cs).past ≡ length r.past + length cs
length-from r [] = omega arith
length-from r (c ∷ cs) = let rest = length-from (next r c) cs in omega (arith, rest)

-- each change is a moment
pub length-of : (cs : List Change) → length (run_of cs).past ≡ length cs
length-of cs = let e = length-from no_run cs in omega (arith, e)

from-push : (r : Run) (cs : List Change) (c : Change)
    → run_from r (cs ++ c ∷ []) ≡ next (run_from r cs) c
from-push r [] c = refl
from-push r (first ∷ cs) c = from-push (next r first) cs c

of-push : (cs : List Change) (c : Change) → run_of (cs ++ c ∷ []) ≡ next (run_of cs) c
of-push cs c = from-push _ cs c

-- what was done, as the log has one change more
pub does-push : (R : Disk → Disk → Type 0) (cs new : List Change) (c : Change) → new ≡ cs ++ c ∷ []
    → R (run_of cs).now (after c (length (run_of cs).past) (run_of cs).now)
    → Does R (run_of cs) (run_of new)
does-push R cs new c is made = subst (λ r. Does R (run_of cs) r)
    (sym (ap run_of is ∙ of-push cs c)) (record { made = made; past = refl })

file_unused : (k i : ℕ) (file : Held) (files : ℕ → Held) → i < k
    → ((j : ℕ) → k ≤ j → files j ≡ empty) → (j : ℕ) → k ≤ j → with_file i file files j ≡ empty
file_unused k i file files lt unused j le =
    file_elsewhere i file files j (λ e. omega (arith, e, lt, le)) ∙ unused j le

unused_later : (k : ℕ) (d : Disk) → AreUnused k d → AreUnused (suc k) d
unused_later k d unused j le = unused j (omega (arith, le))

unused-after : (c : Change) (k : ℕ) (d : Disk) → IsOfEarlier c k → AreUnused k d
    → AreUnused (suc k) (after c k d)
unused-after (Made name) k d earlier unused =
    file_unused (suc k) k empty d.files (omega arith) (unused_later k d unused)
unused-after (FolderMade name) k d earlier unused =
    file_unused (suc k) k empty d.files (omega arith) (unused_later k d unused)
unused-after (MadeWithin folder name) k d earlier unused =
    file_unused (suc k) k empty (unsure folder d.files) (omega arith)
    (file_unused (suc k) folder _ d.files (omega (arith, earlier)) (unused_later k d unused))
unused-after (Written file bytes) k d earlier unused =
    file_unused (suc k) file _ d.files (omega (arith, earlier)) (unused_later k d unused)
unused-after (Truncated file) k d earlier unused =
    file_unused (suc k) file _ d.files (omega (arith, earlier)) (unused_later k d unused)
unused-after (Synced file) k d earlier unused =
    file_unused (suc k) file _ d.files (omega (arith, earlier)) (unused_later k d unused)
unused-after (Renamed source target) k d earlier unused = unused_later k d unused
unused-after (Removed name) k d earlier unused = unused_later k d unused
unused-after (RemovedWithin folder name) k d earlier unused =
    file_unused (suc k) folder _ d.files (omega (arith, earlier)) (unused_later k d unused)
unused-after (Emptied folder) k d earlier unused =
    file_unused (suc k) folder _ d.files (omega (arith, earlier)) (unused_later k d unused)
unused-after Confirmed k d earlier unused = unused_later k d unused

-- the log with one change more, if memory was found for it
pub unused-pushed : (b : Bool) (cs new : List Change) (c : Change)
    → new ≡ (if b then cs ++ c ∷ [] else cs) → IsOfEarlier c (length cs)
    → AreUnused (length cs) (run_of cs).now → AreUnused (length new) (run_of new).now
unused-pushed true cs new c is earlier unused =
    let count : suc (length cs) ≡ length (cs ++ c ∷ []) = omega (arith, length_push cs c) in
    subst (λ l. AreUnused (length l) (run_of l).now) (sym is)
    (subst (λ n. AreUnused n (run_of (cs ++ c ∷ [])).now) count
    (subst (λ r. AreUnused (suc (length cs)) r.now) (sym (of-push cs c))
    (subst (λ k. AreUnused (suc (length cs)) (after c k (run_of cs).now)) (sym (length-of cs))
    (unused-after c (length cs) (run_of cs).now earlier unused))))
unused-pushed false cs new c is earlier unused =
    subst (λ l. AreUnused (length l) (run_of l).now) (sym is) unused

-- each change, where its names are these bytes
pub makes : (cs : List Change) (name : List ℕ) → AreUnused (length cs) (run_of cs).now
    → ((run_of cs).now.names name).leads ≡ None → Creates name (length (run_of cs).past) (run_of cs).now (record {
      names = with_name name (Some (length (run_of cs).past)) (run_of cs).now.names;
      files = with_file (length (run_of cs).past) (record { bytes = []; on_disk = false }) (run_of cs).now.files;
    })
makes cs name unused free =
    let k = length (run_of cs).past in
    let d = (run_of cs).now in
    record {
      free = free;
      fresh = λ other had. let lt = below-of cs other k had in omega (arith, lt);
      unused = unused k (omega (arith, length-of cs));
      here = name_here name (Some k) d.names;
      elsewhere = λ other differs. name_elsewhere name (Some k) d.names other differs;
      others = λ j differs. file_elsewhere k _ d.files j differs;
      empty = file_here k _ d.files;
    }

touches : (d : Disk) (k : ℕ) (file : Held)
    → Touches k d (record d { files = with_file k file d.files })
touches d k file = record {
  names = λ name. refl;
  others = λ j differs. file_elsewhere k file d.files j differs;
}

pub writes : (d : Disk) (k : ℕ) (bytes : List ℕ) → Grows k bytes d (record d {
  files = with_file k (record { bytes = (d.files k).bytes ++ bytes; on_disk = false }) d.files;
})
writes d k bytes = record { file = file_here k _ d.files; touches = touches d k _ }

pub empties : (d : Disk) (n k : ℕ) → Empties k d (after (Truncated k) n d)
empties d n k = record { bytes = ap (λ h. h.bytes) (file_here k _ d.files); touches = touches d k _ }

pub syncs : (d : Disk) (n k : ℕ) → Syncs k d (after (Synced k) n d)
syncs d n k = record { file = file_here k _ d.files; touches = touches d k _ }

pub renames : (d : Disk) (source target : List ℕ) → source ≢ target
    → Renames source target d (record d {
      names = with_name target (d.names source).leads (with_name source None d.names);
    })
renames d source target two =
    let without = with_name source None d.names in
    record {
      taken = name_elsewhere target (d.names source).leads without source two
          ∙ name_here source None d.names;
      given = name_here target (d.names source).leads without
          ∙ ap (led_to (d.names source).leads)
          (name_elsewhere source None d.names target (λ e. two (sym e)));
      elsewhere = λ other a b. name_elsewhere target (d.names source).leads without other b
          ∙ name_elsewhere source None d.names other a;
      files = λ k. refl;
    }

pub unlinks : (d : Disk) (name : List ℕ)
    → Unlinks name d (record d { names = with_name name None d.names })
unlinks d name = record {
  here = name_here name None d.names;
  elsewhere = λ other differs. name_elsewhere name None d.names other differs;
  files = λ k. refl;
}

pub confirms : (d : Disk) (n : ℕ) → Confirms (λ name. true) d (after Confirmed n d)
confirms d n = record { here = λ name is. refl; elsewhere = λ name. inl refl; files = λ k. refl }

off-disk : (b : Bool) (one two : Held) → one.on_disk ≡ false → two.on_disk ≡ false
    → (if b then one else two).on_disk ≡ false
off-disk true one two first second = first
off-disk false one two first second = second

-- a file is made in a folder, or is gone from there
pub makes-within : (cs : List Change) (f : ℕ) → AreUnused (length cs) (run_of cs).now
    → CreatesWithin f (length (run_of cs).past) (run_of cs).now (record (run_of cs).now {
      files = with_file (length (run_of cs).past) empty (unsure f (run_of cs).now.files);
    })
makes-within cs f unused =
    let k = length (run_of cs).past in
    let d = (run_of cs).now in
    record {
      fresh = λ other had. let lt = below-of cs other k had in omega (arith, lt);
      unused = unused k (omega (arith, length-of cs));
      names = λ name. refl;
      others = λ j apart differs. file_elsewhere k empty (unsure f d.files) j differs
          ∙ file_elsewhere f _ d.files j apart;
      empty = file_here k empty (unsure f d.files);
      unsure = off-disk (nat_eq f k) empty (unsure f d.files f) refl
          (ap (λ h. h.on_disk) (file_here f _ d.files));
    }

pub unlinks-within : (d : Disk) (f : ℕ) → UnlinksWithin f d (record d { files = unsure f d.files })
unlinks-within d f = record {
  unsure = ap (λ h. h.on_disk) (file_here f _ d.files);
  touches = touches d f _;
}

-- what touches one file is one step
pub passes : (k : ℕ) (R : Disk → Disk → Type 0) (a b : Run) → Does R a b → Touches k a.now b.now
    → Passes (Touches k) R a b
passes k R a b does touched = record {
  made = does.made;
  always = record {
    added = a.now ∷ [];
    past = does.past;
    each = All-cons (Touches k a.now) a.now [] (record { names = λ name. refl; others = λ j differs. refl })
        (All-nil (Touches k a.now));
    here = touched;
  };
}

-- the log up to this change, and how many were before it
taken-earlier : (cs : List Change) (left : ℕ) (c : Change) → 0 < left → left ≤ length cs
    → c ≡ get_or cs (left - 1) c → take left cs ≡ take (left - 1) cs ++ c ∷ []
taken-earlier cs left c some within is =
    let again : left - 1 + 1 ≡ left = omega (arith, some) in
    let lt : left - 1 < length cs = omega (arith, some, within) in
    ap (λ n. take n cs) (sym again) ∙ take_more cs (left - 1) c lt
    ∙ ap (λ x. take (left - 1) cs ++ x ∷ []) (sym is)

pub one-earlier : (cs : List Change) (left : ℕ) (c : Change) → 0 < left → left ≤ length cs
    → c ≡ get_or cs (left - 1) c → run_of (take left cs) ≡ next (run_of (take (left - 1) cs)) c
one-earlier cs left c some within is =
    ap run_of (taken-earlier cs left c some within is) ∙ of-push (take (left - 1) cs) c

pub length-earlier : (cs : List Change) (n : ℕ) → n ≤ length cs
    → length (run_of (take n cs)).past ≡ n
length-earlier cs n within = length-of (take n cs) ∙ grind (arith, length-take n cs, within)

within-push : (f : ℕ) (name : List ℕ) (cs : List Change) (c : Change) (k : ℕ) (target : Option ℕ)
    → within_from f name (cs ++ c ∷ []) k target
    ≡ led_within f name c (k + length cs) (within_from f name cs k target)
within-push f name [] c k target = ap (λ j. led_within f name c j target) (omega arith)
within-push f name (first ∷ cs) c k target =
    let led = led_within f name first k target in
    within-push f name cs c (suc k) led
    ∙ ap (λ j. led_within f name c j (within_from f name cs (suc k) led)) (omega arith)

pub within-earlier : (f : ℕ) (name : List ℕ) (cs : List Change) (left : ℕ) (c : Change) → 0 < left
    → left ≤ length cs → c ≡ get_or cs (left - 1) c → within f name (take left cs)
    ≡ led_within f name c (left - 1) (within f name (take (left - 1) cs))
within-earlier f name cs left c some inside is =
    let before = take (left - 1) cs in
    let count : length before ≡ left - 1 = grind (arith, length-take (left - 1) cs, inside) in
    ap (within f name) (taken-earlier cs left c some inside is)
    ∙ within-push f name before c 0 None
    ∙ ap (λ j. led_within f name c j (within f name before)) (omega (arith, count))

-- the bytes of a file after one change more
pub bytes-later : (cs : List Change) (n : ℕ) (c : Change) (file : ℕ) {old new : List ℕ}
    → n < length cs → c ≡ get_or cs n c → AddsBytes c n file old new
    → ((run_of (take n cs)).now.files file).bytes ≡ old
    → ((run_of (take (n + 1) cs)).now.files file).bytes ≡ new
bytes-later cs n c file {old} {new} lt is adds was =
    let r = run_of (take n cs) in
    ap (λ later. (later.now.files file).bytes)
    (ap run_of (take_more cs n c lt ∙ ap (λ x. take n cs ++ x ∷ []) (sym is)) ∙ of-push (take n cs) c)
    ∙ subst (λ k. ((after c k r.now).files file).bytes ≡ new) (sym (length-earlier cs n (omega (arith, lt))))
    (adds r.now was)

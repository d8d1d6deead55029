-- What a disk shows of an output, before and after its calls.
use Rattle.std.proofs.Common.{rules, ◌≡◌, ◌≢◌, ◌++◌, ◌+◌, ℕ, List, [], ◌∷◌, refl, sym, ap, ◌∙◌, subst, take, take_all, append-nil, Bool, true, false, Result, Ok, Err, OnErr, OnOk, IfOk, is_ok, Option, Some, None, IfSome, IsSome, MatchOption, option_map, if◌then◌else◌, nat_eq, inl, inr, arith}
use Rattle.std.proofs.lemmas.Bool.{false≢true}
use Rattle.flute_calls.specs.Moments.{Run, Does, Passes, IsSame}
use Rattle.flute_calls.specs.Disks.{Disk, HasHad, WasOneOf, Spares, Touches, OnlyTouches, Syncs, Renames, Confirms, Unlinks}
use Rattle.flute_output.specs.Entries.{Stored, Entries, Leads, OutStays, Takes, Flushes, created, synced, put_in_place, names_synced, removed, taken}
use Rattle.flute_output.specs.DiskWrites.{Writing, IsBegun, HasOnly, HasTaken, GoesOn}
use Rattle.flute_output.proofs.Runs.{only-refl, only-touches, only-unlinks}
use Rattle.flute_output.specs.DiskEntries.{stored_as, stored_at, last_of, stored_before, disk_entries}

pub leads_if : (told : Bool) (R : Entries → Entries → Type 0) (a b : Entries)
    → (told ≡ true → R a b)
    → Leads R (if told then Some a else None) (if told then Some b else None)
leads_if true R a b f = f refl
leads_if false R a b f = tt

pub same_entries : (a b : Entries) → a.out ≡ b.out → a.beside ≡ b.beside → a.waiting ≡ b.waiting
    → a.found ≡ b.found → a.past ≡ b.past → a.named ≡ b.named → a ≡ b
same_entries a b p q r s t u = search rules

pub map_same : (o : Option ℕ) (f g : ℕ → Stored) → ((k : ℕ) → Some k ≡ o → f k ≡ g k)
    → option_map f o ≡ option_map g o
map_same None f g same = refl
map_same (Some k) f g same = ap Some (same k refl)

more_unsure : (n : ℕ) → nat_eq (n + 1) 0 ≡ false
more_unsure n = search (rules, arith)

last_had : (l : List (Option ℕ)) (k : ℕ) → Some k ≡ last_of l → WasOneOf l (Some k)
last_had [] k e = search rules
last_had (t ∷ r) k e = inl e

-- what a name leads to, and what it led to before that, after calls that spare it
module _ (out : List ℕ) (d e : Disk) (s : Spares d e out) where
  pub stored_same : stored_at e out ≡ stored_at d out
  stored_same = ap (λ x. option_map (λ k. stored_as (e.files k)) x.leads) s.entry
      ∙ map_same (d.names out).leads _ _ (λ k is. ap stored_as (s.files k (inl is)))

  before_same : stored_before e out ≡ stored_before d out
  before_same = ap (λ x. option_map (λ k. stored_as (e.files k)) (last_of x.before)) s.entry
      ∙ map_same (last_of (d.names out).before) _ _
      (λ k is. ap stored_as (s.files k (inr (last_had _ k is))))

-- OUT after calls that touch nothing but what is beside it
module _ (out beside : List ℕ) (is_apart : out ≢ beside) (p : Bool) (w x : Writing) where
  pub out_stays : (file next : Option ℕ) → OnlyTouches beside w.disk x.disk
      → OutStays (disk_entries out file p w) (disk_entries out next p x)
  out_stays file next only =
      let s = only.elsewhere out is_apart in
      let o = stored_same out w.disk x.disk s in
      let b = before_same out w.disk x.disk s in
      record {
        out = o;
        found = ap (λ y. if p then y else stored_at x.disk out) b
            ∙ ap (λ y. if p then stored_before w.disk out else y) o;
        past = ap (λ y. if p then y ∷ [] else []) b;
        named = ap (λ y. nat_eq y.unsure 0) s.entry;
      }

  pub created_is : (file : Option ℕ) (k : ℕ) → OnlyTouches beside w.disk x.disk
      → IsBegun beside k x.disk → x.taken ≡ 0 → x.waiting ≡ []
      → disk_entries out (Some k) false x ≡ created (disk_entries out file p w)
  created_is file k only begun none_taken none_wait =
      let o = stored_same out w.disk x.disk (only.elsewhere out is_apart) in
      same_entries _ _ o
      (ap (λ n. Some (record {
        bytes = take n (x.disk.files k).bytes;
        on_disk = (x.disk.files k).on_disk;
      })) none_taken
      ∙ ap (λ f. Some (record { bytes = []; on_disk = f.on_disk })) begun.empty)
      none_wait o refl
      (ap (λ y. nat_eq y.unsure 0) (only.elsewhere out is_apart).entry)

  pub takes_is : (more : List ℕ) (file : Option ℕ) → IfSome file (λ k. HasOnly beside k w.disk)
      → IfSome file (λ k. HasTaken k w) → GoesOn file more w x
      → Takes more (disk_entries out file p w) (disk_entries out file p x)
  takes_is more None alone taken on = record {
    content = on.waiting;
    beside = λ is. is;
    out_stays = out_stays None None
        (subst (λ d. OnlyTouches beside w.disk d) (sym on.disk) (only-refl beside w.disk));
  }
  takes_is more (Some k) alone taken on = record {
    content = on.content taken;
    beside = λ is. is;
    out_stays = out_stays (Some k) (Some k)
        (only-touches beside k w.disk x.disk alone on.touches);
  }

  pub flushes_is : (file : Option ℕ) → IfSome file (λ k. HasOnly beside k w.disk)
      → IfSome file (λ k. HasTaken k w) → GoesOn file [] w x → x.waiting ≡ [] → IsSome file
      → Flushes (disk_entries out file p w) (disk_entries out file p x)
  flushes_is None alone taken on none_wait is_open = absurd (false≢true is_open)
  flushes_is (Some k) alone taken on none_wait is_open = record {
    content = sym (append-nil _) ∙ ap (λ l. take x.taken (x.disk.files k).bytes ++ l) (sym none_wait)
        ∙ on.content taken ∙ append-nil _;
    none_wait = none_wait;
    beside = is_open;
    out_stays = (takes_is [] (Some k) alone taken on).out_stays;
  }

  pub synced_is : (k : ℕ) → HasOnly beside k w.disk → Syncs k w.disk x.disk → x.taken ≡ w.taken
      → x.waiting ≡ w.waiting
      → disk_entries out (Some k) p x ≡ synced (disk_entries out (Some k) p w)
  synced_is k alone syncs same_taken same_waiting =
      let stays = out_stays (Some k) (Some k)
      (only-touches beside k w.disk x.disk alone syncs.touches) in
      same_entries _ _ stays.out
      (ap (λ f. Some (record { bytes = take x.taken f.bytes; on_disk = f.on_disk })) syncs.file
      ∙ ap (λ n. Some (record { bytes = take n (w.disk.files k).bytes; on_disk = true })) same_taken)
      same_waiting stays.found stays.past stays.named

  pub removed_is : (file : Option ℕ) → Unlinks beside w.disk x.disk → x.waiting ≡ []
      → disk_entries out None p x ≡ removed (disk_entries out file p w)
  removed_is file unlinks none_wait =
      let stays = out_stays file None (only-unlinks beside w.disk x.disk unlinks) in
      same_entries _ _ stays.out refl none_wait stays.found stays.past stays.named

  pub put_is : (k : ℕ) → Renames beside out w.disk x.disk → (w.disk.names beside).leads ≡ Some k
      → HasTaken k w → w.is_broken ≡ false → x.waiting ≡ w.waiting
      → disk_entries out None true x ≡ put_in_place (disk_entries out (Some k) false w)
  put_is k renames leads taken whole same_waiting =
      let before = ap (λ y. option_map (λ j. stored_as (x.disk.files j)) (last_of y.before))
      renames.given
      ∙ map_same (w.disk.names out).leads _ _ (λ j is. ap stored_as (renames.files j)) in
      same_entries _ _
      (ap (λ y. option_map (λ j. stored_as (x.disk.files j)) y.leads) renames.given
      ∙ ap (λ y. option_map (λ j. stored_as (x.disk.files j)) y) leads
      ∙ ap (λ f. Some (stored_as f)) (renames.files k)
      ∙ ap (λ b. Some (record { bytes = b; on_disk = (w.disk.files k).on_disk }))
      (sym (take_all _ _ (omega (arith, taken whole)))))
      refl same_waiting before (ap (λ y. y ∷ []) before)
      (ap (λ y. nat_eq y.unsure 0) renames.given ∙ more_unsure (w.disk.names out).unsure)

  pub names_synced_is : (is_in : List ℕ → Bool) (file : Option ℕ) → is_in out ≡ true
      → Confirms is_in w.disk x.disk → x.taken ≡ w.taken → x.waiting ≡ w.waiting
      → disk_entries out file p x ≡ names_synced (disk_entries out file p w)
  names_synced_is is_in file is confirms same_taken same_waiting =
      let entry = confirms.here out is in
      let stored = λ (o : Option ℕ). map_same o _ _ (λ j _. ap stored_as (confirms.files j)) in
      let o = ap (λ y. option_map (λ j. stored_as (x.disk.files j)) y.leads) entry ∙ stored _ in
      let b = ap (λ y. option_map (λ j. stored_as (x.disk.files j)) (last_of y.before)) entry
      ∙ stored _ in
      same_entries _ _ o
      (map_same file _ _ (λ j _. ap (λ f. record {
        bytes = take x.taken f.bytes;
        on_disk = f.on_disk;
      }) (confirms.files j)
      ∙ ap (λ n. record {
        bytes = take n (w.disk.files j).bytes;
        on_disk = (w.disk.files j).on_disk;
      }) same_taken))
      same_waiting
      (ap (λ y. if p then y else stored_at x.disk out) b
      ∙ ap (λ y. if p then stored_before w.disk out else y) o)
      (ap (λ y. if p then y ∷ [] else []) b)
      (ap (λ y. nat_eq y.unsure 0) entry)

-- what is known of the file beside OUT after calls
pub alone_touched : (b : List ℕ) (k j : ℕ) (d e : Disk) → HasOnly b k d → Touches j d e
    → HasOnly b k e
alone_touched b k j d e alone so other apart had =
    alone other apart (subst (λ x. HasHad x k) (so.names other) had)

pub on_ok_numbered : {T E F : Type 0} (r : Result T E) (number : F → ℕ) (file : Option F)
    → OnOk r (IsSome file) → OnOk r (IsSome (option_map number file))
on_ok_numbered (Ok y) number (Some f) is_open = refl
on_ok_numbered (Ok y) number None is_open = absurd (false≢true is_open)
on_ok_numbered (Err y) number file is_open = tt

pub none_numbered : {T E F : Type 0} (r : Result T E) (number : F → ℕ) (file : Option F)
    → OnOk r (file ≡ None) → OnOk r (option_map number file ≡ None)
none_numbered (Ok y) number file closed = ap (option_map number) closed
none_numbered (Err y) number file closed = tt

-- what a folder shows of a disk, if it shows it
abbrev pub shown : Bool → List ℕ → Option ℕ → Bool → Writing → Option Entries
shown told out file p w = if told then Some (disk_entries out file p w) else None

-- a call of an output, before which its disk, file and name are the first of each pair
module _ (told : Bool) (out named beside : List ℕ) (same_name : named ≡ out)
    (is_apart : beside ≢ out) (file next : Option ℕ) (p q : Bool) (w x : Writing) where
  -- R of what the folder shows before the call and after it
  abbrev pub Shown : (Entries → Entries → Type 0) → Type 0
  Shown R = Leads R (shown told out file p w) (shown told named next q x)

  -- the same with the name as it was
  abbrev Kept : (Entries → Entries → Type 0) → Type 0
  Kept R = R (disk_entries out file p w) (disk_entries out next q x)

  shown_both : (R : Entries → Entries → Type 0) → (told ≡ true → Kept R) → Shown R
  shown_both R f = leads_if told R _ _
      (λ t. subst (λ y. R (disk_entries out file p w) (disk_entries y next q x)) (sym same_name) (f t))

  stays : OnlyTouches beside w.disk x.disk → q ≡ p → Kept OutStays
  stays only same = subst (λ b. OutStays (disk_entries out file p w) (disk_entries out next b x))
      (sym same) (out_stays out beside (λ e. is_apart (sym e)) p w x file next only)

  begun_shown : IfSome next (λ k. IsBegun beside k x.disk) → IsSome next → x.taken ≡ 0
      → x.waiting ≡ [] → q ≡ false → OnlyTouches beside w.disk x.disk
      → Kept (λ a b. b ≡ created a)
  begun_shown begun is_open none_taken none_wait placed only = elim next as (λ o.
      IfSome o (λ k. IsBegun beside k x.disk) → IsSome o
      → disk_entries out o q x ≡ created (disk_entries out file p w)) [
        | None ↦ λ b i. absurd (false≢true i)
        | Some k ↦ λ b i. ap (λ y. disk_entries out (Some k) y x) placed
            ∙ created_is out beside (λ e. is_apart (sym e)) p w x file k only b none_taken none_wait
      ] begun is_open

  pub create_shown : {T E : Type 0} (r : Result T E)
      → (told ≡ true → OnOk r (IfSome next (λ k. IsBegun beside k x.disk))) → OnOk r (IsSome next)
      → OnOk r (x.taken ≡ 0) → OnOk r (x.waiting ≡ []) → q ≡ (if is_ok r then false else p)
      → (told ≡ true → OnlyTouches beside w.disk x.disk)
      → OnOk r (Shown (λ a b. b ≡ created a)) × OnErr r (Shown OutStays)
  create_shown (Ok y) begun is_open none_taken none_wait placed only = (shown_both _ (λ t. begun_shown (begun t) is_open none_taken none_wait placed (only t)), tt)
  create_shown (Err y) begun is_open none_taken none_wait placed only = (tt, shown_both _ (λ t. stays (only t) placed))

  -- the file beside OUT is alone, and has what it took
  abbrev Known : Type 0
  Known = IfSome file (λ k. HasOnly beside k w.disk) × IfSome file (λ k. HasTaken k w)

  goes : (more : List ℕ) → next ≡ file → q ≡ p → Known → GoesOn file more w x → Kept (Takes more)
  goes more same placed known on =
      subst (λ b. Takes more (disk_entries out file p w) (disk_entries out next b x)) (sym placed)
      (subst (λ f. Takes more (disk_entries out file p w) (disk_entries out f p x)) (sym same)
      (takes_is out beside (λ e. is_apart (sym e)) p w x more file known.0 known.1 on))

  pub write_shown : {E : Type 0} (r : Result ℕ E) (bytes : List ℕ) → next ≡ file → q ≡ p
      → (told ≡ true → Known) → (told ≡ true → IfOk r (λ n. GoesOn file (take n bytes) w x))
      → (told ≡ true → OnErr r (GoesOn file [] w x))
      → IfOk r (λ n. Shown (Takes (take n bytes))) × OnErr r (Shown (Takes []))
  write_shown (Ok n) bytes same placed known on failed =
      (shown_both _ (λ t. goes (take n bytes) same placed (known t) (on t)), tt)
  write_shown (Err y) bytes same placed known on failed =
      (tt, shown_both _ (λ t. goes [] same placed (known t) (failed t)))

  pub flush_shown : {T E : Type 0} (r : Result T E) → next ≡ file → q ≡ p → (told ≡ true → Known)
      → (told ≡ true → GoesOn file [] w x) → OnOk r (x.waiting ≡ []) → OnOk r (IsSome file)
      → OnOk r (Shown Flushes) × OnErr r (Shown OutStays)
  flush_shown (Ok y) same placed known on none_wait is_open = (
    shown_both _ (λ t. subst (λ b. Flushes (disk_entries out file p w) (disk_entries out next b x)) (sym placed)
        (subst (λ f. Flushes (disk_entries out file p w) (disk_entries out f p x)) (sym same)
        (flushes_is out beside (λ e. is_apart (sym e)) p w x file (known t).0 (known t).1 (on t)
        none_wait is_open))),
    tt,
  )
  flush_shown (Err y) same placed known on none_wait is_open = (tt, shown_both _ (λ t. (goes [] same placed (known t) (on t)).out_stays))

  -- the calls were those from the run a to the run b
  module _ (a b : Run) (at_a : a.now ≡ w.disk) (at_b : b.now ≡ x.disk) where
    at_disks : (R : Disk → Disk → Type 0) → R a.now b.now → R w.disk x.disk
    at_disks R so = subst (λ d. R d x.disk) at_a (subst (λ d. R a.now d) at_b so)

    nothing_done : Passes IsSame IsSame a b → x.disk ≡ w.disk
    nothing_done so = at_disks IsSame so.made

    stays_undone : Passes IsSame IsSame a b → q ≡ p → Kept OutStays
    stays_undone so same = stays
        (subst (λ d. OnlyTouches beside w.disk d) (sym (nothing_done so)) (only-refl beside w.disk)) same

    put_here : (o : Option ℕ) → IsSome o → IfSome o (λ k. HasTaken k w)
        → (a.now.names beside).leads ≡ o → Does (Renames beside out) a b → w.is_broken ≡ false
        → x.waiting ≡ w.waiting
        → disk_entries out None true x ≡ put_in_place (disk_entries out o false w)
    put_here None is_open taken leads does whole waiting = absurd (false≢true is_open)
    put_here (Some k) is_open taken leads does whole waiting =
        put_is out beside (λ e. is_apart (sym e)) p w x k
        (at_disks (Renames beside out) does.made)
        (ap (λ d. (d.names beside).leads) (sym at_a) ∙ leads) taken whole waiting

    module _ (known : told ≡ true → Known) (waiting : x.waiting ≡ w.waiting) where
      pub put_shown : {T E : Type 0} (r : Result T E)
          → (told ≡ true → OnOk r (Does (Renames beside out) a b))
          → (told ≡ true → OnOk r ((a.now.names beside).leads ≡ file)) → OnOk r (w.is_broken ≡ false)
          → OnOk r (IsSome file) → OnOk r (p ≡ false) → OnOk r (next ≡ None)
          → q ≡ (if is_ok r then true else p) → OnOk r (Shown (λ d e. e ≡ put_in_place d))
      put_shown (Ok y) renames leads whole is_open first closed placed =
          shown_both _ (λ t. ap (λ c. disk_entries out next c x) placed
          ∙ ap (λ f. disk_entries out f true x) closed
          ∙ put_here file is_open (known t).1 (leads t) (renames t) whole waiting
          ∙ ap (λ c. put_in_place (disk_entries out file c w)) (sym first))
      put_shown (Err y) renames leads whole is_open first closed placed = tt

    pub put_failed : {T E : Type 0} (r : Result T E) → q ≡ (if is_ok r then true else p)
        → (told ≡ true → OnErr r (Passes IsSame IsSame a b)) → OnErr r (Shown OutStays)
    put_failed (Ok y) placed failed = tt
    put_failed (Err y) placed failed = shown_both _ (λ t. stays_undone (failed t) placed)

    pub remove_shown : {T E : Type 0} (r : Result T E)
        → (told ≡ true → OnOk r (Does (Unlinks beside) a b)) → OnOk r (next ≡ None)
        → OnOk r (x.waiting ≡ []) → q ≡ p → (told ≡ true → OnErr r (Passes IsSame IsSame a b))
        → OnOk r (Shown (λ d e. e ≡ removed d)) × OnErr r (Shown OutStays)
    remove_shown (Ok y) unlinks closed none_wait placed failed = (
      shown_both _ (λ t. ap (λ c. disk_entries out next c x) placed
          ∙ ap (λ f. disk_entries out f p x) closed
          ∙ removed_is out beside (λ e. is_apart (sym e)) p w x file
          (at_disks (Unlinks beside) (unlinks t).made) none_wait),
      tt,
    )
    remove_shown (Err y) unlinks closed none_wait placed failed =
        (tt, shown_both _ (λ t. stays_undone (failed t) placed))

    -- the file, what it took and what waits for it stay as they were
    module _ (same : next ≡ file) (placed : q ≡ p) (same_taken : x.taken ≡ w.taken)
        (same_waiting : x.waiting ≡ w.waiting) where
      pub sync_shown : {T E : Type 0} (r : Result T E) → (told ≡ true → Known)
          → OnOk r (IsSome file) → (told ≡ true → OnOk r (IfSome file (λ k. Does (Syncs k) a b)))
          → (told ≡ true → OnErr r (MatchOption file (b ≡ a)
          (λ k. Passes (Touches k) (Touches k) a b)))
          → OnOk r (Shown (λ d e. e ≡ synced d)) × OnErr r (Shown OutStays)
      sync_shown (Ok y) known is_open syncs failed = (
        shown_both _ (λ t. ap (λ b. disk_entries out next b x) placed
            ∙ ap (λ f. disk_entries out f p x) same ∙ settled file (known t).0 is_open (syncs t)),
        tt,
      )
        where
          settled : (o : Option ℕ) → IfSome o (λ k. HasOnly beside k w.disk) → IsSome o
              → IfSome o (λ k. Does (Syncs k) a b)
              → disk_entries out o p x ≡ synced (disk_entries out o p w)
          settled None alone is_open does = absurd (false≢true is_open)
          settled (Some k) alone is_open does =
              synced_is out beside (λ e. is_apart (sym e)) p w x k alone
              (at_disks (Syncs k) does.made) same_taken same_waiting
      sync_shown (Err y) known is_open syncs failed =
          (tt, shown_both _ (λ t. stays (spared file (known t).0 (failed t)) placed))
        where
          spared : (o : Option ℕ) → IfSome o (λ k. HasOnly beside k w.disk)
              → MatchOption o (b ≡ a) (λ k. Passes (Touches k) (Touches k) a b)
              → OnlyTouches beside w.disk x.disk
          spared None alone so = subst (λ d. OnlyTouches beside w.disk d)
              (sym at_a ∙ ap (λ r. r.now) (sym so) ∙ at_b) (only-refl beside w.disk)
          spared (Some k) alone so =
              only-touches beside k w.disk x.disk alone (at_disks (Touches k) so.made)

      pub names_shown : {T E F : Type 0} (r : Result T E) (has_name : F → List ℕ → Bool)
          (folder : Option F) → OnOk r (IsSome folder)
          → (told ≡ true → IfSome folder (λ f. has_name f out ≡ true))
          → (told ≡ true → OnOk r (IfSome folder (λ f. Does (Confirms (has_name f)) a b)))
          → (told ≡ true → OnErr r (Passes IsSame IsSame a b))
          → OnOk r (Shown (λ d e. e ≡ names_synced d)) × OnErr r (Shown (λ d e. e ≡ d))
      names_shown (Ok y) has_name folder is_open parent does failed = (
        shown_both _ (λ t. ap (λ c. disk_entries out next c x) placed
            ∙ ap (λ f. disk_entries out f p x) same ∙ confirmed folder is_open (parent t) (does t)),
        tt,
      )
        where
          confirmed : (o : Option _) → IsSome o → IfSome o (λ f. has_name f out ≡ true)
              → IfSome o (λ f. Does (Confirms (has_name f)) a b)
              → disk_entries out file p x ≡ names_synced (disk_entries out file p w)
          confirmed None is_open at does = absurd (false≢true is_open)
          confirmed (Some f) is_open at does =
              names_synced_is out beside (λ e. is_apart (sym e)) p w x (has_name f) file at
              (at_disks (Confirms (has_name f)) does.made) same_taken same_waiting
      names_shown (Err y) has_name folder is_open parent does failed = (
        tt,
        shown_both _ (λ t. ap (λ c. disk_entries out next c x) placed
            ∙ ap (λ f. disk_entries out f p x) same
            ∙ ap (λ n. disk_entries out file p (record x { taken = n })) same_taken
            ∙ ap (λ l. disk_entries out file p (record w { waiting = l; disk = x.disk })) same_waiting
            ∙ ap (λ d. disk_entries out file p (record w { disk = d })) (nothing_done (failed t))),
      )

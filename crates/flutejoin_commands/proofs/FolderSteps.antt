-- extract_all_into: a new folder that a command makes, fills and ends (specs/Folders).
use Rattle.std.proofs.Common.{◌≡◌, ℕ, List, [], ◌++◌, length, Option, Some, None, Result, Ok, Err}
use Rattle.std.proofs.Common.{inl, inr, refl, sym, ap, ◌∙◌, subst, arith, ◌+◌, ◌<◌, ◌≤◌}
use Rattle.std.proofs.Common.{if◌then◌else◌, is_ok}
use Rattle.std.specs.Prelude.{◌⊎◌, Bool, IfSome, OnOk, OnErr, IfOk, IfErr, codes}
use Rattle.flute_parts.specs.declared.fact.Fact.{Fact}
use Rattle.std.specs.Io.KnownBytes.{Appends}
use Rattle.std.proofs.KnownBytes.{Appends-trans}
use Rattle.flute_output.specs.NewFolders.{NamedFile, Places, LeadsTo, IsMade, IsReady, IsNothing}
use Rattle.flute_output.specs.NewFolders.{HasBeside, FolderStays, Fills, BecomesFolder, StaysThere}
use Rattle.flute_output.specs.NewFolders.{StaysNothing, NoneBeside, IsWholeOrNothing, folder_of}
use Rattle.flute_output.specs.NewFolders.{files_beside, EndsAt}
use Rattle.flute_output.specs.Entries.{IfWork}
use Rattle.flute_output.specs.declared.output.FinishFault.{FinishFault}
use Rattle.flute_output.specs.declared.output.FinishFault.TheVariants as finish
use Rattle.flutejoin.specs.ExtractAll.{ExtractsAll, ExtractAllFails}
use Rattle.flutejoin.specs.Lines.{count_line}
use Rattle.flutejoin.specs.declared.command_fault.CommandFault.{CommandFault}
use Rattle.flutejoin.specs.declared.command_fault.CommandFault.TheVariants.{CannotWrite, NotOnDisk}
use Rattle.flutejoin.specs.Limits.{Limits}
use Rattle.flutejoin_commands.specs.Folders.{IsFolderOf, IsKeptFolder, TellsFiles, LeavesFolder}
use Rattle.flutejoin_commands.specs.Folders.{IsNowhere, FolderFails, of_work, of_device, of_end}
use Rattle.flutejoin_commands.specs.Folders.{finish_fault, FolderNames, IsFolderAt}
use Rattle.flutejoin_commands.specs.Folders.{IsOneFolderAlways, KeepsFolder}

pub made_ready : (o m : Option Places) → LeadsTo IsMade o m → IfSome m IsReady
made_ready None None h = tt
made_ready None (Some m) h = absurd h
made_ready (Some o) None h = absurd h
made_ready (Some o) (Some m) h = subst IsReady (sym h.made) (record { there = refl; closed = refl })

module _ (o m f : Places) (h : IsMade o m) (s : FolderStays m f) where
  out_none : f.out ≡ None
  out_none = s.out ∙ ap (λ (p : Places). p.out) h.made ∙ h.none

  past_none : f.past ≡ []
  past_none = s.past ∙ ap (λ (p : Places). p.past) h.made

  named_as : f.named ≡ o.named
  named_as = s.named ∙ ap (λ (p : Places). p.named) h.made

  nothing_there : IsNothing f
  nothing_there = record { none = out_none; untouched = past_none }

pub made_nothing : (o m f : Option Places) → LeadsTo IsMade o m → LeadsTo FolderStays m f → IfSome
    f IsNothing
made_nothing None None None h s = tt
made_nothing None None (Some f) h s = absurd s
made_nothing None (Some m) f h s = absurd h
made_nothing (Some o) None f h s = absurd h
made_nothing (Some o) (Some m) None h s = absurd s
made_nothing (Some o) (Some m) (Some f) h s = nothing_there o m f h s

-- the files that were filled in are all
pub filled_beside : (files : List NamedFile) (m f : Option Places) → LeadsTo (Fills files None) m f
    → IfSome f HasBeside
filled_beside files None None h = tt
filled_beside files None (Some f) h = absurd h
filled_beside files (Some m) None h = absurd h
filled_beside files (Some m) (Some f) h = h.there

all_files : (files : List NamedFile) (o m f : Places) → IsMade o m → Fills files None m f →
    files_beside f ≡ files
all_files files o m f h l = l.beside ∙ ap (λ (p : Places). files_beside p ++ files) h.made

-- OUT at the end: the folder, kept as it was, or nothing.

-- a new folder was made, and these files were filled in
pub record IsFilled (files : List NamedFile) (o m f : Option Places) : Type 0 where
  pub made : LeadsTo IsMade o m
  pub filled : LeadsTo (Fills files None) m f

pub is_folder : {files : List NamedFile} (o m f n : Option Places) → IsFilled files o m f
    → LeadsTo (λ old new. BecomesFolder (folder_of (files_beside old)) old new) f n
    → LeadsTo (IsFolderOf files) o n
is_folder None None None None x b = tt
is_folder None None None (Some n) x b = absurd b
is_folder None None (Some f) n x b = absurd x.filled
is_folder None (Some m) f n x b = absurd x.made
is_folder (Some o) None f n x b = absurd x.made
is_folder (Some o) (Some m) None n x b = absurd x.filled
is_folder (Some o) (Some m) (Some f) None x b = absurd b
is_folder {files} (Some o) (Some m) (Some f) (Some n) x b = record {
  none = x.made.none;
  becomes = record {
    out = b.out ∙ ap (λ l. Some (folder_of l)) (all_files files o m f x.made x.filled);
    past = b.past;
  };
}

pub is_kept : {files : List NamedFile} (o m f n : Option Places) → IsFilled files o m f
    → LeadsTo (λ old new. StaysThere (files_beside old) new) f n → LeadsTo NoneBeside f n
    → LeadsTo (IsKeptFolder files) o n
is_kept None None None None x s b = tt
is_kept None None None (Some n) x s b = absurd s
is_kept None None (Some f) n x s b = absurd x.filled
is_kept None (Some m) f n x s b = absurd x.made
is_kept (Some o) None f n x s b = absurd x.made
is_kept (Some o) (Some m) None n x s b = absurd x.filled
is_kept (Some o) (Some m) (Some f) None x s b = absurd s
is_kept {files} (Some o) (Some m) (Some f) (Some n) x s b = record {
  lasts = subst (λ l. StaysThere l n) (all_files files o m f x.made x.filled) s;
  beside = b;
}

pub is_nowhere : (o m f n : Option Places) → LeadsTo IsMade o m → LeadsTo FolderStays m f → LeadsTo
    StaysNothing f n → LeadsTo IsNowhere o n
is_nowhere None None None None h s b = tt
is_nowhere None None None (Some n) h s b = absurd b
is_nowhere None None (Some f) n h s b = absurd s
is_nowhere None (Some m) f n h s b = absurd h
is_nowhere (Some o) None f n h s b = absurd h
is_nowhere (Some o) (Some m) None n h s b = absurd s
is_nowhere (Some o) (Some m) (Some f) None h s b = absurd b
is_nowhere (Some o) (Some m) (Some f) (Some n) h s b = record { none = h.none; out = b.out }

pub one_always : (o m f n : Option Places) → LeadsTo IsMade o m → LeadsTo FolderStays m f
    → LeadsTo (λ old new. IsWholeOrNothing (folder_of (files_beside old)) old new) f n
    → LeadsTo (λ before after. (files : List NamedFile) × IsWholeOrNothing (folder_of files) before
    after) o n
one_always None None None None h s b = tt
one_always None None None (Some n) h s b = absurd b
one_always None None (Some f) n h s b = absurd s
one_always None (Some m) f n h s b = absurd h
one_always (Some o) None f n h s b = absurd h
one_always (Some o) (Some m) None n h s b = absurd s
one_always (Some o) (Some m) (Some f) None h s b = absurd b
one_always (Some o) (Some m) (Some f) (Some n) h s b = (
  files_beside f,
  record { stopped = b.stopped; lost_power = λ e. b.lost_power (named_as o m f h s ∙ e) },
)

-- the journal contains the files that were written, and what is reported of its objects
pub tells_files : {most : Limits} {input left : Option (List ℕ)} {picks : Fact → Bool}
    {m f : Option Places} {r r' : Option (List ℕ)} {count : ℕ}
    (e : ExtractsAll most input left picks m f r r' count)
    → TellsFiles most input picks e.taken.files e.taken.told
tells_files e =
    record { entries = e.entries; journal = e.journal; within = e.within; taken = e.taken.taken }

pub leaves_folder : {most : Limits} {input left : Option (List ℕ)} {picks : Fact → Bool}
    (o n : Option Places) {m f : Option Places} {r r' r'' : Option (List ℕ)} {count : ℕ}
    → LeadsTo IsMade o m → ExtractsAll most input left picks m f r r' count
    → LeadsTo (λ old new. BecomesFolder (folder_of (files_beside old)) old new) f n
    → LeadsTo (λ old new. StaysThere (files_beside old) new) f n → LeadsTo NoneBeside f n
    → Appends r' r'' (count_line (codes "written") count)
    → LeavesFolder most input picks o n r r''
leaves_folder o n {m = m} {f = f} {r = r} {r' = r'} {r'' = r''} h e b s g line =
    let filled : IsFilled e.taken.files o m f = record { made = h; filled = e.taken.filled } in
    record {
      files = e.taken.files;
      told = e.taken.told;
      tells = tells_files e;
      out = is_folder o m f n filled b;
      kept = is_kept o m f n filled s g;
      report = Appends-trans r r' r'' e.taken.told
          (count_line (codes "written") (length e.taken.files)) e.taken.written
          (subst (λ k. Appends r' r'' (count_line (codes "written") k)) e.taken.count_is line);
    }

-- OUT is there, though the command failed
pub there_failed : {most : Limits} {input left : Option (List ℕ)} {picks : Fact → Bool}
    (o n : Option Places) {m f : Option Places} {r r' : Option (List ℕ)} {count : ℕ}
    {fault : CommandFault} → (fault ≡ NotOnDisk) ⊎ (fault ≡ CannotWrite)
    → LeadsTo IsMade o m → ExtractsAll most input left picks m f r r' count
    → LeadsTo (λ old new. BecomesFolder (folder_of (files_beside old)) old new) f n
    → FolderFails most input left picks o n fault
there_failed o n {m = m} {f = f} why h e b =
    of_end why e.taken.files e.taken.told (tells_files e)
    (is_folder o m f n (record { made = h; filled = e.taken.filled }) b)

-- the work failed
pub work_failed : {most : Limits} (input left : Option (List ℕ)) (picks : Fact → Bool) (o n : Option
    Places)
    (fault : CommandFault) → ExtractAllFails most input left fault ⊎ (fault ≡ CannotWrite) → LeadsTo
    IsNowhere o n
    → FolderFails most input left picks o n fault
work_failed input left picks o n fault (inl w) h = of_work w h
work_failed input left picks o n fault (inr w) h = of_device w h

pub on_ok : {T E A B : Type 0} (r : Result T E) → (A → B) → OnOk r A → OnOk r B
on_ok (Ok x) f h = f h
on_ok (Err x) f h = h

pub if_err : {T E : Type 0} {P Q : E → Type 0} (r : Result T E) → ((x : E) → P x → Q x) → IfErr r P
    → IfErr r Q
if_err (Ok x) f h = h
if_err (Err e) f h = f e h

-- the work was done, if the disk alone failed
pub done_but_disk : {T E : Type 0} (done : Result T E) (r : Result T (FinishFault E)) → IfErr done
    (λ e. r ≡ Err (finish.Work e)) → r ≡ Err finish.NotOnDisk → (x : T) × (done ≡ Ok x)
done_but_disk (Ok x) r h e = (x, refl)
done_but_disk (Err f) r h e = absurd cc

pub on_if_ok : {T E B : Type 0} {P : T → Type 0} (r : Result T E) → ((x : T) → P x → B) → IfOk r P
    → OnOk r B
on_if_ok (Ok x) f h = f x h
on_if_ok (Err e) f h = h

-- what filling a folder did: all files of the journal were written, or it failed
pub record Filling (most : Limits) (input left : Option (List ℕ)) (picks : Fact → Bool)
    (m f : Option Places) (r r' : Option (List ℕ)) (done : Result ℕ CommandFault) : Type 0 where
  pub stays : LeadsTo FolderStays m f
  pub extracted : IfOk done (ExtractsAll most input left picks m f r r')
  pub failed : IfErr done (λ x. ExtractAllFails most input left x ⊎ (x ≡ CannotWrite))

-- what finishing it did
pub record Finishing (f n : Option Places) (done : Result ℕ CommandFault)
    (result : Result ℕ (FinishFault CommandFault)) : Type 0 where
  pub fault : IfErr done (λ x. result ≡ Err (finish.Work x))
  pub work : IfErr result (λ e. IfWork e (λ x. done ≡ Err x))
  pub dropped : IfErr result (λ e. LeadsTo (EndsAt e) f n)

-- the folder was not finished
pub not_finished : {most : Limits} {input left : Option (List ℕ)} {picks : Fact → Bool}
    {o m f n : Option Places} {r r' : Option (List ℕ)} {done : Result ℕ CommandFault}
    {result : Result ℕ (FinishFault CommandFault)} {fault : FinishFault CommandFault}
    → result ≡ Err fault → LeadsTo IsMade o m → Filling most input left picks m f r r' done
    → Finishing f n done result → FolderFails most input left picks o n (finish_fault fault)
not_finished {most} {input} {left} {picks} {o} {m} {f} {n} {r} {r'} {done} {result} {fault} is h
    filling finishing = ended fault is
    (subst (λ x. IfErr x (λ e. IfWork e (λ y. done ≡ Err y))) is finishing.work)
    (subst (λ x. IfErr x (λ e. LeadsTo (EndsAt e) f n)) is finishing.dropped)
  where
    ended : (e : FinishFault CommandFault) → result ≡ Err e → IfWork e (λ y. done ≡ Err y)
        → LeadsTo (EndsAt e) f n → FolderFails most input left picks o n (finish_fault e)
    ended (finish.Work y) at y_is there =
        work_failed input left picks o n y
        (subst
        (λ d. IfErr d (λ x. ExtractAllFails most input left x ⊎ (x ≡ CannotWrite))) y_is
        filling.failed)
        (is_nowhere o m f n h filling.stays there)
    ended finish.Write at y_is there = of_device refl (is_nowhere o m f n h filling.stays there)
    ended finish.NotOnDisk at y_is there =
        let d = done_but_disk done result finishing.fault at in
        there_failed o n (inl refl) h
        (subst (λ x. IfOk x (ExtractsAll most input left picks m f r r')) d.1 filling.extracted)
        there

-- ---- failures of the folder and of the report, counted together

-- nothing is beside OUT, whatever was before
pub none_beside : (a b c d : Option Places) → LeadsTo IsMade a b → LeadsTo FolderStays b c
    → LeadsTo NoneBeside c d → LeadsTo NoneBeside a d
none_beside None None None d m s n = n
none_beside None None (Some c) d m s n = absurd s
none_beside None (Some b) c d m s n = absurd m
none_beside (Some a) None c d m s n = absurd m
none_beside (Some a) (Some b) None d m s n = absurd s
none_beside (Some a) (Some b) (Some c) None m s n = absurd n
none_beside (Some a) (Some b) (Some c) (Some d) m s n = n

-- what is so in any case
pub at_fault : {T E A : Type 0} (B : Type 0) (r : Result T E) → A → OnErr r (B → A)
at_fault B (Ok x) a = tt
at_fault B (Err e) a = λ b. a

-- what a fault of ending says, if it is one
abbrev fault_in : {T : Type 0} → Result T (FinishFault CommandFault) → CommandFault
fault_in (Ok x) = CannotWrite
fault_in (Err x) = finish_fault x

-- A folder that was filled, or not, and then ended with a fault: how often the folder had failed
-- before the end (d) and after it (d'), the report (p), and both at first (all).
module _ {T : Type 0} (all d p d' : ℕ) (r : Result T (FinishFault CommandFault))
    (x : FinishFault CommandFault) (is : r ≡ Err x) (more : d ≤ d') (counted : all ≤ d + p)
  where
    pub gone_if_quiet : {N : Type 0} (done : Result T CommandFault)
        → (d' ≡ d + (if is_ok done then 1 else 0) → N) → OnOk done (OnErr r (d < d'))
        → d' + p ≡ all → N
    gone_if_quiet (Ok y) gone ended same =
        let later = subst (λ z. OnErr z (d < d')) is ended in
        absurd (let no : ⊥ = omega (arith, later, counted, same) in no)
    gone_if_quiet (Err e) gone ended same =
        gone (let kept : d' ≡ d + 0 = omega (arith, more, counted, same) in kept)

    pub fault_caused : (done : Result T CommandFault) → IfErr done (λ e. r ≡ Err (finish.Work e))
        → IfErr done (λ e. e ≡ CannotWrite → all < d + p) → OnOk done (OnErr r (d < d'))
        → finish_fault x ≡ CannotWrite → all < d' + p
    fault_caused (Ok y) first caused ended fault =
        let later = subst (λ z. OnErr z (d < d')) is ended in
        omega (arith, later, counted)
    fault_caused (Err e) first caused ended fault =
        let before = caused (ap fault_in (sym first ∙ is) ∙ fault) in
        omega (arith, before, more)

-- ---- names of new folders

same_folder : (p : Option Places) → LeadsTo FolderStays p p
same_folder None = tt
same_folder (Some p) = record { out = refl; past = refl; named = refl }

-- names that lead to what they led to
pub keeps_same : (name : List ℕ) {old new : FolderNames} → new ≡ old → KeepsFolder name old new
keeps_same name {old} {new} e =
    subst (KeepsFolder name old) (sym e)
    (record { here = inl (same_folder (old name)); elsewhere = λ other apart. refl })

-- a name whose folder was made and taken back
pub keeps_closed : (name : List ℕ) {old mid new : FolderNames} {first last : Option Places}
    → mid ≡ old → first ≡ old name → IsFolderAt name last mid new
    → IsOneFolderAlways first last → KeepsFolder name old new
keeps_closed name {old} {mid} {new} {first} {last} e is closed moments = record {
  here = subst (λ a. IsOneFolderAlways a (new name)) is
      (subst (IsOneFolderAlways first) (sym closed.here) moments);
  elsewhere = λ other apart. closed.elsewhere other apart ∙ ap (λ f. f other) e;
}

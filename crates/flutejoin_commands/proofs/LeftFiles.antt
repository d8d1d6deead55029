-- What is left where the output is a file with a name (specs/Worlds: Leaves, FailsToLeave).
use Rattle.std.proofs.Common.{◌≡◌, ◌≢◌, ◌⊎◌, ℕ, List, Option, Some, None, Result, Ok, Err}
use Rattle.std.proofs.Common.{IfErr, inl, inr, refl, sym, ap, subst, ◌∙◌}
use Rattle.std.specs.Prelude.{option_map, OnOk}
use Rattle.flute_output.specs.Entries.{Entries, created}
use Rattle.flute_output.specs.declared.place.Place.{Place}
use Rattle.flute_output.specs.declared.place.Place.TheVariants.{File}
use Rattle.flutejoin.specs.declared.command_fault.CommandFault.{CommandFault}
use Rattle.flutejoin.specs.declared.command_fault.CommandFault.TheVariants as fault
use Rattle.flutejoin_commands.specs.Commands.{BecomesWritten, IsForGood, OutIsKept, Succeeds, Fails}
use Rattle.flutejoin_commands.specs.Commands.{of_work, of_create, of_file, of_disk, of_report}
use Rattle.flutejoin_commands.specs.Commands.{Devices, devices, with_beside}
use Rattle.flutejoin_commands.specs.Deliveries.{FailsDelivered}
use Rattle.flutejoin_commands.specs.Files.{Files}
use Rattle.flutejoin_commands.specs.Outlets.{FailsHeld, FailsOut, Outlets, PutsOut}
use Rattle.flutejoin_commands.specs.Outlets.{of_open, of_output}
use Rattle.flutejoin_commands.specs.Outlets as outlet
use Rattle.flutejoin_commands.specs.Worlds.{HasOut, IsStandard, IsFileName, Closes, KeepsFiles}
use Rattle.flutejoin_commands.specs.Worlds.{IsPlaced}
use Rattle.flutejoin_commands.specs.Worlds.{FileIs, FileBecomes, Leaves, in_file, in_device}
use Rattle.flutejoin_commands.specs.Worlds.{in_output, FailsToLeave, as_before, in_place, Outside}
use Rattle.flutejoin_commands.specs.Worlds.{IsKnownFile, IsReason, TellsNothing, beside_name}
use Rattle.flutejoin_commands.specs.Worlds.{bytes_of, outside}
use Rattle.flutejoin_commands.specs.declared.delivery.Delivery.{Delivery}
use Rattle.flutejoin_commands.specs.declared.delivery.Delivery.TheVariants.{AtOnce, Whole}

-- files that are the same
pub kept_same : (name : List ℕ) (old new : Option Files) → new ≡ old → KeepsFiles name old new
kept_same name None new e = e
kept_same name (Some old) new e = subst (λ f. KeepsFiles name (Some old) f) (sym e)
    (old (beside_name name), record { here = refl; next = refl; elsewhere = λ o a b. refl })

-- OUT, a file's name, had these entries, and was closed with those that are left
pub record IsClosed (name : List ℕ) (old new : Option Files) (found left : Option Entries)
    : Type 0 where
  pub had : HasOut old name found
  pub named : IsFileName old name
  pub closed : Closes name left old new

pub closed_file : {F D : Type 0} (entries : F → Option Entries) {old then new : Option Files}
    {name : List ℕ} {place : Place F D} {folder : F} {left : Option Entries}
    → place ≡ File folder → IsPlaced entries old name place → then ≡ old
    → Closes name left then new → IsClosed name old new (entries folder) left
closed_file entries {old = old} {new = new} {name = name} {left = left} is h same closes =
    let placed = subst (IsPlaced entries old name) is h in
    record {
      had = placed.0;
      named = placed.1;
      closed = subst (λ f. Closes name left f new) same closes;
    }

kept_file : {name : List ℕ} (old new : Option Files) (found left : Option Entries)
    → IsClosed name old new found left → OutIsKept found left → KeepsFiles name old new
kept_file None new found left x k = x.closed
kept_file (Some old) new None left x k = absurd x.had
kept_file (Some old) new (Some f) None x k = absurd x.closed
kept_file (Some old) None (Some f) (Some l) x k = absurd x.closed
kept_file (Some old) (Some new) (Some f) (Some l) x (inl k) = (
  option_map bytes_of l.beside,
  record {
    here = x.closed.here ∙ ap (option_map bytes_of) k.out ∙ x.had;
    next = x.closed.next;
    elsewhere = x.closed.elsewhere;
  },
)
kept_file (Some old) (Some new) (Some f) (Some l) x (inr k) = (
  option_map bytes_of l.beside,
  record {
    here = x.closed.here ∙ ap (option_map bytes_of) k.out ∙ x.had;
    next = x.closed.next;
    elsewhere = x.closed.elsewhere;
  },
)

-- Where an output was closed, OUT has what was written, or what it had before.
module _ (Q : List ℕ → Entries → Type 0) (P : Option (List ℕ) → Option (List ℕ) → Type 0) where
  file_is : {name : List ℕ} (old new : Option Files) (found left : Option Entries)
      → IsClosed name old new found left → BecomesWritten Q P (option_map created found) left
      → (beside : Option (List ℕ)) × FileIs P name beside old new
  file_is None new None None x b = (None, (b, x.closed))
  file_is None new None (Some l) x b = absurd b
  file_is None new (Some f) left x b = absurd (let h = x.had in cc)
  file_is (Some old) new None left x b = absurd x.had
  file_is (Some old) new (Some f) None x b = absurd b
  file_is (Some old) None (Some f) (Some l) x b = absurd x.closed
  file_is (Some old) (Some new) (Some f) (Some l) x b = (
    option_map bytes_of l.beside,
    (
      b.0,
      b.1,
      record {
        here = x.closed.here ∙ ap (option_map bytes_of) b.2.out;
        next = x.closed.next;
        elsewhere = x.closed.elsewhere;
      },
    ),
  )

-- an output that was closed: the file of its name is what was written
becomes : (P : Option (List ℕ) → Option (List ℕ) → Type 0) {name : List ℕ}
    (old new : Option Files) (found left : Option Entries) → IsClosed name old new found left
    → BecomesWritten IsForGood P (option_map created found) left → FileBecomes P name old new
becomes P None new None None x b = (b, x.closed)
becomes P None new None (Some l) x b = absurd b
becomes P None new (Some f) left x b = absurd (let h = x.had in cc)
becomes P (Some old) new None left x b = absurd x.had
becomes P (Some old) new (Some f) None x b = absurd b
becomes P (Some old) None (Some f) (Some l) x b = absurd x.closed
becomes P (Some old) (Some new) (Some f) (Some l) x b = (
  b.0,
  b.1,
  record {
    here = x.closed.here ∙ ap (option_map bytes_of) b.2.out;
    next = x.closed.next ∙ ap (option_map bytes_of) b.4.0;
    elsewhere = x.closed.elsewhere;
  },
)

module _ {A : Type 0} {writes puts : A → Option (List ℕ) → Option (List ℕ) → Type 0}
    {lines : A → List ℕ} {name : List ℕ} {old new : Option Files} where
  pub left_file : {found : Option Entries} {m t : ℕ} {told errors : Option (List ℕ)}
      {d : Devices} → IsClosed name old new found d.folder
      → Succeeds writes lines (with_beside (devices found m told t)) d
      → Leaves writes puts lines name (outside old told errors) (outside new d.report errors)
  left_file {found = found} {d = d} x s =
      in_file s.answer x.named (becomes (writes s.answer) old new found d.folder x s.out) s.told
      refl

  pub left_device : {d d' : Outlets} {errors : Option (List ℕ)} → old ≡ None → new ≡ old
      → PutsOut puts lines d d'
      → Leaves writes puts lines name (outside old d.report errors) (outside new d'.report errors)
  left_device none same p = in_device p.answer none (same ∙ none) p.told refl

  pub left_output : {d d' : Outlets} → IsStandard old name → new ≡ old
      → PutsOut puts lines d d'
      → Leaves writes puts lines name (outside old d.output d.report)
      (outside new d'.output d'.report)
  left_output standard same p = in_output p.answer standard same p.out p.told

-- what fails where the output is put out at once fails so where it is held
held_too : {A : Type 0} {writes : A → Option (List ℕ) → Option (List ℕ) → Type 0}
    {fails : CommandFault → Type 0} {name : List ℕ} {found left : Outside}
    {fault : CommandFault} → FailsToLeave writes fails name found left fault
    → FailsToLeave writes (FailsHeld fails) name found left fault
held_too (as_before (inl f) k t) = as_before (inl (inl f)) k t
held_too (as_before (inr is) k t) = as_before (inr is) k t
held_too (in_place is answer beside f t) = in_place is answer beside f t

-- ---- what was reported after a fault

no_file : (files : Option Files) (name : List ℕ) → files ≡ None → IsKnownFile files name → ⊥
no_file None name e known = known
no_file (Some files) name e known = absurd (let h = e in cc)

no_standard : (files : Option Files) (name : List ℕ) → IsStandard files name
    → IsKnownFile files name → ⊥
no_standard None name standard known = known
no_standard (Some files) name standard known = known standard

-- a report to standard output that is as before, or `cannot write`
untold : {name : List ℕ} {old new : Option Files} {out out' errors : Option (List ℕ)}
    {e : CommandFault} → (e ≡ fault.CannotWrite) ⊎ (out' ≡ out)
    → TellsNothing name (outside old out errors) (outside new out' errors) e
untold (inl is) = record { output = λ known not. absurd (not is); errors = λ why. refl }
untold (inr same) = record { output = λ known not. same; errors = λ why. refl }

by_either : {K N E : Type 0} → (K → ⊥) → (N → E) → K ⊎ N → E
by_either none same (inl known) = absurd (none known)
by_either none same (inr not) = same not

-- a report to standard error that is as before, or `cannot write`, where OUT is no file
untold_error : {name : List ℕ} {old new : Option Files} {out out' errors errors' : Option (List ℕ)}
    {e : CommandFault} → (IsKnownFile old name → ⊥)
    → (e ≢ fault.CannotWrite → errors' ≡ errors)
    → TellsNothing name (outside old out errors) (outside new out' errors') e
untold_error none same = record {
  output = λ known not. absurd (none known);
  errors = by_either none same;
}

-- Where the work failed, or the file, the disk or the report.
module _ {A : Type 0} {writes : A → Option (List ℕ) → Option (List ℕ) → Type 0}
    {fails : CommandFault → Type 0} {name : List ℕ} {old new : Option Files} where
  failed_file : {lines : A → List ℕ} {before : Type 0} {d d' : Devices}
      {errors : Option (List ℕ)} {fault : CommandFault}
      → IsClosed name old new d.folder d'.folder → Fails writes fails lines before d d' fault
      → FailsToLeave writes fails name (outside old d.report errors)
      (outside new d'.report errors) fault
  failed_file {d = d} {d' = d'} x (of_work f w kept clear quiet) =
      as_before (inl f) (kept_file old new d.folder d'.folder x kept) (untold (inr quiet.report))
  failed_file {d = d} {d' = d'} x (of_create is b more kept quiet) =
      as_before (inr (inl is)) (kept_file old new d.folder d'.folder x kept)
      (untold (inr quiet.report))
  failed_file {d = d} {d' = d'} x (of_file is could failed kept clear quiet) =
      as_before (inr (inr (inl is))) (kept_file old new d.folder d'.folder x kept) (untold (inl is))
  failed_file {d = d} {d' = d'} x (of_disk is w) =
      let f = file_is _ (writes w.answer) old new d.folder d'.folder x w.out in
      in_place (inl is) w.answer f.0 f.1 (untold (inr w.untold.report))
  failed_file {d = d} {d' = d'} x (of_report is w) =
      let f = file_is _ (writes w.answer) old new d.folder d'.folder x w.out in
      in_place (inr is) w.answer f.0 f.1 (untold (inl is))

  pub failed_as : {lines : A → List ℕ} {before : Type 0} {d d' : Devices}
      {errors : Option (List ℕ)} {fault : CommandFault} (delivery : Delivery)
      → IsClosed name old new d.folder d'.folder → Fails writes fails lines before d d' fault
      → FailsToLeave writes (FailsDelivered delivery fails) name (outside old d.report errors)
      (outside new d'.report errors) fault
  failed_as (AtOnce if_none) x f = failed_file x f
  failed_as (Whole alloc) x f = held_too (failed_file x f)

module _ {A : Type 0} {writes : A → Option (List ℕ) → Option (List ℕ) → Type 0}
    {fails : CommandFault → Type 0} {name : List ℕ} {old : Outside} {files : Option Files}
    {out now errors : Option (List ℕ)} where
  -- what was left, and could not be handed on
  pub unhanded : {puts : A → Option (List ℕ) → Option (List ℕ) → Type 0}
      {lines : A → List ℕ} → Leaves writes puts lines name old (outside files out errors)
      → FailsToLeave writes fails name old (outside files now errors) fault.CannotWrite
  unhanded (in_file answer n f t e) = in_place (inr refl) answer None f
      (record { output = λ known not. absurd (not refl); errors = λ why. e })
  unhanded (in_device answer none none' t e) = as_before (inr (inr (inl refl)))
      (kept_same name old.files files (none' ∙ sym none))
      (untold_error (no_file old.files name none) (λ not. absurd (not refl)))
  unhanded (in_output answer standard same p t) = as_before (inr (inr (inl refl)))
      (kept_same name old.files files same)
      (untold_error (no_standard old.files name standard) (λ not. absurd (not refl)))

  pub failed_still : {d : CommandFault} → now ≡ out
      → FailsToLeave writes fails name old (outside files out errors) d
      → FailsToLeave writes fails name old (outside files now errors) d
  failed_still {d} same f =
      subst (λ (o : Option (List ℕ)). FailsToLeave writes fails name old (outside files o errors) d)
      (sym same) f

-- an output that takes its bytes itself, and failed
module _ {A : Type 0} {writes : A → Option (List ℕ) → Option (List ℕ) → Type 0}
    {fails : CommandFault → Type 0} {name : List ℕ} {old new : Option Files}
    {out out' errors : Option (List ℕ)} {e : CommandFault} where
  pub failed_device : old ≡ None → new ≡ old → IsReason fails e
      → FailsToLeave writes fails name (outside old out errors) (outside new out' errors) e
  failed_device none same why =
      as_before why (kept_same name old new same) (untold_error (no_file old name none) (λ not. refl))

  pub failed_output : {errors' : Option (List ℕ)} → IsStandard old name → new ≡ old
      → IsReason fails e → (e ≢ fault.CannotWrite → errors' ≡ errors)
      → FailsToLeave writes fails name (outside old out errors) (outside new out' errors') e
  failed_output standard same why quiet =
      as_before why (kept_same name old new same) (untold_error (no_standard old name standard) quiet)

-- the report of an output that takes its bytes itself, and failed
pub untold_out : {A : Type 0} {writes : A → Option (List ℕ) → Option (List ℕ) → Type 0}
    {fails : CommandFault → Type 0} {lines : A → List ℕ} {before could : Type 0}
    {d d' : Outlets} {e : CommandFault} → FailsOut writes fails lines before could d d' e
    → e ≢ fault.CannotWrite → d'.report ≡ d.report
untold_out (outlet.of_work f w quiet) not = quiet.report
untold_out (of_open is b more same quiet) not = quiet.report
untold_out (of_output is could more quiet) not = quiet.report
untold_out (outlet.of_report is p) not = absurd (not is)

-- a fault, once what was printed was to be handed on
pub fails_after : {L : Type 0} {F G : CommandFault → Type 0}
    (done r : Result (Unit {0}) CommandFault) → (L → G fault.CannotWrite)
    → ((d : CommandFault) → F d → G d) → OnOk done L → IfErr done F
    → IfErr done (λ e. r ≡ Err e) → OnOk done (IfErr r (λ e. e ≡ fault.CannotWrite))
    → IfErr r G
fails_after done (Ok u) unhanded still l f first after = tt
fails_after {G = G} (Ok x) (Err e) unhanded still l f first after = subst G (sym after) (unhanded l)
fails_after {G = G} (Err d) (Err e) unhanded still l f first after =
    subst (λ x. IfErr x G) (sym first) (still d f)

-- What is known of an output when it is finished, stated from when it was made.
use Rattle.std.proofs.Common.{◌≡◌, ◌+◌, ◌<◌, ℕ, List, [], ◌∷◌, Option, Some}
use Rattle.std.proofs.Common.{None, Result, Ok, Err, IfOk, IfErr, inr, refl, sym, ap, subst}
use Rattle.std.proofs.Common.{◌∙◌, arith}
use Rattle.std.specs.Prelude.{option_map, OnOk, OnErr, is_ok, if◌then◌else◌}
use Rattle.flute_output.specs.Entries.{Entries, Leads, Does, created, OutBecomes}
use Rattle.flute_output.specs.Entries.{IsEitherAlways, Ends, found_in, named_in, taken, whole}
use Rattle.flute_output.specs.declared.output.FinishFault.{FinishFault}
use Rattle.flute_output.specs.declared.output.FinishFault.TheVariants.{Work, Write, NotOnDisk}
use Rattle.flutejoin.specs.declared.command_fault.CommandFault.{CommandFault}
use Rattle.flutejoin.specs.declared.command_fault.CommandFault.TheVariants as fault
use Rattle.flutejoin_commands.specs.Commands.{BecomesWritten, Devices, Fails, FailsWriting, by_disk}
use Rattle.flutejoin_commands.specs.Commands.{by_file, by_report, by_work, of_disk, of_file}
use Rattle.flutejoin_commands.specs.Commands.{of_report, of_work, IsCleared, IsThere, IsUntold}
use Rattle.flutejoin_commands.specs.Commands.{NothingBeside, WasWholeAlways, devices}

some_same : {X : Type 0} (x y : X) → Some x ≡ Some y → x ≡ y
some_same x y e = cc

either_at : (bytes : List ℕ) (made now new : Entries) → now.named ≡ made.named
    → IsEitherAlways (whole bytes) now new → IsEitherAlways (whole bytes) made new
either_at bytes made now new e h = record {
  stopped = h.stopped;
  lost_power = λ is. h.lost_power (e ∙ is);
}

pub either_since : (made now new : Option Entries)
    → option_map named_in now ≡ option_map named_in made
    → Leads (λ old e. IsEitherAlways (whole (taken old)) old e) now new → WasWholeAlways made new
either_since None None None n h = h
either_since None None (Some new) n h = h
either_since None (Some now) new n h = absurd cc
either_since (Some made) None new n h = absurd cc
either_since (Some made) (Some now) None n h = h
either_since (Some made) (Some now) (Some new) n h =
    (taken now, either_at (taken now) made now new (some_same now.named made.named n) h)

-- these entries are of one output: OUT was found alike, and its name is the same
pub record AreOfOne (made now : Option Entries) : Type 0 where
  pub found : option_map found_in now ≡ option_map found_in made
  pub named : option_map named_in now ≡ option_map named_in made

pub there_since : (P : Option (List ℕ) → Option (List ℕ) → Type 0)
    (made now new : Option Entries) → AreOfOne made now
    → P (option_map taken made) (option_map taken now)
    → Leads (λ old e. OutBecomes (whole (taken old)) old e) now new
    → Leads (λ old e. IsEitherAlways (whole (taken old)) old e) now new
    → BecomesWritten IsThere P made new
there_since P None None None same p b h = p
there_since P None None (Some new) same p b h = h
there_since P None (Some now) new same p b h = absurd (let f = same.found in cc)
there_since P (Some made) None new same p b h = absurd (let f = same.found in cc)
there_since P (Some made) (Some now) None same p b h = h
there_since P (Some made) (Some now) (Some new) same p b h = (
  taken now,
  p,
  record {
    out = b.out;
    found = b.found ∙ some_same now.found made.found same.found;
    past = b.past ∙ ap (λ x. x ∷ []) (some_same now.found made.found same.found);
  },
  either_at (taken now) made now new (some_same now.named made.named same.named) h,
  tt,
)

beside_since : (made now new : Option Entries)
    → option_map found_in now ≡ option_map found_in made → NothingBeside now new
    → NothingBeside made new
beside_since None None None f h = h
beside_since None None (Some new) f h = h
beside_since None (Some now) new f h = absurd cc
beside_since (Some made) None new f h = absurd cc
beside_since (Some made) (Some now) None f h = h
beside_since (Some made) (Some now) (Some new) f h = h

-- how a work ended: what it wrote since its output was made, and how often this failed
pub record WorkEnds {A : Type 0} (writes : A → Option (List ℕ) → Option (List ℕ) → Type 0)
    (made now : Option Entries) (m n : ℕ) (done : Result A CommandFault) : Type 0 where
  pub same : AreOfOne made now
  pub quiet : OnOk done (n ≡ m)
  pub written : IfOk done (λ x. writes x (option_map taken made) (option_map taken now))

-- how its output was finished
pub record OutputEnds {A : Type 0} (now new : Option Entries) (n l : ℕ)
    (done : Result A CommandFault) (ended : Result A (FinishFault CommandFault)) : Type 0 where
  pub fault : IfErr done (λ e. ended ≡ Err (Work e))
  pub dropped : IfErr ended (λ f. Leads (Ends f) now new)
  pub any_moment : Leads (λ old e. IsEitherAlways (whole (taken old)) old e) now new
  pub gone : OnErr ended (l ≡ n + (if is_ok done then 1 else 0) → NothingBeside now new)
  pub cause : OnOk done (OnErr ended (n < l))

-- only the last step of finishing failed; `answer` is what the lines report of what was done
pub not_on_disk : {X A : Type 0} {writes : A → Option (List ℕ) → Option (List ℕ) → Type 0}
    {fails : CommandFault → Type 0} {lines : A → List ℕ} {made now new : Option Entries}
    {m n l : ℕ} {told : Option (List ℕ)} {t : ℕ} (answer : X → A)
    (done : Result X CommandFault) (ended : Result X (FinishFault CommandFault))
    → WorkEnds (λ x. writes (answer x)) made now m n done
    → OutputEnds now new n l done ended → ended ≡ Err NotOnDisk
    → FailsWriting writes fails lines (devices made m told t) (devices new l told t) fault.NotOnDisk
not_on_disk answer (Ok x) (Ok y) w e is = absurd cc
not_on_disk answer (Ok x) (Err (Work f)) w e is = absurd cc
not_on_disk answer (Ok x) (Err Write) w e is = absurd cc
not_on_disk {writes = writes} {made = made} {now = now} {new = new} answer (Ok x) (Err NotOnDisk) w
    e is = by_disk refl (record {
      answer = answer x;
      out = there_since (writes (answer x)) made now new w.same w.written e.dropped e.any_moment;
      folder_fails = omega (arith, w.quiet, e.cause);
      cleared = λ once.
          beside_since made now new w.same.found (e.gone (omega (arith, w.quiet, once)));
      untold = record { report = refl; failures = refl };
    })
not_on_disk answer (Err f) ended w e is =
    let clash : Err (Work f) ≡ Err NotOnDisk = sym e.fault ∙ is in absurd cc

-- From what was known once the file beside OUT was made to what was known before.

made_of : (old made : Option Entries) → Does created old made → made ≡ option_map created old
made_of None None d = refl
made_of None (Some made) d = absurd d
made_of (Some old) None d = absurd d
made_of (Some old) (Some made) d = ap Some d

beside_before : (old new : Option Entries) → NothingBeside (option_map created old) new
    → NothingBeside old new
beside_before None None h = h
beside_before None (Some new) h = h
beside_before (Some old) None h = h
beside_before (Some old) (Some new) h = h

module _ (old : Option Entries) (m : ℕ) (told : Option (List ℕ)) (t : ℕ) (new : Devices)
    (fault : CommandFault) where
  cleared_before : IsCleared (devices (option_map created old) m told t) new fault
      → IsCleared (devices old m told t) new fault
  cleared_before h = record {
    none = λ same. beside_before old new.folder (h.none same);
    one = λ is once. beside_before old new.folder (h.one is once);
  }

  untold_before : IsUntold (devices (option_map created old) m told t) new
      → IsUntold (devices old m told t) new
  untold_before h = record { report = h.report; failures = h.failures }

  module _ {A : Type 0} (writes : A → Option (List ℕ) → Option (List ℕ) → Type 0)
      (fails : CommandFault → Type 0) (lines : A → List ℕ) (before : Type 0) where
    fails_before : FailsWriting writes fails lines
        (devices (option_map created old) m told t) new fault
        → Fails writes fails lines before (devices old m told t) new fault
    fails_before (by_work f c out clear untold) =
        of_work f c (inr out) (cleared_before clear) (untold_before untold)
    fails_before (by_file is could failed out clear untold) =
        of_file is could failed (inr out) (cleared_before clear) (untold_before untold)
    fails_before (by_disk is h) = of_disk is h
    fails_before (by_report is h) = of_report is h

-- why a command failed, known of it once the file beside OUT was made
pub failed_before : {A : Type 0} {writes : A → Option (List ℕ) → Option (List ℕ) → Type 0}
    {fails : CommandFault → Type 0} {lines : A → List ℕ} {before : Type 0}
    {old made : Option Entries} {m k : ℕ} {told : Option (List ℕ)} {t : ℕ} {new : Devices}
    {fault : CommandFault} → Does created old made → k ≡ m
    → FailsWriting writes fails lines (devices made k told t) new fault
    → Fails writes fails lines before (devices old m told t) new fault
failed_before {writes = writes} {fails = fails} {lines = lines} {before = before} {old = old}
    {made = made} {m = m} {told = told} {t = t} {new = new} {fault = fault} d e h =
    fails_before old m told t new fault writes fails lines before
    (subst (λ (x : Option Entries). FailsWriting writes fails lines (devices x m told t) new fault)
    (made_of old made d)
    (subst (λ (n : ℕ). FailsWriting writes fails lines (devices made n told t) new fault) e h))

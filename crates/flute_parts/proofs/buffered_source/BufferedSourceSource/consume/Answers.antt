use Rattle.std.proofs.Common.{ℕ, Bool, true, false, List, ◌++◌, take, drop, Option, Some}
use Rattle.std.proofs.Common.{None, sym, ap, ◌∙◌, ◌==◌, if◌then◌else◌, append_assoc}
use Rattle.std.proofs.lemmas.List.{take-append-drop}
use Rattle.std.specs.Io.Buffered.{reader_buffer, reader_capacity}
use Rattle.std.specs.Io.KnownBytes.{Consumes, prepend_known}
use Rattle.flute_parts.proofs.buffered_source.BufferedSourceSource.consume.Goals as goal

-- what a buffer holds is taken from its front
taken : (none : Bool) (n : ℕ) (buffer : List ℕ) (rest : Option (List ℕ))
    → Consumes (if none then None else prepend_known buffer rest)
    (if none then None else prepend_known (drop n buffer) rest) (take n buffer)
taken true n buffer rest = tt
taken false n buffer None = tt
taken false n buffer (Some rest) = ap (λ front. front ++ rest) (sym (take-append-drop n buffer)) ∙
    append_assoc _ _ rest

pub returns-clause-bytes : goal.returns-clause-bytes
returns-clause-bytes g c = rw
    (c.consume.ensures.buffer, c.consume.ensures.inner, c.consume.ensures.capacity) (taken _ _ _ _)

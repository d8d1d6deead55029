-- A whole input in memory.
use Rattle.std.specs.Prelude.{ℕ, ◌<◌, List, length, Option, ⊤, IfSome, Result, Err}
use Rattle.flutejoin_replicas.specs.declared.blob.BlobFault.{BlobFault}
use Rattle.flutejoin_replicas.specs.declared.blob.BlobFault.TheVariants.{Read, TooLarge}
use Rattle.flutejoin_replicas.specs.declared.blob.BlobFault.TheVariants.{OutOfMemory}

-- why an input was not kept, by the bytes that were left of it
abbrev pub IsBlobFault : Option (List ℕ) → BlobFault → Type 0
IsBlobFault old TooLarge = IfSome old (λ bytes. 4294967295 < length bytes)
IsBlobFault old Read = ⊤
IsBlobFault old OutOfMemory = ⊤

-- how often the source failed in a call that gave this: once, if it answers `Read`
abbrev pub blob_failed : {T : Type 0} → Result T BlobFault → ℕ
blob_failed (Err Read) = 1
blob_failed _ = 0

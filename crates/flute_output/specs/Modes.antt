-- The permissions of OUT.
use Rattle.std.specs.Prelude.{ℕ, bit_and, Option, Some, None}
use Rattle.std.specs.Fs.{metadata_mode}
use Rattle.std.specs.declared.fs.attrs.Metadata.{Metadata}

-- the mode that the new file is made with: of the file that OUT was, if it was there, what says who
-- may read, write and run it; else that of any new file, which all may read and write, before the
-- user's mask
abbrev pub mode_of : Option Metadata → ℕ
mode_of (Some metadata) = bit_and (metadata_mode metadata) 0o777
mode_of None = 0o666

-- What became of an output that was closed (specs/Closings).
use Rattle.std.proofs.Common.{ℕ, List, Option, Some, None, inl, inr, refl}
use Rattle.flute_output.specs.Entries.{Entries}
use Rattle.flutejoin_commands.specs.Closings.{Closing, ClosesWhole, IsNoted}
use Rattle.flutejoin_commands.specs.Commands.{IsWholeAlways}
use Rattle.flutejoin_commands.specs.Files.{Files}
use Rattle.flutejoin_commands.specs.Worlds.{HasOut}

-- an output with these entries, which was whole at any moment
pub closed_whole : {name : List ℕ} {files : Option Files} (old : Option (List Closing))
    {new : Option (List Closing)} (first last : Option Entries) → HasOut files name first
    → IsWholeAlways first last → IsNoted name last old new → ClosesWhole name files old new
closed_whole None first last h w n = inl n
closed_whole (Some old) first None h w n = absurd n
closed_whole (Some old) first (Some e) h w n = inr (record {
  before = old;
  entries = e;
  was = refl;
  is = n;
  whole = (first, h, w);
})

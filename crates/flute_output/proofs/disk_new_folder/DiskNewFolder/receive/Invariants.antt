use Rattle.std.proofs.Common.{length, take, ◌-◌, ◌++◌, ◌≡◌, ◌≤◌, true, option_map, IfSome}
use Rattle.flute_output.specs.DiskWrites.{taken_for}
use Rattle.flute_output.proofs.disk_new_folder.DiskNewFolder.receive.Given as goal

pub record IsTaking (bound same_file so_far as_broken failures : Type 0) : Type 0 where
  pub within : bound
  pub file : same_file
  pub bytes : so_far
  pub whole : as_broken
  pub quiet : failures

abbrev pub invariant-loop-taken : goal.invariant-loop-taken
invariant-loop-taken g l = IsTaking (l.taken ≤ length l.bytes)
    (option_map g.C.Calls.number l.self.writer.file ≡ option_map g.C.Calls.number l.fn.self.writer.file)
    (g.C.Calls.told ≡ true → IfSome (option_map g.C.Calls.number l.fn.self.writer.file) (λ k.
    taken_for k l.self.writer.waiting.items (g.C.Calls.run l.self.calls).now
    ≡ taken_for k l.fn.self.writer.waiting.items (g.C.Calls.run l.fn.self.calls).now
    ++ take l.taken l.bytes))
    (l.self.is_broken ≡ l.fn.self.is_broken)
    (l.self.writer.failures ≡ l.fn.self.writer.failures)

abbrev pub decreases-loop-taken : goal.decreases-loop-taken
decreases-loop-taken g l = length l.bytes - l.taken

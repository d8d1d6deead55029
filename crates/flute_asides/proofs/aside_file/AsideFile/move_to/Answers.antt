use Rattle.std.proofs.Common.{subst, ap, arith, ◌≡◌}
use Rattle.std.proofs.lemmas.Grind.{common_steps}
use Rattle.flute_parts.specs.Devices.{AppendsPart}
use Rattle.flute_asides.proofs.Copies.{part-behind, seen-all}
use Rattle.flute_asides.proofs.Fills.{on_err}
use Rattle.flute_asides.proofs.aside_file.AsideFile.move_to.Goals as goal

pub returns-in_err-write_all-clause-part : goal.returns-in_err-write_all-clause-part
returns-in_err-write_all-clause-part g c bytes is =
    let s = seen-all _ _ bytes is in
    let held : c.deref.result.now ≡ c.args.self.now.held.items =
    grind (arith, common_steps, ap (λ h. h.items) c.empty_into.ensures.same_held) in
    on_err _ _ (subst (λ l.
    AppendsPart (g.W.Sink.written c.args.sink.now) (g.W.Sink.written c.write_all.new.self) l) s.1
    (part-behind _ _ _ _ _ (c.in_ok-empty_into.ensures.moved s.0)
    (subst (λ l.
    AppendsPart (g.W.Sink.written c.empty_into.new.sink) (g.W.Sink.written c.write_all.new.self) l)
    held c.in_err-write_all.ensures.bytes)))

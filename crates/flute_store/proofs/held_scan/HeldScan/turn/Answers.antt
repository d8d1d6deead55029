use Rattle.std.proofs.Common.{rules}
use Rattle.flute_store.proofs.Common.{ShowsNext}
use Rattle.flute_store.proofs.Turns.{held-turn}
use Rattle.flute_store.proofs.held_scan.HeldScan.turn.Goals.{in-Some+in-Some-value}
use Rattle.flute_store.proofs.held_scan.HeldScan.turn.Goals.{in-Some+in-None-value}
use Rattle.flute_store.proofs.held_scan.HeldScan.turn.Goals.{in-None}
use Rattle.flute_store.proofs.held_scan.HeldScan.turn.Goals as goal

pub returns : goal.returns
returns c =
    let shows : ShowsNext c.args.self.now.held c.match-first.next = elim c.match-first.branch [
      | in-Some+in-Some-value w ↦ search rules
      | in-Some+in-None-value w ↦ search rules
      | in-None w ↦ search rules
    ] in held-turn _ c.requires shows c.turn-turn.ensures.turn c.turn-turn.ensures.place
    c.count.ensures

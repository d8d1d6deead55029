-- PartitionScan::upcoming: each branch returns upcoming_at (specs/PartitionScan).
use Rattle.std.proofs.Common.{rules}
use Rattle.flute_store.proofs.Maps.{Held}
use Rattle.std.proofs.Common.{◌≡◌, ◌≢◌, ℕ, Option, None, Some, sym, ap, ◌∙◌, refl}
use Rattle.flute_store.proofs.Common
use Common.{Less, Equal, Greater, symbol_id_cmp, symbol_id, upcoming_at}
use Common.{upcoming_wanted, want_length, PartitionScan, SymbolId, Reason}
use Rattle.flute_store.proofs.Places.{at-end, at-block_end, at-inside, at-first}
use Rattle.flute_store.proofs.partition_scan.PartitionScan.upcoming.Goals as goal

-- the next held symbol is the next of the block
at-want : (w : PartitionScan) {next : Option Held} (id : SymbolId)
    (n : Option ℕ) (why : Option Reason) → next ≡ Some (id, n) → w.esi ≢ w.size
    → symbol_id_cmp id (symbol_id w.sbn w.esi) ≡ Equal → want_length w.partition id n ≡ why
    → upcoming_wanted why ≡ upcoming_at w next
at-want w id n why is inside same wants = rw is
    (ap upcoming_wanted (sym wants) ∙ at-first w id n Equal inside same)

pub returns-then-self-blocks : goal.returns-then-self-blocks
returns-then-self-blocks c = search (rules, at-end)

pub returns-else-self-blocks : goal.returns-else-self-blocks
returns-else-self-blocks c = search (rules, at-block_end)

pub returns-in_default : goal.returns-in_default
returns-in_default c = rw c.in_default.is (at-inside c.args.self.now _ c.if-self.false)

pub returns-in-Less : goal.returns-in-Less
returns-in-Less c = rw c.in-Some.is
    (at-first c.args.self.now _ _ Less c.if-self.false (search rules))

pub returns-in-Some-length : goal.returns-in-Some-length
returns-in-Some-length c = at-want _ _ _ None c.in-Some.is c.if-self.false
    (sym c.cmp.ensures ∙ c.in-Equal.is) (search rules)

pub returns-in-Some-2 : goal.returns-in-Some-2
returns-in-Some-2 c =
    at-want _ _ _ (Some _) c.in-Some.is c.if-self.false (sym c.cmp.ensures ∙ c.in-Equal.is)
    (rw (c.in-Some-length.is, ← c.fits.ensures, c.if-fits.false) refl)

pub returns-in-None : goal.returns-in-None
returns-in-None c = at-want _ _ _ (Some _) c.in-Some.is c.if-self.false
    (search rules) (rw c.in-None.is refl)

pub returns-in-Greater : goal.returns-in-Greater
returns-in-Greater c = rw c.in-Some.is
    (at-first c.args.self.now _ _ Greater c.if-self.false (search rules))

-- An input is kept as it is read.
use Rattle.std.proofs.Common.{◌≡◌, ◌∙◌, refl, ap, take, arith}
use Rattle.std.proofs.lemmas.List.{with_items_is, length-take-le}
use Rattle.flutejoin_replicas.proofs.Blobs.{nothing_kept, end_kept, too_large, piece_kept, piece_of}
use Rattle.flutejoin_replicas.proofs.Blobs.{piece_fits}
use Rattle.flutejoin_replicas.proofs.blob.Blob.read.Goals as goal

pub loop-bytes-init : goal.loop-bytes-init
loop-bytes-init g c =
    let start = nothing_kept (g.R.Source.unread c.args.source.now) c.new-bytes.result.items
    c.new-bytes.ensures.items in
    (c.in_ok-piece.ensures.len, start.0, start.1, refl)

pub returns-then-count-eq0-clause-bytes : goal.returns-then-count-eq0-clause-bytes
returns-then-count-eq0-clause-bytes g c =
    end_kept _ _ (g.R.Source.unread c.read.new.self) c.loop-bytes.bytes.items
    c.loop-bytes.invariant.2 c.in_ok-count.ensures.bytes.0
    (ap (λ n. take n c.read.new.buffer) c.if-count-eq0.true)
    (c.in_ok-count.ensures.bytes.1 c.if-count-eq0.true
    (omega (arith, c.read.auto.buffer, c.deref_mut.ensures.len, c.loop-bytes.invariant.0)))

pub returns-then-count-len-clause-fault : goal.returns-then-count-len-clause-fault
returns-then-count-len-clause-fault g c =
    too_large _ _ (g.R.Source.unread c.read.new.self) c.loop-bytes.bytes.items
    (take c.in_ok-count.count c.read.new.buffer) c.loop-bytes.invariant.2
    c.in_ok-count.ensures.bytes.0
    (omega (
      arith,
      length-take-le c.in_ok-count.count c.read.new.buffer c.in_ok-count.ensures.bound,
      c.if-count-len.true,
      c.len.ensures,
      c.loop-bytes.bytes.ok.0,
      c.loop-bytes.invariant.1,
    ))

pub loop-bytes-preserved : goal.loop-bytes-preserved
loop-bytes-preserved g c =
    let piece : c.deref.result.now ≡ c.read.new.buffer = c.deref.ensures.value
    ∙ with_items_is c.loop-bytes.piece c.read.new.buffer
    (omega (arith, c.read.auto.buffer, c.deref_mut.ensures.len)) in
    let more =
    piece_of c.loop-bytes.bytes.items c.extend_from_slice.new.self.items c.deref.result.now
    c.read.new.buffer c.in_ok-count.count c.in_ok-extend_from_slice.ensures.items piece in (
      c.loop-bytes.invariant.0,
      piece_fits c.loop-bytes.bytes.items c.extend_from_slice.new.self.items c.read.new.buffer
          c.in_ok-count.count more
          (omega (arith, c.if-count-len.false, c.len.ensures, c.loop-bytes.bytes.ok.0))
          c.loop-bytes.invariant.1,
      piece_kept _ _ (g.R.Source.unread c.read.new.self) c.loop-bytes.bytes.items
          _ more c.loop-bytes.invariant.2
          c.in_ok-count.ensures.bytes.0,
      omega (arith, c.in_ok-count.ensures.failures, c.loop-bytes.invariant.3),
    )

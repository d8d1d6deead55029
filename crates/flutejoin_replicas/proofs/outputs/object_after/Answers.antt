-- object_after: the object that is written is the one that the replica was given.
use Rattle.flutejoin_replicas.proofs.Given.{store_same, whole-same, extract_fault-same}
use Rattle.flutejoin_replicas.proofs.outputs.object_after.Goals as goal

pub returns-in-Ok-extract-clause-object : goal.returns-in-Ok-extract-clause-object
returns-in-Ok-extract-clause-object g c = λ origins fits.
    whole-same g.W.Sink.written c.in-Some.store.now _ c.args.key.now c.args.sink.now
    c.extract.new.sink
    (store_same origins c.args.replica c.in-Ok.ensures.done fits c.in-Some.ensures.1)
    c.in-Ok-extract.length c.in-Ok-extract.ensures.bytes

pub returns-in-Some-clause-object : goal.returns-in-Some-clause-object
returns-in-Some-clause-object g c = λ origins fits.
    extract_fault-same g.W.Sink.written c.in-Some.store.now _ c.args.key.now c.args.sink.now
    c.extract.new.sink
    (store_same origins c.args.replica c.in-Ok.ensures.done fits c.in-Some.ensures.1)
    c.in-Err-extract.fault c.in-Err-extract.ensures.bytes

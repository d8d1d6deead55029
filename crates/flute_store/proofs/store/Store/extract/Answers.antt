-- Store::extract: nothing is written if a gap is left, else the object, or a prefix of it.
use Rattle.std.proofs.Common.{refl, ap, ◌∙◌}
use Rattle.flute_store.proofs.Common.{all_left}
use Rattle.flute_store.proofs.ToldObjects.{ToldGaps}
use Rattle.flute_store.proofs.BytesSteps
use BytesSteps.{left-start, none-wanted, not-whole, writes-whole, writes-part}
use Rattle.flute_store.proofs.store.Store.extract.Goals as goal

pub returns-in-Some-next-clause-bytes : goal.returns-in-Some-next-clause-bytes
returns-in-Some-next-clause-bytes g c = (
  not-whole (record {
    told = c.in-Some.ensures;
    info_is = c.in-One.is;
    held_is = c.iter.ensures.rest;
    gaps_are = c.new-gaps.ensures.gaps;
  }) c.in-Some-next.gap _ c.in-Some-next.ensures.steps,
  refl,
)

pub write-requires-clause-whole : goal.write-requires-clause-whole
write-requires-clause-whole g c = ap all_left c.new-walk.ensures.start ∙ left-start c.in-One.info
    _ ∙ none-wanted _ c.new-gaps.ensures.gaps
    c.in_default-next.ensures.steps.0 c.iter.ensures.rest c.iter-2.ensures.rest

pub returns-in-Ok-clause-bytes : goal.returns-in-Ok-clause-bytes
returns-in-Ok-clause-bytes g c =
    let told : ToldGaps c.args.self.now c.args.key.now c.in-Some.object.now c.in-One.info
    c.iter.result c.new-gaps.result.gaps = record {
      told = c.in-Some.ensures;
      info_is = c.in-One.is;
      held_is = c.iter.ensures.rest;
      gaps_are = c.new-gaps.ensures.gaps;
    } in writes-whole told _ c.in_default-next.ensures.steps.0 c.iter-2.ensures.rest
    c.new-walk.ensures.start c.length-length.ensures.value c.in-Ok.ensures.bytes
    c.length-length.ensures.valid

pub returns-in-Err-clause-bytes : goal.returns-in-Err-clause-bytes
returns-in-Err-clause-bytes g c =
    let told : ToldGaps c.args.self.now c.args.key.now c.in-Some.object.now c.in-One.info
    c.iter.result c.new-gaps.result.gaps = record {
      told = c.in-Some.ensures;
      info_is = c.in-One.is;
      held_is = c.iter.ensures.rest;
      gaps_are = c.new-gaps.ensures.gaps;
    } in writes-part told _ c.in_default-next.ensures.steps.0 c.iter-2.ensures.rest
    c.new-walk.ensures.start c.length-length.ensures.value c.in-Err.ensures.bytes

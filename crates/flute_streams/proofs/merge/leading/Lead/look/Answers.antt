-- Lead::look: one stream more: it holds nothing before the next address, or is the one to lead.
use Rattle.flute_streams.proofs.Common.{◌≤◌, length, option_copied, arith}
use Rattle.flute_streams.proofs.merge_lemmas.LeadFacts.{lead-new}
use Rattle.flute_streams.proofs.merge.leading.Lead.look.Goals as goal

pub returns : goal.returns
returns g c = λ below. let b = g.G.Streams.behaviour in
    let streams = g.G.Streams.streams c.args.streams.now in
    let h = c.loop-other.invariant in
    let all : length streams ≤ c.loop-other.other = omega (arith, h.all, c.loop-other-test.false) in
    rw h.number (lead-new b (option_copied c.address-place.result) c.requires all
    c.address-place.ensures h.firsts (c.is_below-self.ensures below))

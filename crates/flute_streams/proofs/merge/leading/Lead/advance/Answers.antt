-- Lead::advance: the stream that leads is advanced alone, and may lead on.
use Rattle.std.proofs.Common.{rules}
use Rattle.flute_streams.proofs.Common.{Address, Behaviour, List, Some, StandsAt, address_of}
use Rattle.flute_streams.proofs.Common.{arith, slice_get_within, ℕ, ◌≡◌}
use Rattle.flute_streams.proofs.merge_lemmas.GoingOn.{same_length}
use Rattle.flute_streams.proofs.merge_lemmas.LeadFacts.{lead-goes, lead-stops, still-leads}
use Rattle.flute_streams.specs.Lowest.{held_at}
use Rattle.flute_streams.proofs.merge.leading.Lead.advance.Goals as goal

-- the stream with the number of the first one at the address is there
stands_there : {S : Type 0} (b : Behaviour S) (xs : List S) {place : Address} {first number : ℕ}
    → first ≡ number → address_of (held_at b xs first) ≡ Some place
    → StandsAt b (Some place) xs number
stands_there = search rules

pub returns-in-Err-clause-stops : goal.returns-in-Err-clause-stops
returns-in-Err-clause-stops g c = search (rules, stands_there, lead-stops)

pub address-requires : goal.address-requires
address-requires g c =
    let xs = g.G.Streams.streams c.args.streams.now in
    let l = c.requires.led.leads c.if-self.true in
    let was = slice_get_within xs c.args.self.now.number l.stream l.is in
    let same = same_length g.G.Streams.behaviour c.args.self.now.number xs
    (g.G.Streams.streams c.advance.new.self) c.in_default.ensures.advances in
    omega (arith, was, same)

pub returns-then-self-clause-go_on : goal.returns-then-self-clause-go_on
returns-then-self-clause-go_on g c = search (rules, stands_there, lead-goes)

pub returns-then-self-clause-led : goal.returns-then-self-clause-led
returns-then-self-clause-led g c =
    let unranked = c.requires.led.unranked c.if-self.true in
    record {
      leads = λ below. still-leads _ (c.requires.led.leads c.if-self.true)
          c.in_default.ensures.advances c.address.ensures (c.is_below-self.ensures below);
      ranking = search rules;
      unranked = λ known. unranked;
    }

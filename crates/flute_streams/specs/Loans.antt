-- Streams of which parts are lent.
use Rattle.flute_streams.specs.Streams.{Behaviour}

-- such a stream is as one that holds what is lent, and what is lent to it stays the same
abbrev pub lent_as : {S L : Type 0} → (L → S) → (L → L → Type 0) → Behaviour S → Behaviour L
lent_as whole Same b = record {
  held = λ s. b.held (whole s);
  spelled = λ s. b.spelled (whole s);
  most = λ s. b.most (whole s);
  tells = λ s F. b.tells (whole s) F;
  knows = λ s F. b.knows (whole s) F;
  stops = λ s fault. b.stops (whole s) fault;
  passes = λ start now F. b.passes (whole start) (whole now) F × Same start now;
  reads = λ start now F. b.reads (whole start) (whole now) F;
  fails = λ start now fault. b.fails (whole start) (whole now) fault × Same start now;
  ends = λ start now F. b.ends (whole start) (whole now) F;
}

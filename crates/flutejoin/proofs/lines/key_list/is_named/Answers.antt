use Rattle.std.proofs.Common.{sym, subst}
use Rattle.std.proofs.lemmas.Bool.{false≢true}
use Rattle.flutejoin.specs.KeyLists.{IsApart}
use Rattle.flutejoin.proofs.lines.key_list.is_named.Goals as goal

pub returns-in-Some : goal.returns-in-Some
returns-in-Some c = (
  λ yes. record {
    rest = c.in-Some.rest.now;
    words_are = c.in-Some.ensures.found;
    apart = c.is_apart.ensures.0 yes;
  },
  λ named. c.is_apart.ensures.1 (subst IsApart
      (sym (c.in-Some.ensures.finds named.rest named.words_are)) named.apart),
)

pub returns-in-None : goal.returns-in-None
returns-in-None c = (
  λ no. absurd (false≢true no),
  λ named. absurd (c.in-None.ensures.finds named.rest named.words_are),
)

-- flutejoin_c_extract: no object has such a name.
use Rattle.std.proofs.Common.{inl, refl}
use Rattle.flutejoin.specs.declared.command_fault.CommandFault.TheVariants.{BadKey}
use Rattle.flutejoin_c.proofs.extract.flutejoin_c_extract.Goals as goal

pub returns-in_default-clause-failed : goal.returns-in_default-clause-failed
returns-in_default-clause-failed c = λ fails. record {
  fault = BadKey;
  why = inl (refl, c.in_default.ensures);
  code_is = c.refuse.ensures.value;
  number_is = c.refuse.ensures.number;
}

-- Store::contains: whether the address has a value, for each way a look-up ends.
use Rattle.std.proofs.Common.{◌≡◌, sym, ap, ◌∙◌}
use Rattle.flute_store.proofs.Found.{no_session, no_object, of_info, of_symbols, is_known, known-is}
use Rattle.flute_store.proofs.store.Store.contains.Goals.{in-Absent, in_default-matches}
use Rattle.flute_store.proofs.Common.{is_some, not, info_address, symbol_address, fact_at, content}
use Rattle.flute_store.proofs.store.Store.contains.Goals as goal

pub returns-in_default : goal.returns-in_default
returns-in_default g c = rw (← c.self.view_is)
    (sym (no_session c.self.invariant _ (sym c.in_default.ensures.value)))

pub returns-in_default-get : goal.returns-in_default-get
returns-in_default-get g c = rw (← c.self.view_is) (sym (no_object c.self.invariant
    _ (sym c.in-Some.ensures.value) (sym c.in_default-get.ensures.value)))

pub returns-after-matches : goal.returns-after-matches
returns-after-matches g c =
    let there : c.args.address.now ≡ info_address c.args.address.now.key = λ i. record {
      key = c.args.address.now.key;
      part = c.in-Info.is i;
    } in
    let known : is_some (fact_at (content c.self.inside.sessions) c.args.address.now) ≡ is_known
    c.in-Some-get.object.now.info = rw (
      there,
      of_info c.self.invariant c.args.address.now.key
          (sym c.in-Some.ensures.value) (sym c.in-Some-get.ensures.value),
    ) in rw (← c.self.view_is) (elim
    c.match-matches.branch [
      | in-Absent w ↦ ap not w.matches-is ∙ sym (known ∙ ap is_known w.in-Absent.is)
      | in_default-matches w ↦ rw (
        w.matches-is,
        ← known ∙ known-is c.in-Some-get.object.now.info
            w.in_default-matches.not-Absent,
      )
    ])

pub returns-in-Symbol : goal.returns-in-Symbol
returns-in-Symbol g c =
    let there : c.args.address.now ≡ symbol_address c.args.address.now.key c.in-Symbol.id =
    λ i. record { key = c.args.address.now.key; part = c.in-Symbol.is i } in
    rw (← c.self.view_is)
    (c.contains.ensures.value
    ∙ sym (ap (λ a. is_some (fact_at (content c.self.inside.sessions) a)) there
    ∙ of_symbols c.self.invariant c.args.address.now.key c.in-Symbol.id
    (sym c.in-Some.ensures.value) (sym c.in-Some-get.ensures.value)))

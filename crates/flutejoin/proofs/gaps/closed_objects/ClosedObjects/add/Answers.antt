-- ClosedObjects::add: the lines of one object more, or with a summary its session's sums.
use Rattle.std.proofs.Common.{◌≡◌, ◌∷◌, ◌++◌, ◌&&◌, [], ℕ, Bool, Some, Ok, true, false, refl, sym, ◌∙◌, ap, subst}
use Rattle.std.specs.Prelude.{not}
use Rattle.flute_parts.specs.Devices.{Writes}
use Rattle.flute_store.specs.declared.status.Status.{Status}
use Rattle.flutejoin.specs.Listing.{ArePut, AreSummed, BeginsSession}
use Rattle.flutejoin.specs.Sums.{AddsObject}
use Rattle.flutejoin.specs.declared.gaps.closed_objects.ClosedObjects.{ClosedObjects}
use Rattle.flutejoin.specs.Styles.{is_right, is_told, gap_lines, listed_by, object_line}
use Rattle.flutejoin.specs.declared.lines.style.Style.{Style}
use Rattle.flutejoin.proofs.gaps_lemmas.Closing.{are_summed, told_lined, told_nothing, told_summed}
use Rattle.flutejoin.proofs.gaps_lemmas.Keys.{equal_sessions, other_sessions}
use Rattle.flutejoin.proofs.gaps_lemmas.Sessions.{IsOfOthers, begun_known, more_known}
use Rattle.flutejoin.proofs.gaps.closed_objects.ClosedObjects.add.Goals as goal
use Rattle.flutejoin.proofs.gaps.closed_objects.ClosedObjects.add.Goals.{in_default-via-in-Some+else-eq}
use Rattle.flutejoin.proofs.gaps.closed_objects.ClosedObjects.add.Goals.{in_default-via-in_default}

is_on : (b : Bool) → not b ≡ false → b ≡ true
is_on true e = refl
is_on false e = sym e

is_off : (b : Bool) → not b ≡ true → b ≡ false
is_off true e = sym e
is_off false e = refl

told_as : (style : Style) {a b : Status} {m n : ℕ} → a ≡ b → m ≡ n
    → is_told style a m ≡ is_told style b n
told_as style e count = λ i. is_told style (e i) (count i)

pub returns-then-not-tells-clause-added : goal.returns-then-not-tells-clause-added
returns-then-not-tells-clause-added g c = λ known objects bytes t e is count stray h k. let none = told_as c.args.style is count ∙ sym c.tells.ensures ∙
    c.if-not-tells.true in told_nothing t none stray h k

pub returns-in-Some-clause-added : goal.returns-in-Some-clause-added
returns-in-Some-clause-added g c = λ known objects bytes t e is count stray h k. let style =
    c.args.style in
    let old = c.in-Some.last in
    let q = subst (λ o. AreSummed style.form (listed_by style objects) bytes o) c.in-Some.is
    (are_summed (is_on _ c.if-not-style.false) h) in
    let same = equal_sessions _ _ c.if-eq.ensures ∙ sym (ap (λ x. x.session) e) in
    let a = subst (λ s. AddsObject s t.conflicts old c.add.new.self) (sym is)
    (subst (λ n. AddsObject c.args.status n old c.add.new.self) (sym count) c.add.ensures.added) in
    told_summed known (Some c.add.new.self) (g.A.Sink.written c.args.lines.now) (Ok tt)
    (is_on _ c.if-not-style.false) (record {
      told = told_as style is count ∙ sym c.tells.ensures ∙ c.if-not-tells.false;
      whole_is = c.is_right.ensures ∙ ap (is_right style) (sym is);
    }) h (more_known t q same a k)

pub returns-in_ok-end_session-in_default-clause-added :
    goal.returns-in_ok-end_session-in_default-clause-added
returns-in_ok-end_session-in_default-clause-added g c = λ known objects bytes t e is count stray h
    k. let style = c.args.style in
    let session = c.args.key.now.session in
    let of = ap (λ x. x.session) e in
    let q = are_summed (is_on _ c.if-not-style.false) h in
    let all_whole = c.args.self.now.all_whole && c.is_right.result in
    let P : ClosedObjects → Type 0 = λ x.
    (AreSummed style.form (listed_by style objects) bytes x.sums × IsOfOthers t.key.session x.sums)
    × (x.all_whole ≡ all_whole) in
    let here : P c.in_default.self = elim c.in_default.branch [
      | in_default-via-in-Some+else-eq w ↦ let last = w.in-Some.last in
          let apart = other_sessions _ _ w.if-eq.ensures in
          let others : IsOfOthers t.key.session (Some last) = λ same. apart (same ∙ of) in
          let one = subst (λ o. AreSummed style.form (listed_by style objects) bytes o) w.in-Some.is
          q in subst P (sym w.self-is) ((one, others), refl)
      | in_default-via-in_default w ↦ let none = subst (λ o. IsOfOthers t.key.session o)
          (sym w.in_default.is) tt in subst P (sym w.self-is) ((q, none), refl)
    ] in
    let new = Some c.add-in_default.new.self in
    let begun = subst (λ s. BeginsSession s t.status t.conflicts new) (sym of) (subst
    (λ s. BeginsSession session s t.conflicts new) (sym is) (subst
    (λ n. BeginsSession session c.args.status n new) (sym count) (
      c.add-in_default.ensures.within 0
          c.new-next.ensures.within,
      (c.new-next.result, c.new-next.ensures.none, c.add-in_default.ensures.added),
    ))) in
    let w = g.A.Sink.written c.end_session.new.lines in
    let gaps = gap_lines style t.info t.gaps in
    subst
    (λ a. ArePut known style (objects ++ t ∷ []) gaps w (record { all_whole = a; sums = new }))
    (sym here.1) (told_summed known new w (Ok tt) (is_on _ c.if-not-style.false) (record {
      told = told_as style is count ∙ sym c.tells.ensures ∙ c.if-not-tells.false;
      whole_is = c.is_right.ensures ∙ ap (is_right style) (sym is);
    }) h (begun_known _ _ t _ here.0 k begun c.in_ok-end_session-in_default.ensures.line))

pub returns-then-not-style-clause-added : goal.returns-then-not-style-clause-added
returns-then-not-style-clause-added g c = λ known objects bytes t e is count stray h k. let style =
    c.args.style in
    let s = g.A.Sink.written c.args.lines.now in
    let s' = g.A.Sink.written c.write_words.new.sink in
    let r = c.write_words.result in
    let line = subst (λ x. Writes s s' x r) c.object_text.ensures.line c.write_words.ensures.line in
    let own : object_line style c.args.key.now c.args.status c.args.conflicts ≡ object_line style
    t.key t.status t.conflicts = λ i. object_line style (sym e i) (sym is i) (sym count i) in
    told_lined _ r (is_off _ c.if-not-style.true) (record {
      told = told_as style is count ∙ sym c.tells.ensures ∙ c.if-not-tells.false;
      whole_is = c.is_right.ensures ∙ ap (is_right style) (sym is);
    }) h k (subst (λ x. Writes s s' x r) own line)

-- ObjectWalk::add_symbol: a symbol of the progress object, or of a new one without information.
use Rattle.std.proofs.Common.{◌∙◌, ◌+◌, ℕ, List, Bor, Option, Some, ap, arith, refl, sym, subst}
use Rattle.flute_parts.specs.declared.symbol_id.SymbolId.{SymbolId}
use Rattle.flute_store.specs.Scan.{next_fact}
use Rattle.flutejoin.specs.Listing.{IsFirstOf}
use Rattle.flutejoin.specs.Progress.{progress_of}
use Rattle.flutejoin.specs.Walk.{IsAt, Stands, StateIs, Walks}
use Rattle.flutejoin.specs.declared.walk.object_walk.ObjectState.{ObjectState}
use Rattle.flutejoin.specs.declared.walk.object_walk.ObjectState.TheVariants.{OneInformation}
use Rattle.flutejoin.specs.declared.walk.object_walk.OpenObject.{OpenObject}
use Rattle.flutejoin.proofs.gaps_lemmas.Keys.{equal_keys, other_keys}
use Rattle.flutejoin.proofs.walk_lemmas.Objects.{begins_symbol, conflict_by, first_of_others, mine_rising}
use Rattle.flutejoin.proofs.walk_lemmas.Objects.{none_first, on_ok, one_by, one_more_open, open_few, passes_over}
use Rattle.flutejoin.proofs.walk_lemmas.Objects.{passes_scan, scan_rising, told_key}
use Rattle.flutejoin.proofs.walk.object_walk.ObjectWalk.add_symbol.Goals as goal
use Rattle.flutejoin.proofs.walk.object_walk.ObjectWalk.add_symbol.Goals.{in_default-via-in-Some+else-eq}
use Rattle.flutejoin.proofs.walk.object_walk.ObjectWalk.add_symbol.Goals.{in_default-via-in_default}

pub pass-requires : goal.pass-requires
pass-requires g c =
    let w = c.requires.at in
    let n : SymbolId × Option (Bor (List ℕ)) = (c.args.id, c.args.value) in
    let object = c.in-Some.object in
    let key = c.args.key.now in
    let h = subst (λ o. Walks w.facts w.objects w.progress o) c.in-Some.is w.walks in
    let q = subst (λ x. StateIs object.key h.mine w.progress x) c.in-OneInformation.is h.state_is in (
      q.scanned,
      q.scans,
      scan_rising q _ (equal_keys object.key key c.if-eq.ensures) n
          (mine_rising _ h c.requires.onward),
      q.free,
      q.broken,
    )

pub returns-in-OneInformation-clause-added : goal.returns-in-OneInformation-clause-added
returns-in-OneInformation-clause-added g c = λ at F r l. let key = c.args.key.now in
    let n : SymbolId × Option (Bor (List ℕ)) = (c.args.id, c.args.value) in
    let object = c.in-Some.object in
    let same = equal_keys _ _ c.if-eq.ensures in
    let h = subst (λ (o : Option OpenObject). Walks F l.objects l.progress o) c.in-Some.is l.walks
    in
    let q = subst (λ (x : ObjectState). StateIs object.key h.mine l.progress x)
    c.in-OneInformation.is h.state_is in on_ok c.pass.result (λ p. record {
      objects = l.objects;
      progress = Some (progress_of p.0);
      walks = one_more_open (next_fact key n) (Some (progress_of p.0))
          (OneInformation c.pass.new.scan) h (told_key key n ∙ sym same)
          (passes_scan q key same n p.1 p.2)
          (ap (λ x. object.conflicts + x) (c.conflicts_by.ensures ∙ conflict_by _ _ n same));
      has = p.3;
    }) (c.pass.ensures.passed at q.scanned l.objects q.scans
    (scan_rising q _ same n (mine_rising _ h r)) q.free q.broken
    (subst (λ x. g.V.Visitor.Has at l.objects x c.args.visitor.now) q.so_far l.has))

pub returns-in-NoInformation-clause-added : goal.returns-in-NoInformation-clause-added
returns-in-NoInformation-clause-added g c = λ at F r l. let key = c.args.key.now in
    let n : SymbolId × Option (Bor (List ℕ)) = (c.args.id, c.args.value) in
    let object = c.in-Some.object in
    let h = subst (λ o. Walks F l.objects l.progress o) c.in-Some.is l.walks in
    record {
      objects = l.objects;
      progress = l.progress;
      walks = one_more_open _ _ _ h (told_key _ n ∙ sym (equal_keys _ _ c.if-eq.ensures))
          (passes_over h _ n c.in-NoInformation.is) (ap (λ x. object.conflicts + x)
          (c.conflicts_by.ensures ∙ conflict_by _ _ n (equal_keys _ _ c.if-eq.ensures)));
      has = l.has;
    }

pub returns-in-NoInformation-2-clause-added : goal.returns-in-NoInformation-2-clause-added
returns-in-NoInformation-2-clause-added g c = λ at F r l. let key = c.args.key.now in
    let n : SymbolId × Option (Bor (List ℕ)) = (c.args.id, c.args.value) in
    let object = c.in-Some.object in
    let h = subst (λ o. Walks F l.objects l.progress o) c.in-Some.is l.walks in
    record {
      objects = l.objects;
      progress = l.progress;
      walks = one_more_open _ _ _ h (told_key _ n ∙ sym (equal_keys _ _ c.if-eq.ensures))
          (passes_over h _ n c.in-NoInformation.is) (ap (λ x. object.conflicts + x)
          (c.conflicts_by.ensures ∙ conflict_by _ _ n (equal_keys _ _ c.if-eq.ensures)));
      has = l.has;
    }

pub begin-requires : goal.begin-requires
begin-requires g c =
    let was = c.requires.at in
    elim c.in_default.branch [
      | in_default-via-in-Some+else-eq w ↦ subst
          (λ x. IsAt g.V.Visitor.Has x.open c.args.visitor.now) (sym w.self-is)
          (subst (λ o. IsAt g.V.Visitor.Has o c.args.visitor.now) w.in-Some.is was)
      | in_default-via-in_default w ↦ subst (λ x. IsAt g.V.Visitor.Has x.open c.args.visitor.now)
          (sym w.self-is) was
    ]

pub returns-in_default-clause-added : goal.returns-in_default-clause-added
returns-in_default-clause-added g c = λ at F r l. let key = c.args.key.now in
    let n : SymbolId × Option (Bor (List ℕ)) = (c.args.id, c.args.value) in
    let stands : Option OpenObject → Type 0 = λ o. Stands g.V.Visitor.Has at F o c.args.visitor.now
    in
    let first : IsFirstOf F key × stands c.in_default.self.open = elim c.in_default.branch [
      | in_default-via-in-Some+else-eq w ↦ let q = subst (λ o. Walks F l.objects l.progress o)
          w.in-Some.is l.walks in (
            first_of_others _ _ q r (told_key _ n)
                (other_keys _ _ w.if-eq.ensures),
            subst (λ x. stands x.open) (sym w.self-is)
                (subst stands w.in-Some.is l),
          )
      | in_default-via-in_default w ↦ let q = subst (λ o. Walks F l.objects l.progress o)
          w.in_default.is l.walks in
          (none_first F _ q.0, subst (λ x. stands x.open) (sym w.self-is) l)
    ] in c.begin.ensures.begun at F (next_fact key n) r first.1 first.0 (told_key _ n)
    (begins_symbol _ n) (c.conflicts_by-in_default.ensures ∙ conflict_by _ _ n refl)

pub overflow_add-object : goal.overflow_add-object
overflow_add-object g c =
    let w = c.requires.at in
    let h = subst (λ o. Walks w.facts w.objects w.progress o) c.in-Some.is w.walks in
    omega (arith, open_few h, w.few, c.conflicts_by.ensures, one_by c.args.value)

-- gaps: the status that a store gives of an object is the status of its facts (specs/Objects).
use Rattle.std.proofs.Common.{rules}
use Rattle.std.proofs.Common.{◌≡◌, ◌≢◌, ℕ, List, [], sym, ap, ◌∙◌}
use Rattle.std.specs.List.{flat_map}
use Rattle.flute_parts.specs.Information.{Information}
use Rattle.flute_parts.specs.Addresses.{info_address}
use Rattle.flute_parts.specs.Facts.{fact_at}
use Rattle.flute_parts.specs.declared.key.Key.{Key}
use Rattle.flute_parts.specs.declared.symbol_id.SymbolId.{SymbolId}
use Rattle.flute_parts.specs.declared.fact.Fact.{Fact}
use Rattle.flute_store.specs.declared.gap.Reason.{Reason}
use Rattle.flute_store.specs.declared.gap.Reason.TheVariants.{Missing, Conflicting, Misfit}
use Rattle.flute_store.specs.declared.status.Status.{Status}
use Rattle.flute_store.specs.declared.status.Status.TheVariants.{NoInformation, Partial, Whole}
use Rattle.flute_store.specs.declared.status.Status.TheVariants.{ConflictingInformation}
use Rattle.flute_store.specs.Objects.{listed}
use Rattle.flute_store.specs.Status.{how_many, TellsStatus}
use Rattle.flute_store.proofs.Public.{runs-listed, whole-gapless}
use Rattle.flutejoin.specs.Objects.{status_wanting, status_at}

partial_is : (info : Information) (ws : List (SymbolId × Reason)) {m c f : ℕ} → ws ≢ []
    → m ≡ how_many Missing ws → c ≡ how_many Conflicting ws → f ≡ how_many Misfit ws
    → Partial m c f ≡ status_wanting info ws
partial_is = search rules

-- a status says how much is held exactly as the facts do
pub status_is : (F : List Fact) (key : Key) (status : Status) → TellsStatus F key status
    → status ≡ status_at F key (fact_at F (info_address key))
status_is F key NoInformation h = sym (cc)
status_is F key ConflictingInformation h = sym (cc)
status_is F key (Partial m c f) h = partial_is h.info _ h.some h.missing_are
    h.conflicting_are h.misfit_are ∙ sym (cc)
status_is F key (Whole n) h =
    let none = sym (runs-listed _) ∙ ap (flat_map listed) (whole-gapless F _ _ h.1) in
    ap Whole h.2 ∙ ap (status_wanting h.0) (sym none) ∙ sym (cc)

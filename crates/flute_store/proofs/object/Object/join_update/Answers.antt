-- Object::join_update: unless the result is `Full`, the joined object is sound (IsObject).
use Rattle.std.proofs.Common.{◌≡◌, ◌≢◌, None, ℕ}
use Rattle.flute_store.proofs.Common
use Common.{err_from_is_err_and, Absent, Object, Update, object_join}
use Common.{symbols_join, update_object, update_symbols, AreSymbols, IsObject}
use Rattle.flute_store.proofs.OnePair.{symbols_joined, absent-right, some-right, update-some}
use Rattle.flute_store.proofs.object.Object.join_update.Goals as goal

sound : (n : ℕ) (x : Object n) (update : Update) → (update.info ≡ Absent → update.symbol ≢ None)
    → AreSymbols n (symbols_join x.symbols (update_symbols update.symbol))
    → IsObject (object_join x (update_object update))
sound n x update some are = record {
  symbols_are = are;
  some = λ e. some-right symbols_joined _ _ (update-some _ (some (absent-right _ _ _ e)));
}

pub returns-in_err-join_symbols-clause-room : goal.returns-in_err-join_symbols-clause-room
returns-in_err-join_symbols-clause-room g c =
    let refused = err_from_is_err_and c.from_residual.result c.from_residual.ensures.1 in
    rw (refused.1, refused.2) (λ n. sound _ c.args.self.now _
    c.requires.update.some (c.in_err-join_symbols.ensures.room n))

pub returns-in-Absent-clause-room : goal.returns-in-Absent-clause-room
returns-in-Absent-clause-room g c = λ n. sound _ c.args.self.now _
    c.requires.update.some (c.in_ok-join_symbols.ensures.room (λ e. cc))

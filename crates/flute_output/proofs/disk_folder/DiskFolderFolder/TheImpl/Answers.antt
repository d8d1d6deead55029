use Rattle.std.proofs.Common.{ap, refl, sym, option_map}
use Rattle.std.specs.Path.{path_buf_bytes}
use Rattle.std.specs.String.{string_bytes}
use Rattle.flute_output.specs.DiskWrites.{writing}
use Rattle.flute_output.proofs.Disks.{on_ok_numbered, none_numbered, create_shown, write_shown, flush_shown, sync_shown, put_shown, put_failed, names_shown, remove_shown}
use Rattle.flute_output.specs.OutMoments.{settled}
use Rattle.flute_output.proofs.Runs.{on_err_with}
use Rattle.flute_output.proofs.Moments.{follows_if, on_ok_follows, on_err_follows, put_given, steady_beside, steady_written, steady_synced, steady_removed, steady_undone, sure_confirmed}
use Rattle.flute_output.proofs.disk_folder.DiskFolderFolder.TheImpl.Goals as goal

pub create-tells : goal.create-tells
create-tells g c =
    let s = c.args.self.now in
    let z = c.new.self.now in
    let number = g.C.Calls.number in
    let both = create_shown g.C.Calls.told (path_buf_bytes s.names.out) (path_buf_bytes z.names.out)
    (string_bytes s.names.beside) (ap path_buf_bytes c.ensures.same_name) s.names.apart
    (option_map number s.writer.file) (option_map number z.writer.file) s.is_placed z.is_placed
    (writing s.writer.taken s.writer.is_broken s.writer.waiting.items (g.C.Calls.run s.calls).now)
    (writing z.writer.taken z.writer.is_broken z.writer.waiting.items (g.C.Calls.run z.calls).now)
    c.result c.ensures.begun (on_ok_numbered c.result number z.writer.file c.ensures.open)
    c.ensures.none_taken c.ensures.none_wait c.ensures.placed (λ t. (c.ensures.any_moment t).here) in
    record {
      made = both.0;
      refused = both.1;
      steady = follows_if g.C.Calls.told (λ m. m) (path_buf_bytes s.names.out) (path_buf_bytes z.names.out)
          (g.C.Calls.run s.calls) (g.C.Calls.run z.calls)
          (ap path_buf_bytes c.ensures.same_name) (λ t. steady_beside c.result (path_buf_bytes s.names.out) (string_bytes s.names.beside)
          (λ e. s.names.apart (sym e)) (g.C.Calls.run s.calls) (g.C.Calls.run z.calls)
          (c.ensures.any_moment t));
      failures = c.ensures.failures;
    }

pub write-tells : goal.write-tells
write-tells g c =
    let s = c.args.self.now in
    let z = c.new.self.now in
    let number = g.C.Calls.number in
    let both = write_shown g.C.Calls.told (path_buf_bytes s.names.out) (path_buf_bytes z.names.out)
    (string_bytes s.names.beside) (ap path_buf_bytes c.ensures.same_name) s.names.apart
    (option_map number s.writer.file) (option_map number z.writer.file) s.is_placed z.is_placed
    (writing s.writer.taken s.writer.is_broken s.writer.waiting.items (g.C.Calls.run s.calls).now)
    (writing z.writer.taken z.writer.is_broken z.writer.waiting.items (g.C.Calls.run z.calls).now)
    c.result c.args.bytes.now c.ensures.same_file c.ensures.placed
    (λ t. (s.apart t, s.taken t)) c.ensures.goes_on c.ensures.refused in
    record {
      bound = c.ensures.bound;
      progress = c.ensures.progress;
      taken = both.0;
      refused = both.1;
      steady = follows_if g.C.Calls.told (λ m. m) (path_buf_bytes s.names.out) (path_buf_bytes z.names.out)
          (g.C.Calls.run s.calls) (g.C.Calls.run z.calls)
          (ap path_buf_bytes c.ensures.same_name) (λ t. steady_written c.result (path_buf_bytes s.names.out) (string_bytes s.names.beside)
          (λ e. s.names.apart (sym e)) (g.C.Calls.run s.calls) (g.C.Calls.run z.calls)
          (option_map number s.writer.file) (s.apart t) (c.ensures.any_moment t));
      failures = c.ensures.failures;
    }

pub flush-tells : goal.flush-tells
flush-tells g c =
    let s = c.args.self.now in
    let z = c.new.self.now in
    let number = g.C.Calls.number in
    let both = flush_shown g.C.Calls.told (path_buf_bytes s.names.out) (path_buf_bytes z.names.out)
    (string_bytes s.names.beside) (ap path_buf_bytes c.ensures.same_name) s.names.apart
    (option_map number s.writer.file) (option_map number z.writer.file) s.is_placed z.is_placed
    (writing s.writer.taken s.writer.is_broken s.writer.waiting.items (g.C.Calls.run s.calls).now)
    (writing z.writer.taken z.writer.is_broken z.writer.waiting.items (g.C.Calls.run z.calls).now)
    c.result c.ensures.same_file c.ensures.placed
    (λ t. (s.apart t, s.taken t)) c.ensures.goes_on c.ensures.none_wait (on_ok_numbered c.result number s.writer.file c.ensures.open) in
    record {
      flushed = both.0;
      refused = both.1;
      steady = follows_if g.C.Calls.told (λ m. m) (path_buf_bytes s.names.out) (path_buf_bytes z.names.out)
          (g.C.Calls.run s.calls) (g.C.Calls.run z.calls)
          (ap path_buf_bytes c.ensures.same_name) (λ t. steady_written c.result (path_buf_bytes s.names.out) (string_bytes s.names.beside)
          (λ e. s.names.apart (sym e)) (g.C.Calls.run s.calls) (g.C.Calls.run z.calls)
          (option_map number s.writer.file) (s.apart t) (c.ensures.any_moment t));
      failures = c.ensures.failures;
    }

pub sync-tells : goal.sync-tells
sync-tells g c =
    let s = c.args.self.now in
    let z = c.new.self.now in
    let number = g.C.Calls.number in
    let both = sync_shown g.C.Calls.told (path_buf_bytes s.names.out) (path_buf_bytes z.names.out)
    (string_bytes s.names.beside) (ap path_buf_bytes c.ensures.same_name) s.names.apart
    (option_map number s.writer.file) (option_map number z.writer.file) s.is_placed z.is_placed
    (writing s.writer.taken s.writer.is_broken s.writer.waiting.items (g.C.Calls.run s.calls).now)
    (writing z.writer.taken z.writer.is_broken z.writer.waiting.items (g.C.Calls.run z.calls).now)
    (g.C.Calls.run s.calls) (g.C.Calls.run z.calls) refl refl
    (ap (option_map number) c.ensures.same_file) c.ensures.placed c.ensures.same_taken
    (ap (λ v. v.items) c.ensures.same_waiting) c.result (λ t. (s.apart t, s.taken t))
    (on_ok_numbered c.result number s.writer.file c.ensures.open) c.ensures.settled c.ensures.refused in
    record {
      synced = both.0;
      refused = both.1;
      steady = follows_if g.C.Calls.told (λ m. m) (path_buf_bytes s.names.out) (path_buf_bytes z.names.out)
          (g.C.Calls.run s.calls) (g.C.Calls.run z.calls)
          (ap path_buf_bytes c.ensures.same_name) (λ t. steady_synced c.result (path_buf_bytes s.names.out) (string_bytes s.names.beside)
          (λ e. s.names.apart (sym e)) (g.C.Calls.run s.calls) (g.C.Calls.run z.calls)
          (option_map number s.writer.file) (s.apart t)
          (on_ok_numbered c.result number s.writer.file c.ensures.open)
          (c.ensures.settled t) (c.ensures.refused t));
      failures = c.ensures.failures;
    }

pub put_in_place-tells : goal.put_in_place-tells
put_in_place-tells g c =
    let s = c.args.self.now in
    let z = c.new.self.now in
    let number = g.C.Calls.number in
    let put = put_shown g.C.Calls.told (path_buf_bytes s.names.out) (path_buf_bytes z.names.out)
    (string_bytes s.names.beside) (ap path_buf_bytes c.ensures.same_name) s.names.apart
    (option_map number s.writer.file) (option_map number z.writer.file) s.is_placed z.is_placed
    (writing s.writer.taken s.writer.is_broken s.writer.waiting.items (g.C.Calls.run s.calls).now)
    (writing z.writer.taken z.writer.is_broken z.writer.waiting.items (g.C.Calls.run z.calls).now)
    (g.C.Calls.run s.calls) (g.C.Calls.run z.calls) refl refl (λ t. (s.apart t, s.taken t))
    (ap (λ v. v.items) c.ensures.same_waiting) c.result c.ensures.renamed c.ensures.checked
    c.ensures.whole (on_ok_numbered c.result number s.writer.file c.ensures.open)
    c.ensures.first (none_numbered c.result number z.writer.file c.ensures.closed)
    c.ensures.placed in
    record {
      put = put;
      refused = put_failed g.C.Calls.told (path_buf_bytes s.names.out) (path_buf_bytes z.names.out)
          (string_bytes s.names.beside) (ap path_buf_bytes c.ensures.same_name) s.names.apart
          (option_map number s.writer.file) (option_map number z.writer.file)
          s.is_placed z.is_placed
          (writing s.writer.taken s.writer.is_broken s.writer.waiting.items
          (g.C.Calls.run s.calls).now)
          (writing z.writer.taken z.writer.is_broken z.writer.waiting.items
          (g.C.Calls.run z.calls).now)
          (g.C.Calls.run s.calls) (g.C.Calls.run z.calls) refl refl c.result c.ensures.placed
          c.ensures.refused;
      given = put_given (path_buf_bytes s.names.out) (path_buf_bytes z.names.out)
          (string_bytes s.names.beside) (g.C.Calls.run s.calls) (g.C.Calls.run z.calls)
          (ap path_buf_bytes c.ensures.same_name)
          (option_map number s.writer.file) (option_map number z.writer.file)
          s.is_placed z.is_placed
          (writing s.writer.taken s.writer.is_broken s.writer.waiting.items
          (g.C.Calls.run s.calls).now)
          (writing z.writer.taken z.writer.is_broken z.writer.waiting.items
          (g.C.Calls.run z.calls).now)
          c.result g.C.Calls.told refl put c.ensures.renamed;
      steady = on_err_follows g.C.Calls.told (λ m. m) (path_buf_bytes s.names.out) (path_buf_bytes z.names.out)
          (g.C.Calls.run s.calls) (g.C.Calls.run z.calls)
          (ap path_buf_bytes c.ensures.same_name) c.result (λ t. on_err_with c.result _ _ (c.ensures.refused t)
          (steady_undone (path_buf_bytes s.names.out) (g.C.Calls.run s.calls) (g.C.Calls.run z.calls)));
      failures = c.ensures.failures;
    }

pub sync_names-tells : goal.sync_names-tells
sync_names-tells g c =
    let s = c.args.self.now in
    let z = c.new.self.now in
    let number = g.C.Calls.number in
    let both = names_shown g.C.Calls.told (path_buf_bytes s.names.out) (path_buf_bytes z.names.out)
    (string_bytes s.names.beside) (ap path_buf_bytes c.ensures.same_name) s.names.apart
    (option_map number s.writer.file) (option_map number z.writer.file) s.is_placed z.is_placed
    (writing s.writer.taken s.writer.is_broken s.writer.waiting.items (g.C.Calls.run s.calls).now)
    (writing z.writer.taken z.writer.is_broken z.writer.waiting.items (g.C.Calls.run z.calls).now)
    (g.C.Calls.run s.calls) (g.C.Calls.run z.calls) refl refl
    (ap (option_map number) c.ensures.same_file) c.ensures.placed c.ensures.same_taken
    (ap (λ v. v.items) c.ensures.same_waiting) c.result g.C.Calls.has_name s.folder c.ensures.found
    s.parent c.ensures.confirmed c.ensures.refused in
    record {
      synced = both.0;
      refused = both.1;
      sure = on_ok_follows g.C.Calls.told settled (path_buf_bytes s.names.out) (path_buf_bytes z.names.out)
          (g.C.Calls.run s.calls) (g.C.Calls.run z.calls)
          (ap path_buf_bytes c.ensures.same_name) c.result (λ t. sure_confirmed (path_buf_bytes s.names.out)
          (g.C.Calls.run s.calls) (g.C.Calls.run z.calls) c.result g.C.Calls.has_name s.folder
          c.ensures.found (s.parent t) (c.ensures.confirmed t));
      steady = on_err_follows g.C.Calls.told (λ m. m) (path_buf_bytes s.names.out) (path_buf_bytes z.names.out)
          (g.C.Calls.run s.calls) (g.C.Calls.run z.calls)
          (ap path_buf_bytes c.ensures.same_name) c.result (λ t. on_err_with c.result _ _ (c.ensures.refused t)
          (steady_undone (path_buf_bytes s.names.out) (g.C.Calls.run s.calls) (g.C.Calls.run z.calls)));
      failures = c.ensures.failures;
    }

pub remove-tells : goal.remove-tells
remove-tells g c =
    let s = c.args.self.now in
    let z = c.new.self.now in
    let number = g.C.Calls.number in
    let both = remove_shown g.C.Calls.told (path_buf_bytes s.names.out) (path_buf_bytes z.names.out)
    (string_bytes s.names.beside) (ap path_buf_bytes c.ensures.same_name) s.names.apart
    (option_map number s.writer.file) (option_map number z.writer.file) s.is_placed z.is_placed
    (writing s.writer.taken s.writer.is_broken s.writer.waiting.items (g.C.Calls.run s.calls).now)
    (writing z.writer.taken z.writer.is_broken z.writer.waiting.items (g.C.Calls.run z.calls).now)
    (g.C.Calls.run s.calls) (g.C.Calls.run z.calls) refl refl
    c.result c.ensures.unlinked (none_numbered c.result number z.writer.file c.ensures.closed)
    c.ensures.none_wait c.ensures.placed c.ensures.refused in
    record {
      removed = both.0;
      refused = both.1;
      steady = follows_if g.C.Calls.told (λ m. m) (path_buf_bytes s.names.out) (path_buf_bytes z.names.out)
          (g.C.Calls.run s.calls) (g.C.Calls.run z.calls)
          (ap path_buf_bytes c.ensures.same_name) (λ t. steady_removed c.result (path_buf_bytes s.names.out) (string_bytes s.names.beside)
          (λ e. s.names.apart (sym e)) (g.C.Calls.run s.calls) (g.C.Calls.run z.calls)
          (c.ensures.unlinked t) (c.ensures.refused t));
      failures = c.ensures.failures;
    }

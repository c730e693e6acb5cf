-- Any of the open transactions, in any order, behind the committed ones: the plain run leaves what the tree shows of them.
use Rattle.std.specs.Prelude.{◌≡◌, refl, List, map}
use Rattle.tree.specs.Lists.{has}
use Rattle.tree.specs.Document.{node_0_alone}
use Rattle.serializability.proofs.Laws.Parts.{Entry}
use Rattle.serializability.proofs.Laws.Runs.{Run, run_append}
use Rattle.serializability.proofs.Laws.PlainRun.{whole_logs, whole_logs_append, whole_logs_of, run_document, run_answers}
use Rattle.protocol.specs.State.{all_of, document_of, start_state}
use Rattle.protocol.specs.Calls.{Call, next}
use Rattle.protocol.specs.History.{history, state_after, Log, new_log, committed_then, log_after, fed, answered}
use Rattle.serializability.specs.Theorem.{since_start, reached, AnyOrder}
use Rattle.serializability.proofs.Laws.Logs.{read_off, committed_read}
use Rattle.serializability.proofs.Laws.Serial.{serial_same}
use Rattle.serializability.proofs.Laws.Good.{whole}
use Rattle.serializability.proofs.Laws.GoodLaws.{serial_all}
use Rattle.serializability.proofs.Laws.Tracks.{by_levels, whole_is, Tracks}
use Rattle.serializability.proofs.Laws.Tracking.{Tracked, calls_track, start_tracks}

module _ (cs : List Call) where
  tracked : Tracked (new_log node_0_alone) start_state cs
  tracked = calls_track (new_log node_0_alone) start_state start_tracks cs

  -- the log of entries of a list that begins with a start
  pub entries : Log Entry
  entries = tracked.log

  pub reached_tracks : Tracks entries (reached cs)
  unfolding entries state_after next
  reached_tracks = tracked.tracks

  -- both logs of the history are read off it
  pub fed_is : fed (since_start cs) ≡ read_off (λ x. x.step) entries
  unfolding entries log_after history next
  fed_is = tracked.read _ (λ x. x.step) (λ x. x.step) (λ x. refl)

  pub answered_is : answered (since_start cs) ≡ read_off (λ x. x.value) entries
  unfolding entries log_after history next
  answered_is = tracked.read _ (λ x. x.value) (λ x. x.value) (λ x. refl)

  pub any_order : AnyOrder cs
  any_order b n = record {
    document = rw (fed_is, committed_read (λ (x : Entry). x.step) entries b)
        (run_document entries.initial (committed_then entries b) _ run);
    answers = rw (
      fed_is,
      answered_is,
      committed_read (λ (x : Entry). x.step) entries b,
      committed_read (λ (x : Entry). x.value) entries b,
    ) (run_answers entries.initial (committed_then entries b) _ run);
  }
    where
      run : Run entries.initial (whole_logs (committed_then entries b)) (document_of (all_of (λ u. has u b)) (reached cs).tree)
      run =
          let tr = reached_tracks in
          rw (whole_logs_append entries.committed (map entries.open_log b), whole_logs_of entries.open_log b)
          (run_append entries.initial (whole_logs entries.committed) _ tr.c _ tr.run
          (serial_same tr.c b (whole (by_levels entries.open_log) (reached cs).header.depth) _ _
          (whole_is entries.open_log (reached cs).header.depth tr.depths) (serial_all tr.good b n)).run)

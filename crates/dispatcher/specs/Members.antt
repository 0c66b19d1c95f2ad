-- What a caller sees of workers and of the close, and whether they belong to one dispatcher.
use Rattle.std.specs.Prelude.{◌≡◌, ℕ, List}
use Rattle.std.specs.List.{All}
use Rattle.job_types.specs.Reply.{ReplyData}
use Rattle.job_queue.specs.declared.job_line.JobLine.{Ghosts as LineWords}
use Rattle.job_queue.specs.declared.record.PassRecord.{PassRecord}
use Rattle.floors.specs.declared.floor.Floor.{Ghosts as FloorWords}
use Rattle.dispatcher.specs.declared.stop.Stop.{Stop}
use Rattle.dispatcher.specs.declared.worker.Worker.{Worker}
use Rattle.dispatcher.specs.declared.worker.WorkerEnd.{WorkerEnd}
use Rattle.dispatcher.specs.declared.closing.Closer.{Closer as ShopCloser}
use Rattle.dispatcher.specs.declared.closing.CloseNote.{CloseNote}
use Rattle.dispatcher.specs.Shop.{ShopId, room_for}
use Rattle.dispatcher.specs.Reply.{IsRight}

module _ {L Lane Pass Closer Note End F Station Held Machine : Type 0}
    {line : LineWords L Lane Pass Closer Note End} {floor : FloorWords F Station Held Machine} where
  -- The record of the worker's pass, before it runs.
  abbrev pub worker_record : Worker L F Lane Pass Closer Note End Station Held Machine line floor
      → PassRecord
  worker_record worker = line.pass_record worker.pass

  -- The worker belongs to the dispatcher: its pass is one of the queue's, its station one of the
  -- allocator's.
  pub record IsWorkerOf (shop : ShopId)
      (worker : Worker L F Lane Pass Closer Note End Station Held Machine line floor) : Type 0 where
    pub pass : line.is_pass shop.line worker.pass
    pub station : floor.is_station shop.floor worker.station

  -- The record of the pass of a worker that has stopped.
  abbrev pub end_record : WorkerEnd L F Lane Pass Closer Note End Station Held Machine line floor
      → PassRecord
  end_record end = line.pass_record end.pass

  -- The replies of a worker that has stopped, in the order in which it took their jobs.
  -- `WorkerEnd::replies` returns them.
  abbrev pub replies_of : WorkerEnd L F Lane Pass Closer Note End Station Held Machine line floor
      → List ReplyData
  replies_of end = end.replies.items

  -- Why the worker has stopped. `WorkerEnd::stop` returns it.
  abbrev pub stop_of : WorkerEnd L F Lane Pass Closer Note End Station Held Machine line floor
      → Stop
  stop_of end = end.stop

  -- The worker that has stopped belongs to the dispatcher, and each of its replies is right for the
  -- dispatcher's machine. The type `WorkerEnd` says which jobs these answer and on which blocks
  -- they ran.
  pub record IsEndOf (shop : ShopId) (end : WorkerEnd L F Lane Pass Closer Note End Station Held
      Machine line floor) : Type 0 where
    pub pass : line.is_pass shop.line end.pass
    pub station : floor.is_station shop.floor end.station
    pub right : All (IsRight shop.floor.dim) end.replies.items

module _ {L Lane Pass Closer Note End F Station Held Machine : Type 0}
    (line : LineWords L Lane Pass Closer Note End) where
  -- The closer closes the dispatcher's queue, and has room for the result of its end.
  pub record IsCloserOf (shop : ShopId)
      (closer : ShopCloser L F Lane Pass Closer Note End Station Held Machine) : Type 0 where
    pub closes : line.is_closer shop.line closer.line
    pub space : closer.room ≡ room_for shop

  -- The close number: how many entries came before the close. `CloseNote::number` returns it.
  abbrev pub close_number_of : CloseNote L F Lane Pass Closer Note End Station Held Machine → ℕ
  close_number_of note = line.note_number note.line

  -- The note shows that the dispatcher's queue is closed, and has room for the result of its end.
  pub record IsNoteOf (shop : ShopId)
      (note : CloseNote L F Lane Pass Closer Note End Station Held Machine) : Type 0 where
    pub shows : line.is_note shop.line note.line
    pub space : note.room ≡ room_for shop

-- What a worker is given, and what it answers, may go to another thread.
use mathlib.Core.List.{[], ◌∷◌}
use mir.Syntax.{Sym}
use denote.RattleType.{RattleType}
use denote.Param.Send.{IsSend, IsSync, sendable}
use denote.Param.SendFields.{as_row_send, declared_send, variants_send}
use denote.Struct.Field.{row_field}
use denote.Struct.Tuple.{TupleAt, type_at}
use Rattle.std.proofs.Crossing as std
use Rattle.std.proofs.Crossing.{crosses}
use Rattle.std.specs.contracts.alloc.Global as Heap
use Rattle.std.specs.contracts.impls.GlobalAllocator.TheImpl.{ghosts}
use Rattle.bytes.proofs.block.Block.TheSendSync as block
use Rattle.bytes.proofs.block.Seen.TheSendSync as seen
use Rattle.bytes.specs.contracts.block.Block as Block
use Rattle.bytes.specs.contracts.shared.Bytes as Bytes
use Rattle.rmx_edge.specs.declared.shelf.Shelf.{Ghosts}
use Rattle.lane.proofs.Crosses.{taker_send, lane_send, lane_sync}
use Rattle.aac_adts.specs.contracts.mux.AdtsMux as AdtsMux
use Rattle.flv_mux.specs.contracts.mux.FlvMux as FlvMux
use Rattle.ts_mux.specs.contracts.mux.TsMux as TsMux
use Rattle.playlist.specs.contracts.template.Template as Template
use Rattle.playlist.specs.contracts.seg_options.SegOptions as SegOptions
use Rattle.segmenter.specs.contracts.file_mux.FileMux as FileMux
use Rattle.segmenter.specs.contracts.timeline.Timeline as Timeline
use Rattle.segmenter.specs.contracts.mux.SegMux as SegMux
use denote.Builtin.{u32, i64}
use Rattle.std.specs.contracts.option.Option as Option
use Rattle.segmenter.specs.contracts.cutter.Cutter as Cutter
use Rattle.fifo_core.specs.contracts.state.FifoState as FifoState
use Rattle.rmx_edge.specs.contracts.counted.Counted as Counted
use Rattle.slave.specs.contracts.watched.Watched as Watched
use Rattle.slave.specs.contracts.places.Places as Places
use Rattle.slave.specs.contracts.records.Run as Run
use Rattle.slave.specs.contracts.records.SessionNote as SessionNote
use Rattle.slave.specs.contracts.records.FaultNote as FaultNote
use Rattle.slave.specs.contracts.mux.Mux as Mux
use Rattle.slave.specs.contracts.job.SlaveJob as SlaveJob
use Rattle.slave.specs.contracts.task.Begun as Begun
use Rattle.slave.specs.contracts.errand.Errand as Errand
use Rattle.slave.specs.contracts.errand.Start as Start
use Rattle.slave.specs.contracts.run.WorkEnd as WorkEnd

block_send : IsSend (Block.the_row Heap.the_row ghosts)
block_send = block.the_send Heap.the_row ghosts std.send std.frees

block_sync : IsSync (Block.the_row Heap.the_row ghosts)
block_sync = block.the_sync Heap.the_row ghosts

bytes_send : IsSend (Bytes.the_row Heap.the_row ghosts)
bytes_send = search (sendable, crosses, seen.the_send, block_send, block_sync) depth 20

pub work_end_send : (S : RattleType) → IsSend S → IsSend (WorkEnd.the_row S)
work_end_send S s = search (taker_send, sendable, crosses) depth 60 fits 200000

adts_send : IsSend AdtsMux.the_row
adts_send = search (bytes_send, sendable, crosses) depth 40 fits 100000

flv_send : IsSend FlvMux.the_row
flv_send = search (bytes_send, sendable, crosses) depth 40 fits 100000

ts_send : IsSend TsMux.the_row
ts_send = search (bytes_send, sendable, crosses) depth 40 fits 100000

template_send : IsSend Template.the_row
template_send = search (sendable, crosses) depth 40 fits 100000

options_send : IsSend SegOptions.the_row
options_send = search (bytes_send, sendable, crosses) depth 40 fits 100000

timeline_send : IsSend Timeline.the_row
timeline_send = search (sendable, crosses) depth 40 fits 100000

file_send : IsSend FileMux.the_row
file_send = variants_send FileMux.enum ((adts_send, tt), ((flv_send, tt), ((ts_send, tt), tt)))

number_send : IsSend (Option.the_row u32)
number_send = search (sendable, crosses) depth 20

time_send : IsSend (Option.the_row i64)
time_send = search (sendable, crosses) depth 20

cutter_send : IsSend Cutter.the_row
cutter_send = search (sendable, crosses) depth 40

names_send : IsSend (Option.the_row Template.the_row)
names_send = search (template_send, sendable, crosses) depth 40 fits 100000

segments_send : IsSend SegMux.the_row
segments_send = declared_send SegMux.the_type
    (search (sendable, crosses), (options_send, (number_send, (search (sendable, crosses), (file_send, (cutter_send, (names_send, (search (sendable, crosses), (search (sendable, crosses), (time_send, (timeline_send, tt)))))))))))

mux_send : IsSend Mux.the_row
mux_send = variants_send Mux.enum ((adts_send, tt), ((flv_send, tt), ((ts_send, tt), ((template_send, (segments_send, tt)), tt))))

shelf_send : (S : RattleType) (gs : Ghosts S.Denot) → IsSend S → IsSend (Watched.the_row (Counted.the_row S gs))
shelf_send S gs s = search (sendable, crosses) depth 40

fifo_send : IsSend FifoState.the_row
fifo_send = search (sendable, crosses) depth 40 fits 100000

runs_send : IsSend (Places.the_row Run.the_row)
runs_send = search (sendable, crosses) depth 40 fits 100000

sessions_send : IsSend (Places.the_row SessionNote.the_row)
sessions_send = search (sendable, crosses) depth 40 fits 100000

faults_send : IsSend (Places.the_row FaultNote.the_row)
faults_send = search (sendable, crosses) depth 40 fits 100000

job_send : (S : RattleType) (gs : Ghosts S.Denot) → IsSend S → IsSend (SlaveJob.the_row S gs)
job_send S gs s = declared_send (SlaveJob.the_type S gs) (shelf_send S gs s, (search (sendable, crosses), (number_send, (mux_send, (fifo_send, (runs_send, (sessions_send, (faults_send, tt))))))))

pub errand_send : (S G : RattleType) (gs : Ghosts S.Denot) → IsSend S → IsSend G → IsSync G → IsSend (Errand.the_row S G gs)
errand_send S G gs s g h = declared_send (Errand.the_type S G gs)
    (job_send S gs s, (search (lane_send, lane_sync, sendable, crosses), (taker_send, (search (sendable, crosses), (search (sendable, crosses), tt)))))

pub begun_send : (S G : RattleType) (gs : Ghosts S.Denot) → IsSend S → IsSend G → IsSync G → IsSend (Begun.the_row S G gs)
begun_send S G gs s g h = variants_send (Begun.enum S G gs) ((work_end_send S s, tt), ((errand_send S G gs s g h, tt), tt))

pub start_send : (S G R : RattleType) (gs : Ghosts S.Denot) → IsSend S → IsSend G → IsSync G → IsSend R → IsSend (Start.the_row S G R gs)
start_send S G R gs s g h r = declared_send (Start.the_type S G R gs) (errand_send S G gs s g h, (search (sendable, crosses), (search (sendable, crosses), tt)))

-- a closure that captures one value
pub capture_send : (name : Sym) (R : RattleType) → IsSend R → IsSend (TupleAt name (R ∷ []))
capture_send name R s = declared_send (type_at name (R ∷ [])) (as_row_send (row_field R) s, tt)

-- The muxer's calls, by what they are made of.
use Rattle.std.proofs.Common.{◌≡◌, ℕ, suc, ◌+◌, ◌-◌, ◌/◌, ◌%◌, ◌≤◌, Bool, true, false, if◌then◌else◌, List, [], ◌++◌, length, drop, refl, sym, ap, ◌∙◌, arith, length-append, zero}
use Rattle.std.proofs.lemmas.List.{length-drop}
use Rattle.rmx_media.specs.declared.aac.AacConfig.{AacConfig}
use Rattle.rmx_media.specs.declared.avc.AvcConfig.{AvcConfig}
use Rattle.rmx_media.specs.declared.config.Config.{Config}
use Rattle.rmx_media.specs.declared.config.Config.TheVariants.{Avc, Aac}
use Rattle.rmx_media.specs.declared.packet.Form.{Form}
use Rattle.rmx_media.specs.declared.packet.Form.TheVariants.{Native, AnnexB, Adts}
use Rattle.rmx_media.specs.declared.packet.Packet.{Packet}
use Rattle.rmx_media.specs.declared.streams.MuxStream.{MuxStream}
use Rattle.rmx_media.specs.Adts.{adts_head}
use Rattle.rmx_media.specs.Fits.{IsPayload}
use Rattle.rmx_edge.specs.Shelf.{ShelfCall}
use Rattle.ts_mux.specs.declared.track.Track.{Track}
use Rattle.ts_mux.specs.Cells.{cells_of, more_cells, cells_by, cell_count}
use Rattle.ts_mux.specs.File.{is_first, packet_cells, flags_of}
use Rattle.ts_mux.specs.Past.{Past, with_cells}
use Rattle.ts_mux.specs.Pes.{pes_of, pes_by, video_head, delimited, started_form, video_pes}

pub calls_shown : (shown : Bool) (calls : List ShelfCall) → shown ≡ true → (if shown then calls else []) ≡ calls
calls_shown shown calls h = cc

length-cells_by : (n pid counter : ℕ) (bytes : List ℕ) → length (cells_by n pid counter bytes) ≡ n
length-cells_by zero pid counter bytes = refl
length-cells_by (suc n) pid counter bytes = ap suc (length-cells_by n pid ((counter + 1) % 16) (drop 184 bytes))

length-cells_of : (pid counter : ℕ) (flags : List ℕ) (room : ℕ) (bytes : List ℕ) → length (cells_of pid counter flags room bytes) ≡ cell_count room (length bytes)
unfolding cells_of more_cells
length-cells_of pid counter flags room bytes =
    let rest : length (drop room bytes) ≡ length bytes - room = length-drop room bytes in
    let more : length (cells_by ((length (drop room bytes) + 183) / 184) pid ((counter + 1) % 16) (drop room bytes)) ≡ (length (drop room bytes) + 183) / 184 =
    length-cells_by ((length (drop room bytes) + 183) / 184) pid ((counter + 1) % 16) (drop room bytes) in
    ap suc (more ∙ ap (λ k. (k + 183) / 184) rest) ∙ (let e : suc ((length bytes - room + 183) / 184) ≡ 1 + (length bytes - room + 183) / 184 = omega arith in e)

abbrev track : ℕ → ℕ → Track
track cells version = record { cells = cells; version = version }

abbrev past_with : Past → Track → Track → Past
past_with past first second = record { last = past.last; tables = past.tables; first = first; second = second }

-- what is kept after a packet's cells, by the PID that they have
by_first : (first : Bool) (past : Past) (n version : ℕ) → Past
by_first true past n version = past_with past (track ((past.first.cells + n) % 16) version) past.second
by_first false past n version = past_with past past.first (track ((past.second.cells + n) % 16) version)

by_first_is : (first : Bool) (past : Past) (n version : ℕ)
    → by_first first past n version ≡ past_with past (if first then track ((past.first.cells + n) % 16) version else past.first) (if first then past.second else track ((past.second.cells + n) % 16) version)
unfolding by_first
by_first_is true past n version = refl
by_first_is false past n version = refl

count_is : (streams : List MuxStream) (p : Packet) (pes : List ℕ) → pes_of p ≡ pes
    → length (packet_cells streams 0 p) ≡ cell_count (if is_first streams p.stream then 176 else 184) (length pes)
count_is streams p pes e =
    length-cells_of (if is_first streams p.stream then 0x100 else 0x101) 0 (flags_of streams p) (if is_first streams p.stream then 176 else 184) (pes_of p)
    ∙ ap (λ (l : List ℕ). cell_count (if is_first streams p.stream then 176 else 184) (length l)) e

-- after the cells of the PID that carries the clock
pub first_passed : (streams : List MuxStream) (p : Packet) (past : Past) (pes : List ℕ) (size counter : ℕ) → is_first streams p.stream ≡ true → pes_of p ≡ pes → length pes ≡ size
    → counter ≡ (past.first.cells + cell_count 176 size) % 16 → past_with past (track counter p.version) past.second ≡ with_cells streams p past
unfolding by_first
first_passed streams p past pes size counter first e l h =
    let n : length (packet_cells streams 0 p) ≡ cell_count 176 size =
    count_is streams p pes e ∙ ap (λ (b : Bool). cell_count (if b then 176 else 184) (length pes)) first ∙ ap (cell_count 176) l in
    ap (λ k. past_with past (track k p.version) past.second) (h ∙ ap (λ k. (past.first.cells + k) % 16) (sym n))
    ∙ ap (λ (b : Bool). by_first b past (length (packet_cells streams 0 p)) p.version) (sym first)
    ∙ by_first_is (is_first streams p.stream) past (length (packet_cells streams 0 p)) p.version

-- after the cells of the other PID
pub second_passed : (streams : List MuxStream) (p : Packet) (past : Past) (pes : List ℕ) (size counter : ℕ) → is_first streams p.stream ≡ false → pes_of p ≡ pes → length pes ≡ size
    → counter ≡ (past.second.cells + cell_count 184 size) % 16 → past_with past past.first (track counter p.version) ≡ with_cells streams p past
unfolding by_first
second_passed streams p past pes size counter first e l h =
    let n : length (packet_cells streams 0 p) ≡ cell_count 184 size =
    count_is streams p pes e ∙ ap (λ (b : Bool). cell_count (if b then 176 else 184) (length pes)) first ∙ ap (cell_count 184) l in
    ap (λ k. past_with past past.first (track k p.version)) (h ∙ ap (λ k. (past.second.cells + k) % 16) (sym n))
    ∙ ap (λ (b : Bool). by_first b past (length (packet_cells streams 0 p)) p.version) (sym first)
    ∙ by_first_is (is_first streams p.stream) past (length (packet_cells streams 0 p)) p.version

pub video_pes_is : (config : AvcConfig) (p : Packet) (units : List ℕ) → p.config ≡ Avc config → started_form config p.form p.payload ≡ units
    → pes_of p ≡ video_head p.pts p.dts ++ delimited units
unfolding video_pes
video_pes_is config p units e u = ap (λ (c : Config). pes_by c p) e ∙ ap (λ l. video_head p.pts p.dts ++ delimited l) u

head_seven : (config : AacConfig) (size : ℕ) → length (adts_head config size) ≡ 7
unfolding adts_head
head_seven config size = refl

-- an audio payload is no longer than the longest frame
pub audio_size : (config : AacConfig) (form : Form) (payload : List ℕ) → IsPayload (Aac config) form payload → length payload ≤ 8191
audio_size config Native payload h = omega (arith, h)
audio_size config AnnexB payload h = absurd h
audio_size config Adts payload h =
    let size : length h.payload ≤ 8184 = h.size in
    let whole : length payload ≡ length (adts_head config (length h.payload)) + length h.payload =
    ap length h.spelled ∙ length-append (adts_head config (length h.payload)) h.payload in
    omega (arith, head_seven config (length h.payload))

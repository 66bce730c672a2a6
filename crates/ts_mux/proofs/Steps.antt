-- One packet more: what the history says, by what was kept of it.
use Rattle.std.proofs.Common.{◌≡◌, ℕ, ℤ, ◌+◌, ◌%◌, ◌==◌, not, Bool, true, false, if◌then◌else◌, List, [], ◌∷◌, ◌++◌, length, refl, ap, ◌∙◌, arith, Option}
use Rattle.std.specs.Prelude.{map, reverse}
use Rattle.std.proofs.lemmas.List.{reverse-append}
use Rattle.rmx_media.specs.declared.packet.Packet.{Packet}
use Rattle.rmx_media.specs.declared.streams.MuxStream.{MuxStream}
use Rattle.rmx_media.specs.declared.streams.MuxStreams.{MuxStreams}
use Rattle.rmx_edge.specs.Shelf.{Write}
use Rattle.ts_mux.specs.declared.track.Track.{Track}
use Rattle.ts_mux.specs.File.{is_first, pid_of, packet_cells, cells_before, version_before, is_changed, tables_at, tables_before, has_tables, tables_due, last_after, table_calls, put_calls}
use Rattle.ts_mux.specs.Past.{Past, past_after, track_after, track_of, is_new, step, calls_at}

chosen : (first : Bool) (streams : List MuxStream) (earlier : List Packet)
    → track_after streams (if first then 0x100 else 0x101) earlier ≡ (if first then track_after streams 0x100 earlier else track_after streams 0x101 earlier)
chosen true streams earlier = refl
chosen false streams earlier = refl

track_is : (streams : List MuxStream) (earlier : List Packet) (number : ℕ)
    → track_after streams (pid_of streams number) earlier ≡ track_of streams number (past_after streams earlier)
track_is streams earlier number = chosen (is_first streams number) streams earlier

new_is : (streams : List MuxStream) (earlier : List Packet) (p : Packet) → is_changed streams earlier p ≡ is_new streams (past_after streams earlier) p
new_is streams earlier p = ap (λ (t : Track). not (p.version == t.version)) (track_is streams earlier p.stream)

abbrev track : ℕ → ℕ → Track
track cells version = record { cells = cells; version = version }

abbrev pid : Bool → ℕ
pid first = if first then 0x100 else 0x101

first_step : (first : Bool) (n t v w : ℕ) → track (((if pid first == 0x100 then n else 0) + t) % 16) (if pid first == 0x100 then v else w) ≡ (if first then track ((t % 16 + n) % 16) v else track (t % 16) w)
first_step true n t v w = let e : (n + t) % 16 ≡ (t % 16 + n) % 16 = omega arith in ap (λ k. track k v) e
first_step false n t v w = let e : (0 + t) % 16 ≡ t % 16 = omega arith in ap (λ k. track k w) e

second_step : (first : Bool) (n t v w : ℕ) → track (((if pid first == 0x101 then n else 0) + t) % 16) (if pid first == 0x101 then v else w) ≡ (if first then track (t % 16) w else track ((t % 16 + n) % 16) v)
second_step true n t v w = let e : (0 + t) % 16 ≡ t % 16 = omega arith in ap (λ k. track k w) e
second_step false n t v w = let e : (n + t) % 16 ≡ (t % 16 + n) % 16 = omega arith in ap (λ k. track k v) e

tables_step : (shown : Bool) (t : ℕ) → ((if shown then 1 else 0) + t) % 16 ≡ (if shown then (t % 16 + 1) % 16 else t % 16)
tables_step true t = omega arith
tables_step false t = omega arith

pub same_past : (a b : Option ℤ) (m n : ℕ) (s t u v : Track) → a ≡ b → m ≡ n → s ≡ t → u ≡ v
    → let x : Past = record { last = a; tables = m; first = s; second = u } in x ≡ record { last = b; tables = n; first = t; second = v }
same_past a b m n s t u v e f g h = cc

after_step : (streams : List MuxStream) (earlier : List Packet) (p : Packet) → past_after streams (p ∷ earlier) ≡ step streams (past_after streams earlier) p
after_step streams earlier p =
    let first : Bool = is_first streams p.stream in
    let n : ℕ = length (packet_cells streams 0 p) in
    let past : Past = past_after streams earlier in
    let now : Past = step streams past p in
    let new : is_changed streams earlier p ≡ is_new streams past p = new_is streams earlier p in
    same_past (tables_at streams (p ∷ earlier)) now.last (tables_before streams (p ∷ earlier) % 16) now.tables (track_after streams 0x100 (p ∷ earlier)) now.first
    (track_after streams 0x101 (p ∷ earlier)) now.second
    (ap (λ (b : Bool). last_after (tables_at streams earlier) b p) new)
    (tables_step (has_tables streams earlier p) (tables_before streams earlier) ∙ ap (λ (b : Bool). if tables_due (tables_at streams earlier) b p then (tables_before streams earlier % 16 + 1) % 16 else tables_before streams earlier % 16) new)
    (first_step first n (cells_before streams 0x100 earlier) p.version (version_before streams 0x100 earlier))
    (second_step first n (cells_before streams 0x101 earlier) p.version (version_before streams 0x101 earlier))

-- what is kept after one more packet
pub step_is : (streams : List MuxStream) (before : List Packet) (p : Packet)
    → past_after streams (reverse (before ++ p ∷ [])) ≡ step streams (past_after streams (reverse before)) p
step_is streams before p = ap (past_after streams) (reverse-append before (p ∷ [])) ∙ after_step streams (reverse before) p

-- the calls of one more packet
pub calls_are : (all : MuxStreams) (before : List Packet) (p : Packet)
    → put_calls all before p ≡ calls_at all.streams.items (past_after all.streams.items (reverse before)) p
unfolding put_calls
calls_are all before p =
    let streams : List MuxStream = all.streams.items in
    let earlier : List Packet = reverse before in
    ap (λ (b : Bool). (if tables_due (tables_at streams earlier) b p then table_calls streams (tables_before streams earlier % 16) else [])
    ++ map Write (packet_cells streams (cells_before streams (pid_of streams p.stream) earlier % 16) p)) (new_is streams earlier p)
    ∙ ap (λ (t : Track). (if tables_due (tables_at streams earlier) (is_new streams (past_after streams earlier) p) p then table_calls streams (tables_before streams earlier % 16) else [])
    ++ map Write (packet_cells streams t.cells p)) (track_is streams earlier p.stream)

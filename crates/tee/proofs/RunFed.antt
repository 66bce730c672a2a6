-- A run's outputs after one packet more.
use Rattle.std.proofs.Common.{◌≡◌, ◌≤◌, ◌+◌, ℕ, List, [], ◌∷◌, ◌++◌, length, length-append, map, Bool, true, false, refl, sym, ◌∙◌, ap, subst, arith}
use Rattle.std.specs.Prelude.{is_some}
use Rattle.rmx_edge.specs.Shelf.{ShelfState}
use Rattle.rmx_edge.specs.declared.shelf.Shelf.{Ghosts}
use Rattle.rmx_media.specs.declared.packet.Packet.{Packet}
use Rattle.rmx_media.specs.declared.streams.StreamInfo.{StreamInfo}
use Rattle.tee.specs.Attends.{Attends, AttendsOn, WatchesOn}
use Rattle.tee.specs.Each.{Each3}
use Rattle.tee.specs.Fails.{stops}
use Rattle.tee.specs.Keeps.{IsWithin, stopped_with}
use Rattle.tee.specs.RunKeeps.{KeepsRun, dead_in, is_threaded}
use Rattle.tee.specs.Seat.{Seat, aborts}
use Rattle.tee.specs.Tracks.{Track, Here, There, TrackGoesOn, known_deads, theres}
use Rattle.tee.specs.declared.outlet.Outlet.{Outlet}
use Rattle.tee.specs.declared.outlet.Outlet.TheVariants as outlet
use Rattle.tee.specs.declared.run.TeeRun.{TeeRun}
use Rattle.tee.proofs.Attending.{stand_all, track_twice}
use Rattle.tee.proofs.Knowing.{watch_more}
use Rattle.tee.proofs.Places.{Renewed, each_renewed, each_then}
use Rattle.tee.proofs.Watching.{known_before, known_now}

module _ {S G : Type 0} {ghosts : Ghosts S} (state : S → ShelfState) (infos : List StreamInfo) (seats : List Seat) where
  -- all were given a packet, and then asked
  pub record Both (given : List Packet) (asked : ℕ) (tracks : List Track) (mid last : List (Outlet S G ghosts)) : Type 0 where
    pub tracks_then : List Track
    pub given_all : Each3 (Attends state infos given asked false) seats tracks_then mid
    pub asked_all : Renewed (Attends state infos given (asked + 1) false) (TrackGoesOn (asked + 1)) seats tracks_then last
    pub on : Each3 (TrackGoesOn (asked + 1)) seats tracks asked_all.list

  pub both : (given : List Packet) (asked : ℕ) (tracks : List Track) (mid last : List (Outlet S G ghosts)) → Each3 (AttendsOn state infos given asked (asked + 1)) seats tracks mid
      → ((ts : List Track) → Each3 (Attends state infos given asked false) seats ts mid → Each3 (AttendsOn state infos given (asked + 1) (asked + 1)) seats ts last)
      → Both given asked tracks mid last
  both given asked tracks mid last a f =
      let first = each_renewed (Attends state infos given asked false) (TrackGoesOn (asked + 1)) seats tracks mid a in
      let second = each_renewed (Attends state infos given (asked + 1) false) (TrackGoesOn (asked + 1)) seats first.list last (f first.list first.each) in
      record {
        tracks_then = first.list;
        given_all = first.each;
        asked_all = second;
        on = each_then (TrackGoesOn (asked + 1)) (TrackGoesOn (asked + 1)) (TrackGoesOn (asked + 1)) (track_twice (asked + 1)) seats tracks first.list second.list first.from second.from;
      }

-- what a run is after one packet more
pub fed_more : {S G : Type 0} {ghosts : Ghosts S} (state : S → ShelfState) (old new : TeeRun S G ghosts) (mid : List (Outlet S G ghosts)) (seats : List Seat) (given : List Packet) (p : Packet) (stop : Bool)
    → (k : KeepsRun state old seats given)
    → new.infos ≡ old.infos
    → Both state old.infos.items seats (given ++ p ∷ []) (length given) k.stands.tracks mid new.outlets.items
    → length new.outlets.items ≡ length old.outlets.items
    → new.given ≡ old.given + 1
    → ((ts : List Track) → Each3 (Attends state old.infos.items (given ++ p ∷ []) (length given + 1) false) seats ts new.outlets.items
    → new.stopped ≡ stopped_with old.stopped (stops (aborts seats) (known_deads seats ts)) (old.given + 1))
    → new.ends ≡ old.ends → stop ≡ is_some new.stopped
    → KeepsRun state new seats (given ++ p ∷ []) × ((u : ℕ) → u ≤ length given → dead_in new u ≡ dead_in old u) × (dead_in new (length given + 1) ≡ stop)
fed_more {S} {G} {ghosts} state old new mid seats given p stop k infos b len count stopped ends told =
    let ts = b.asked_all.list in
    let whole : length (given ++ p ∷ []) ≡ length given + 1 = omega (arith, length-append given (p ∷ [])) in
    let is = stopped ts b.asked_all.each in
    let more = watch_more seats given p k.stands.tracks ts old.given old.stopped k.stands.watches b.on
    (stand_all state old.infos.items (given ++ p ∷ []) (length given + 1) seats ts new.outlets.items (sym whole) b.asked_all.each) in
    let watches : WatchesOn seats (given ++ p ∷ []) ts new.given new.stopped = rw (count, is) more in
    let counted = k.stands.watches.count_is in
    let attend : Each3 (Attends state old.infos.items (given ++ p ∷ []) (length (given ++ p ∷ [])) false) seats ts new.outlets.items
    = subst (λ (n : ℕ). Each3 (Attends state old.infos.items (given ++ p ∷ []) n false) seats ts new.outlets.items) (sym whole) b.asked_all.each in (
      record {
        stands = record {
          are_infos = rw infos k.stands.are_infos;
          tracks = ts;
          attend = rw infos attend;
          watches = watches;
        };
        few = rw len k.few;
        none_ended = rw ends k.none_ended;
        room = rw (len, ends) k.room;
      },
      λ u le. rw is (known_before old.stopped (stops (aborts seats) (known_deads seats ts)) (old.given + 1) u (omega arith)),
      (let within : IsWithin new.stopped (length given + 1) = rw whole at watches.within in known_now new.stopped (length given + 1) within ∙ sym told),
    )

-- a run whose outputs stand as they did
pub kept_still : {S G : Type 0} {ghosts : Ghosts S} (state : S → ShelfState) (old new : TeeRun S G ghosts) (seats : List Seat) (given : List Packet) → (k : KeepsRun state old seats given)
    → new.infos ≡ old.infos → new.given ≡ old.given → new.stopped ≡ old.stopped → new.ends ≡ old.ends → length new.outlets.items ≡ length old.outlets.items
    → Each3 (Attends state old.infos.items given (length given) false) seats k.stands.tracks new.outlets.items → KeepsRun state new seats given
kept_still state old new seats given k infos count stopped ends len a = record {
  stands = record {
    are_infos = rw infos k.stands.are_infos;
    tracks = k.stands.tracks;
    attend = rw infos a;
    watches = rw (count, stopped) k.stands.watches;
  };
  few = rw len k.few;
  none_ended = rw ends k.none_ended;
  room = rw (len, ends) k.room;
}

-- a thread writes an output exactly where its track says so
pub threads_at : {S G : Type 0} {ghosts : Ghosts S} (state : S → ShelfState) (infos : List StreamInfo) (given : List Packet) (asked : ℕ) (ss : List Seat) (ts : List Track) (os : List (Outlet S G ghosts))
    → Each3 (Attends state infos given asked false) ss ts os → map is_threaded os ≡ theres ts
threads_at state infos given asked [] [] [] a = refl
threads_at state infos given asked [] [] (o ∷ os) a = absurd a
threads_at state infos given asked [] (t ∷ ts) os a = absurd a
threads_at state infos given asked (s ∷ ss) [] os a = absurd a
threads_at state infos given asked (s ∷ ss) (t ∷ ts) [] a = absurd a
threads_at state infos given asked (s ∷ ss) (Here h ∷ ts) (outlet.Here slave inline left ∷ os) a = ap (λ (bs : List Bool). false ∷ bs) (threads_at state infos given asked ss ts os a.1)
threads_at state infos given asked (s ∷ ss) (Here h ∷ ts) (outlet.There sender running ∷ os) a = absurd a.0
threads_at state infos given asked (s ∷ ss) (There told ∷ ts) (outlet.Here slave inline left ∷ os) a = absurd a.0
threads_at state infos given asked (s ∷ ss) (There told ∷ ts) (outlet.There sender running ∷ os) a = ap (λ (bs : List Bool). true ∷ bs) (threads_at state infos given asked ss ts os a.1)

pub threads_stay : (n : ℕ) (ss : List Seat) (ts rs : List Track) → Each3 (TrackGoesOn n) ss ts rs → theres rs ≡ theres ts
threads_stay n [] [] [] on = refl
threads_stay n [] [] (r ∷ rs) on = absurd on
threads_stay n [] (t ∷ ts) rs on = absurd on
threads_stay n (s ∷ ss) [] rs on = absurd on
threads_stay n (s ∷ ss) (t ∷ ts) [] on = absurd on
threads_stay n (s ∷ ss) (Here h ∷ ts) (Here k ∷ rs) on = ap (λ (bs : List Bool). false ∷ bs) (threads_stay n ss ts rs on.1)
threads_stay n (s ∷ ss) (Here h ∷ ts) (There told ∷ rs) on = absurd on.0
threads_stay n (s ∷ ss) (There told ∷ ts) (Here k ∷ rs) on = absurd on.0
threads_stay n (s ∷ ss) (There told ∷ ts) (There now ∷ rs) on = ap (λ (bs : List Bool). true ∷ bs) (threads_stay n ss ts rs on.1)

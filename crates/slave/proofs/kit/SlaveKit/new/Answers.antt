use Rattle.std.proofs.Common.{refl, sym, ◌∙◌}
use Rattle.slave.proofs.kit.SlaveKit.new.Goals as goal

pub returns : goal.returns
returns c = record {
  prepared = record {
    name_is = refl;
    short = c.requires.short;
    video = c.video_of-video.ensures;
    mux = λ out name format seg streams. c.new-mux.ensures.of out (name ∙ sym c.as_str.ensures.value) format seg streams;
    number = c.new-mux.ensures.number;
    shows = c.new.ensures.shows;
    next = c.new.ensures.next;
    runs = c.in_ok-reserve.ensures.items ∙ c.new-runs.ensures.items;
    sessions = c.in_ok-reserve-2.ensures.items ∙ c.new-sessions.ensures.items;
    faults = c.in_ok-reserve-3.ensures.items ∙ c.new-faults.ensures.items;
    run_places = c.in_ok-reserve.ensures.ok;
    session_places = c.in_ok-reserve-2.ensures.ok;
    fault_places = c.in_ok-reserve-3.ensures.ok;
  };
}

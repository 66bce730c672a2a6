use Rattle.std.proofs.Common.{◌≡◌, ℕ, ◌+◌, ◌-◌, ◌<◌, ◌≤◌, List, length, take, drop, length-drop, arith, sym, ap, ◌∙◌}
use Rattle.std.proofs.lemmas.List.{drop-drop}
use Rattle.rmx_media.specs.Bits.{number_of}
use Rattle.rmx_media.specs.Avc.{run_of, rest_alone}
use Rattle.rmx_media.proofs.AvcLemmas.{rest_more, rest_cut, rest_none}
use Rattle.rmx_media.proofs.avc.after_sets.Goals as goal

pub returns-then-rest-lt2 : goal.returns-then-rest-lt2
returns-then-rest-lt2 c = sym (c.loop.invariant ∙ rest_cut (c.args.count - c.loop.counter) (c.args.count - (c.loop.counter + 1)) c.loop.rest.now (omega arith) (omega arith))

pub returns-then-body-size : goal.returns-then-body-size
returns-then-body-size c =
    let size : c.size_of_front-size.result ≡ number_of (take 2 c.loop.rest.now) = c.size_of_front-size.ensures in
    let body : length c.split_at.result.1.now ≡ length c.loop.rest.now - 2 = ap length c.split_at.ensures.back ∙ length-drop 2 c.loop.rest.now in
    let cut : length c.loop.rest.now < 2 + number_of (take 2 c.loop.rest.now) = omega arith in
    sym (c.loop.invariant ∙ rest_cut (c.args.count - c.loop.counter) (c.args.count - (c.loop.counter + 1)) c.loop.rest.now (omega arith) cut)

pub loop-preserved : goal.loop-preserved
loop-preserved c =
    let size : c.size_of_front-size.result ≡ number_of (take 2 c.loop.rest.now) = c.size_of_front-size.ensures in
    let body : length c.split_at.result.1.now ≡ length c.loop.rest.now - 2 = ap length c.split_at.ensures.back ∙ length-drop 2 c.loop.rest.now in
    let long : 2 + number_of (take 2 c.loop.rest.now) ≤ length c.loop.rest.now = omega arith in
    let rest : c.split_at-in-loop.result.1.now ≡ drop (2 + number_of (take 2 c.loop.rest.now)) c.loop.rest.now =
    c.split_at-in-loop.ensures.back
    ∙ ap (λ (n : ℕ). drop n c.split_at.result.1.now) size
    ∙ ap (drop (number_of (take 2 c.loop.rest.now))) c.split_at.ensures.back
    ∙ drop-drop (number_of (take 2 c.loop.rest.now)) 2 c.loop.rest.now in
    c.loop.invariant
    ∙ rest_more (c.args.count - c.loop.counter) (c.args.count - (c.loop.counter + 1)) c.loop.rest.now (omega arith) long
    ∙ ap (λ (r : List ℕ). rest_alone (run_of (c.args.count - (c.loop.counter + 1)) r)) (sym rest)

pub returns : goal.returns
returns c = sym (c.loop.invariant ∙ rest_none (c.args.count - c.loop.counter) c.loop.rest.now (omega arith))

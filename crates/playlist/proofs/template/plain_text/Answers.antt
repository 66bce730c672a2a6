use Rattle.std.proofs.Common.{rules, lit<, List, ℕ, ◌≡◌, Option, Some, None, ap}
use Rattle.std.proofs.lemmas.Str.Pattern.{split_parts, strip_prefix_char}
use Rattle.playlist.proofs.Plain.{paired, stopped, ended, shorter}
use Rattle.playlist.proofs.template.plain_text.Goals as goal

pub returns-in_default-strip_prefix-clause-plain :
    goal.returns-in_default-strip_prefix-clause-plain
returns-in_default-strip_prefix-clause-plain c =
    let parts = split_parts 37 c.loop-front.rest.now (Some (c.in-Some.front, c.in-Some.behind)) c.in-Some.ensures.cases (lit< tt) in
    ap (λ (x : List ℕ × Option (List ℕ)). x.0) (stopped _ _ _ _ _ _ parts.0 parts.1 (strip_prefix_char 37 c.in-Some.behind.now None c.in_default-strip_prefix.ensures.cases (lit< tt)) c.push_str.ensures.bytes c.loop-front.invariant.1)

pub returns-in_default-strip_prefix-clause-rest : goal.returns-in_default-strip_prefix-clause-rest
returns-in_default-strip_prefix-clause-rest c =
    let parts = split_parts 37 c.loop-front.rest.now (Some (c.in-Some.front, c.in-Some.behind)) c.in-Some.ensures.cases (lit< tt) in
    ap (λ (x : List ℕ × Option (List ℕ)). x.1) (stopped _ _ _ _ _ _ parts.0 parts.1 (strip_prefix_char 37 c.in-Some.behind.now None c.in_default-strip_prefix.ensures.cases (lit< tt)) c.push_str.ensures.bytes c.loop-front.invariant.1)

pub loop-front-preserved : goal.loop-front-preserved
loop-front-preserved c =
    let parts = split_parts 37 c.loop-front.rest.now (Some (c.in-Some.front, c.in-Some.behind)) c.in-Some.ensures.cases (lit< tt) in
    let pair : c.in-Some.behind.now ≡ _ = strip_prefix_char 37 c.in-Some.behind.now (Some c.in-Some-strip_prefix.more) c.in-Some-strip_prefix.ensures.cases (lit< tt) in (
      search rules,
      paired _ _ _ _ _ _ _ _ parts.0 parts.1 pair c.push_str.ensures.bytes (c.push.ensures.ascii (lit< tt)) c.loop-front.invariant.1,
      shorter _ _ _ _ _ _ _ _ parts.0 pair c.push_str.ensures.bytes (c.push.ensures.ascii (lit< tt)) c.loop-front.invariant.2,
    )

pub returns-clause-plain : goal.returns-clause-plain
returns-clause-plain c =
    ap (λ (x : List ℕ × Option (List ℕ)). x.0) (ended _ _ _ _ (split_parts 37 c.loop-front.rest.now None c.in_default.ensures.cases (lit< tt)) c.push_str-2.ensures.bytes c.loop-front.invariant.1)

pub returns-clause-rest : goal.returns-clause-rest
returns-clause-rest c =
    ap (λ (x : List ℕ × Option (List ℕ)). x.1) (ended _ _ _ _ (split_parts 37 c.loop-front.rest.now None c.in_default.ensures.cases (lit< tt)) c.push_str-2.ensures.bytes c.loop-front.invariant.1)

-- Reading one tag.
use Rattle.std.proofs.Common.{◌≡◌, ℕ, ◌<◌, Bool, List, [], ◌∷◌, ◌++◌, append_assoc, ap, ◌∙◌, sym, subst, Ok, Err, length, arith, zero, suc}
use Rattle.std.proofs.lemmas.List.Elements.{All-append}
use Rattle.flv_tags.specs.declared.tag.Tag.{Tag}
use Rattle.flv_tags.specs.declared.tag.TagFault.{TagFault}
use Rattle.flv_tags.specs.declared.tag.TagFault.TheVariants as fault
use Rattle.flv_tags.specs.declared.tag.TagStep.TheVariants as step
use Rattle.flv_tags.specs.Tags.{Begins}
use Rattle.flv_tags.specs.Reader.{ReaderState, HasRead, Answers}
use Rattle.flv_demux.specs.declared.steps.Read.TheVariants as read
use Rattle.flv_demux.specs.State.{HaveSmallBodies}
use Rattle.flv_demux.specs.Steps.{ReadsOne, fault_in}

pub reads_tag : (fed : List ℕ) (done : List Tag) (ended : Bool) (reader : ReaderState) (old new : List Tag) (tag : Tag) → new ≡ old ++ tag ∷ [] → Answers (Ok (step.Tag tag)) fed (done ++ old) ended reader → ReadsOne (Ok read.Tag) fed done ended reader old new
reads_tag fed done ended reader old new tag e a =
    let moved : (done ++ old) ++ tag ∷ [] ≡ done ++ new = append_assoc done old (tag ∷ []) ∙ ap (λ (l : List Tag). done ++ l) (sym e) in
    (subst (λ (l : List Tag). HasRead fed l reader) moved a.0, subst (Begins fed) moved a.1, (tag, e))

pub reads_more : (fed : List ℕ) (done : List Tag) (ended : Bool) (reader : ReaderState) (old new : List Tag) → new ≡ old → Answers (Ok step.NeedMore) fed (done ++ old) ended reader → ReadsOne (Ok read.NeedMore) fed done ended reader old new
reads_more fed done ended reader old new e a = (a.0, e, a.1, a.2, a.3)

pub reads_end : (fed : List ℕ) (done : List Tag) (ended : Bool) (reader : ReaderState) (old new : List Tag) → new ≡ old → Answers (Ok step.End) fed (done ++ old) ended reader → ReadsOne (Ok read.End) fed done ended reader old new
reads_end fed done ended reader old new e a = (a.0, e, a.1, a.2)

pub reads_err : (f : TagFault) (fed : List ℕ) (done : List Tag) (ended : Bool) (reader : ReaderState) (old new : List Tag) → new ≡ old → Answers (Err f) fed (done ++ old) ended reader → ReadsOne (Err (fault_in f)) fed done ended reader old new
reads_err fault.NotFlv fed done ended reader old new e a = (a.0, e, a.1, a.2)
reads_err fault.BadOffset fed done ended reader old new e a = (a.0, e, a.1)
reads_err fault.CutTag fed done ended reader old new e a = (a.0, e, a.1, a.2)
reads_err fault.NoMemory fed done ended reader old new e a = (a, e)

pub small_more : (xs : List Tag) (tag : Tag) → HaveSmallBodies xs → length tag.body < 16777216 → HaveSmallBodies (xs ++ tag ∷ [])
small_more xs tag h k = All-append (λ (t : Tag). length t.body < 16777216) xs (tag ∷ []) h one
  where
    one : HaveSmallBodies (tag ∷ [])
    one zero d l = k
    one (suc n) d l = absurd (omega arith)

use Rattle.std.proofs.Common.{map, ap, ◌∙◌, subst}
use Rattle.std.specs.FinMap.{entries}
use Rattle.program_leaves.specs.Members.{IsIn}
use Rattle.scheme_model.specs.Answers.{bytes_before, ordered_by}
use Rattle.program_answers.specs.BytesKept.{bytes_seen}
use Rattle.program_answers.specs.ToldAnswers.{place_told}
use Rattle.program_answers.proofs.BytesLaws.{bytes_cmp, bytes_order}
use Rattle.program_answers.proofs.OrderedLaws.{from_ordered}
use Rattle.program_answers.proofs.answers.places_of.Goals as goal

pub places_at-requires : goal.places_at-requires
places_at-requires c = λ b i.
    c.in_ok-all.ensures.inside b (from_ordered bytes_cmp bytes_before bytes_order b (map bytes_seen c.in_ok-all.all.items) (subst (IsIn b) (ap (map bytes_seen) c.as_slice.ensures ∙ c.in_ok-sorted.ensures) i))

pub returns : goal.returns
returns c = λ rs source.
    c.in_ok-places.ensures
    ∙ ap (map (place_told c.args.asked.now.encoding (entries c.args.asked.now.texts.now))) (ap (map bytes_seen) c.as_slice.ensures ∙ c.in_ok-sorted.ensures ∙ ap (ordered_by bytes_before) (c.in_ok-all.ensures.exact rs source))

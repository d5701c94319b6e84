use Rattle.std.proofs.Common.{map, ap, ◌∙◌, subst}
use Rattle.std.specs.FinMap.{entries}
use Rattle.program_leaves.specs.Members.{IsIn}
use Rattle.scheme_model.specs.Answers.{drawn_before, ordered_by}
use Rattle.program_answers.specs.BytesKept.{drawn_seen}
use Rattle.program_answers.specs.ToldAnswers.{arrow_told, facts_in}
use Rattle.program_answers.proofs.AskedLaws.{drawn_law, drawn_tokens}
use Rattle.program_answers.proofs.BytesLaws.{bytes_cmp, drawn_order, pair_cmp}
use Rattle.program_answers.proofs.OrderedLaws.{from_ordered}
use Rattle.program_answers.proofs.answers.arrows.Goals as goal

pub arrows_at-requires : goal.arrows_at-requires
arrows_at-requires c = λ d i.
    c.in_ok-all.ensures.inside d
    (from_ordered (pair_cmp bytes_cmp bytes_cmp) drawn_before drawn_order d (map drawn_seen c.in_ok-all.all.items) (subst (IsIn d) (ap (map drawn_seen) c.as_slice.ensures ∙ c.in_ok-sorted.ensures) i))

pub returns : goal.returns
returns c = λ rs source.
    let f = facts_in rs in
    let pairs = c.args.asked.now.index.now.arrows in
    let seen = ap (map drawn_seen) c.as_slice.ensures ∙ c.in_ok-sorted.ensures ∙ ap (ordered_by drawn_before) (c.in_ok-all.ensures.exact rs source) in
    c.in_ok-arrows.ensures rs source (λ d i. drawn_tokens f.bytes c.args.document pairs d (subst (IsIn d) seen i))
    ∙ ap (map (arrow_told c.args.asked.now.encoding (entries c.args.asked.now.texts.now))) (seen ∙ drawn_law f c.args.document pairs source.index.arrows)

use Rattle.std.proofs.Common.{List, map, ◌++◌, ap, ◌∙◌, subst}
use Rattle.std.specs.FinMap.{entries}
use Rattle.scheme_model.specs.declared.Occ.{Occ}
use Rattle.program_leaves.specs.Members.{IsIn}
use Rattle.scheme_model.specs.Answers.{binders_for, lit_before, lit_in, ordered_by, uses_for}
use Rattle.program_answers.specs.BytesKept.{lit_seen}
use Rattle.program_answers.specs.ToldAnswers.{facts_in, highlight_told}
use Rattle.program_answers.proofs.AskedLaws.{lit_same}
use Rattle.program_answers.proofs.BytesLaws.{bytes_cmp, lit_order, pair_cmp}
use Rattle.program_answers.proofs.OrderedLaws.{from_ordered}
use Rattle.std.specs.Ordering.{nat_cmp}
use Rattle.program_answers.proofs.answers.highlights.Goals as goal

pub highlights_at-requires : goal.highlights_at-requires
highlights_at-requires c = λ l i.
    c.in_ok-all.ensures.inside l
    (from_ordered (pair_cmp bytes_cmp nat_cmp) lit_before lit_order l (map lit_seen c.in_ok-all.all.items) (subst (IsIn l) (ap (map lit_seen) c.as_slice-2.ensures ∙ c.in_ok-sorted.ensures) i))

pub returns : goal.returns
returns c = λ rs source.
    let f = facts_in rs in
    let wanted = binders_for f c.args.occ ++ uses_for f c.args.occ in
    c.in_ok-lights.ensures
    ∙ ap (map (highlight_told c.args.asked.now.encoding (entries c.args.asked.now.texts.now)))
    (ap (map lit_seen) c.as_slice-2.ensures ∙ c.in_ok-sorted.ensures ∙ ap (ordered_by lit_before) (c.in_ok-all.ensures.exact rs source)
    ∙ ap (λ (os : List Occ). lit_in f c.args.document os) c.as_slice.ensures.value ∙ lit_same f c.args.document c.in_ok-occs.occs.items wanted (c.in_ok-occs.ensures rs source))

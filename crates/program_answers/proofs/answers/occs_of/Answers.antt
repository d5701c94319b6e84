use Rattle.std.proofs.Common.{List, [], ◌++◌, ap, ◌∙◌, subst}
use Rattle.std.specs.Prelude.{if◌then◌else◌}
use Rattle.std.specs.List.{flat_map}
use Rattle.scheme_model.specs.declared.Occ.{Occ}
use Rattle.scheme_model.specs.ProgramArrows.{uses_at}
use Rattle.program_answers.specs.ToldAnswers.{facts_in}
use Rattle.program_answers.proofs.AskedLaws.{occs_law}
use Rattle.program_answers.proofs.ListedLaws.{HaveSame}
use Rattle.program_answers.proofs.answers.occs_of.Goals as goal

pub returns : goal.returns
returns c = λ rs source.
    let f = facts_in rs in
    let uses = c.in_ok-occs.occs.items in
    let binders = c.in_ok-binders.binders in
    let used = subst (λ (bs : List Occ). HaveSame uses (flat_map (uses_at f.arrows) bs)) c.as_slice.ensures (c.in_ok-occs.ensures f.arrows source.index.arrows) in
    let all = c.in_ok-add_if.ensures ∙ ap (λ (bs : List Occ). uses ++ (if c.args.declaration then bs else [])) c.as_slice-2.ensures in
    occs_law f c.args.occ c.args.declaration binders uses c.add_if.new.occs.items (c.in_ok-binders.ensures _ _ source.index) used all

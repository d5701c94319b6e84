use Rattle.std.proofs.Common.{◌++◌, ℕ, List, Some, None, cond, ap, ◌∙◌, arith}
use Rattle.std.specs.BTreeMap.{get}
use Rattle.std.proofs.lemmas.List.{take_all}
use Rattle.scheme_model.specs.Entries.{same_occ}
use Rattle.scheme_model.specs.Sites.{or_else}
use Rattle.program_answers.specs.declared.classes.ClassPart.{ClassPart}
use Rattle.text_edits.specs.Members.{name_of}
use Rattle.text_edits.specs.Views.{occ_cmp}
use Rattle.class_edits.specs.Named.{named_parts}
use Rattle.class_edits.proofs.NamedLaws.{named_next, names_of_class}
use Rattle.class_edits.proofs.members.members.Goals as goal

pub loop-part-preserved : goal.loop-part-preserved
loop-part-preserved c = λ o.
    let p = c.part-item.result in
    let stem = c.args.stem.now in
    let old = get occ_cmp c.loop-part.members o in
    named_next stem c.args.parts.now c.loop-part.part-index p o old (get occ_cmp c.add_member.new.members o) (omega arith) c.part-item.is (c.loop-part.invariant o)
    (c.in_ok-add_member.ensures o ∙ ap (λ (q : List ℕ). or_else old (cond (same_occ p.occ o) (Some (q ++ stem)) None)) c.as_str.ensures)

pub returns-clause-parts : goal.returns-clause-parts
returns-clause-parts c = λ o.
    c.loop-part.invariant o ∙ ap (λ (ps : List ClassPart). name_of (named_parts c.args.stem.now ps) o) (take_all c.loop-part.part-index c.args.parts.now (omega arith))

pub returns-clause-exact : goal.returns-clause-exact
returns-clause-exact c = λ ls at are apart o.
    c.loop-part.invariant o ∙ ap (λ (ps : List ClassPart). name_of (named_parts c.args.stem.now ps) o) (take_all c.loop-part.part-index c.args.parts.now (omega arith))
    ∙ names_of_class ls at c.args.stem.now c.args.parts.now are apart o

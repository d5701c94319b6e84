use Rattle.std.proofs.Common.{List, ap, ◌∙◌, arith}
use Rattle.std.specs.BTreeMap.{get}
use Rattle.std.specs.Ordering.{nat_cmp}
use Rattle.std.proofs.lemmas.List.{take_all}
use Rattle.read_documents.specs.declared.heads.Head.{Head}
use Rattle.text_edits.specs.Members.{name_at}
use Rattle.text_edits.specs.Views.{occ_cmp}
use Rattle.class_edits.specs.Named.{identifiers_in}
use Rattle.class_edits.proofs.IdentifierLaws.{noted_next}
use Rattle.class_edits.proofs.edits.token_names.Goals as goal

pub loop-head-preserved : goal.loop-head-preserved
loop-head-preserved c = λ n.
    noted_next (λ o. get occ_cmp c.args.members.now o) c.args.document c.args.heads.now c.loop-head.head-index c.head-item.result n (get nat_cmp c.loop-head.names n) (get nat_cmp c.note_unit.new.names n) (omega arith) c.head-item.is
    (c.loop-head.invariant n) (c.in_ok-note_unit.ensures n)

pub returns : goal.returns
returns c = λ n.
    c.loop-head.invariant n ∙ ap (λ (hs : List Head). name_at (λ o. get occ_cmp c.args.members.now o) (identifiers_in c.args.document hs) n) (take_all c.loop-head.head-index c.args.heads.now (omega arith))

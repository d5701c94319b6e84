use Rattle.included_forms.proofs.tables.Table.of.Goals as goal

pub loop-document-preserved : goal.loop-document-preserved
loop-document-preserved c = λ o docs usable. c.in_ok-add.ensures o docs (c.loop-document.invariant o docs usable)

pub loop-document-init : goal.loop-document-init
loop-document-init c = λ o docs usable. c.in_ok-table.ensures o usable

pub returns : goal.returns
returns c = λ o docs usable. c.loop-document.invariant o docs usable

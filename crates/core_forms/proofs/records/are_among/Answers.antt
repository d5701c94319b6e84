use Rattle.std.proofs.Common.{◌+◌, drop, get_or, None, sym, ◌∙◌}
use Rattle.std.proofs.lemmas.List.{drop_more}
use Rattle.core_forms.specs.declared.shape.NamePart.{NamePart}
use Rattle.core_forms.proofs.Distinct.{numbers_no, numbers_yes}
use Rattle.core_forms.proofs.records.are_among.Goals as goal

pub returns-then-not-contains : goal.returns-then-not-contains
returns-then-not-contains c = λ fields has.
    let i = c.loop-name.name-index in
    let all = c.args.names.now in
    let d : NamePart = record { ident = 0; occ = None } in
    let v : NamePart = get_or all i d in
    sym (c.loop-name.invariant fields has ∙ numbers_no fields (drop i all) v (drop (i + 1) all) (drop_more all i d c.loop-name-test.true) (sym (has v.ident) ∙ sym c.contains.ensures ∙ c.if-not-contains.true))

pub loop-name-preserved : goal.loop-name-preserved
loop-name-preserved c = λ fields has.
    let i = c.loop-name.name-index in
    let all = c.args.names.now in
    let d : NamePart = record { ident = 0; occ = None } in
    let v : NamePart = get_or all i d in
    c.loop-name.invariant fields has ∙ numbers_yes fields (drop i all) v (drop (i + 1) all) (drop_more all i d c.loop-name-test.true) (sym (has v.ident) ∙ sym c.contains.ensures ∙ c.if-not-contains.false)

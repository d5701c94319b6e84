use Rattle.std.proofs.Common.{sym, ap, ◌∙◌}
use Rattle.scheme_model.specs.Trees.{Trees, Tail, proper}
use Rattle.scheme_model.specs.Ident.{Ident as Identifier, same_ident}
use Rattle.syntax_tree.proofs.Looking.{no_end, some_end}
use Rattle.scheme_model.specs.Shapes.{record_in, name_of}
use Rattle.core_forms.specs.Steps.{behind_name}
use Rattle.core_forms.specs.Ends.{IsRecordType}
use Rattle.core_forms.proofs.Reading.{then_err, then_ok, ends_same}
use Rattle.core_forms.proofs.records.record_in.Goals as goal

pub returns-in_err-name-in-Parts : goal.returns-in_err-name-in-Parts
returns-in_err-name-in-Parts c = λ ts tail stands ends.
    let w = c.args.work.now in
    let gone = no_end w c.args.end tail (sym c.is_some.ensures ∙ c.if-is_some.false) ends in
    let l = c.in-Parts.ensures.read ts stands in
    then_err w (IsRecordType w) (name_of l.0) (λ n. behind_name n l.1) (record_in same_ident ts tail) c.from_residual.result c.in_err-name-in-Parts.field-0.0
    (ap (λ (x : Tail Identifier). record_in same_ident ts x) gone ∙ ap (λ (x : Trees Identifier). record_in same_ident x proper) l.2) c.from_residual.ensures.1 (c.in_err-name-in-Parts.ensures l.0 l.3)

pub returns-in_ok-name-in-Parts : goal.returns-in_ok-name-in-Parts
returns-in_ok-name-in-Parts c = λ ts tail stands ends.
    let w = c.args.work.now in
    let gone = no_end w c.args.end tail (sym c.is_some.ensures ∙ c.if-is_some.false) ends in
    let l = c.in-Parts.ensures.read ts stands in
    let n = c.in_ok-name-in-Parts.ensures l.0 l.3 in
    ends_same w (IsRecordType w) (record_in same_ident ts tail) (behind_name n.0 l.1) c.behind_name.result (ap (λ (x : Tail Identifier). record_in same_ident ts x) gone ∙ ap (λ (x : Trees Identifier). record_in same_ident x proper) l.2 ∙ then_ok (name_of l.0) (λ n. behind_name n l.1) n.0 n.1) (c.behind_name.ensures n.0 l.1 n.2 l.4)

pub returns-then-is_some : goal.returns-then-is_some
returns-then-is_some c = λ ts tail stands ends.
    ap (λ (x : Tail Identifier). record_in same_ident ts x) (some_end c.args.work.now c.args.end tail (sym c.is_some.ensures ∙ c.if-is_some.true) ends).1

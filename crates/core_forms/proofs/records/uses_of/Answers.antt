use Rattle.std.proofs.Common.{sym, ap, ◌∙◌, Ok}
use Rattle.scheme_model.specs.Trees.{Trees, Tail, proper}
use Rattle.scheme_model.specs.ExpansionFaults.{◌>>◌}
use Rattle.scheme_model.specs.Ident.{Ident as Identifier}
use Rattle.syntax_tree.proofs.Looking.{no_end, some_end}
use Rattle.scheme_model.specs.Shapes.{name_of, names_of}
use Rattle.core_forms.specs.Steps.{uses_of}
use Rattle.core_forms.specs.Parts.{IsConstructor}
use Rattle.core_forms.proofs.Reading.{then_err, then_ok}
use Rattle.core_forms.proofs.records.uses_of.Goals as goal

pub returns-in_err-name-in-Parts : goal.returns-in_err-name-in-Parts
returns-in_err-name-in-Parts c = λ ts tail stands ends.
    let w = c.args.work.now in
    let gone = no_end w c.args.end tail (sym c.is_some.ensures ∙ c.if-is_some.false) ends in
    let l = c.in-Parts.ensures.read ts stands in
    then_err w (IsConstructor w) (name_of l.0) (λ n. names_of l.1 >> λ u. Ok (n, u)) (uses_of ts tail) c.from_residual.result c.in_err-name-in-Parts.field-0.0
    (ap (λ (x : Tail Identifier). uses_of ts x) gone ∙ ap (λ (x : Trees Identifier). uses_of x proper) l.2) c.from_residual.ensures.1 (c.in_err-name-in-Parts.ensures l.0 l.3)

pub returns-in_err-used-in-Parts : goal.returns-in_err-used-in-Parts
returns-in_err-used-in-Parts c = λ ts tail stands ends.
    let w = c.args.work.now in
    let gone = no_end w c.args.end tail (sym c.is_some.ensures ∙ c.if-is_some.false) ends in
    let l = c.in-Parts.ensures.read ts stands in
    let n = c.in_ok-name-in-Parts.ensures l.0 l.3 in
    then_err w (IsConstructor w) (names_of l.1) (λ u. Ok (n.0, u)) (uses_of ts tail) c.from_residual-in_err-used-in-Parts.result c.in_err-used-in-Parts.field-0.0
    (ap (λ (x : Tail Identifier). uses_of ts x) gone ∙ ap (λ (x : Trees Identifier). uses_of x proper) l.2 ∙ then_ok (name_of l.0) (λ n. names_of l.1 >> λ u. Ok (n, u)) n.0 n.1) c.from_residual-in_err-used-in-Parts.ensures.1 (c.in_err-used-in-Parts.ensures l.1 l.4)

pub returns-in_ok-used-in-Parts : goal.returns-in_ok-used-in-Parts
returns-in_ok-used-in-Parts c = λ ts tail stands ends.
    let w = c.args.work.now in
    let gone = no_end w c.args.end tail (sym c.is_some.ensures ∙ c.if-is_some.false) ends in
    let l = c.in-Parts.ensures.read ts stands in
    let n = c.in_ok-name-in-Parts.ensures l.0 l.3 in
    let u = c.in_ok-used-in-Parts.ensures l.1 l.4 in
    ((n.0, u.0), ap (λ (x : Tail Identifier). uses_of ts x) gone ∙ ap (λ (x : Trees Identifier). uses_of x proper) l.2 ∙ then_ok (name_of l.0) (λ n. names_of l.1 >> λ u. Ok (n, u)) n.0 n.1 ∙ then_ok (names_of l.1) (λ u. Ok (n.0, u)) u.0 u.1, (n.2, u.2))

pub returns-then-is_some : goal.returns-then-is_some
returns-then-is_some c = λ ts tail stands ends.
    ap (λ (x : Tail Identifier). uses_of ts x) (some_end c.args.work.now c.args.end tail (sym c.is_some.ensures ∙ c.if-is_some.true) ends).1

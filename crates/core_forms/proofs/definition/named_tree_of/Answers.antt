use Rattle.std.proofs.Common.{ap, ◌∙◌, Ok}
use Rattle.scheme_model.specs.Trees.{Trees}
use Rattle.scheme_model.specs.ExpansionFaults.{◌>>◌}
use Rattle.scheme_model.specs.Ident.{Ident as Identifier}
use Rattle.scheme_model.specs.Shapes.{named_tree_of, name_of, one_of}
use Rattle.core_forms.specs.Parts.{IsMacro}
use Rattle.core_forms.proofs.Reading.{then_err, then_ok}
use Rattle.core_forms.proofs.definition.named_tree_of.Goals as goal

pub returns-in_err-name-in-Parts-clause-read : goal.returns-in_err-name-in-Parts-clause-read
returns-in_err-name-in-Parts-clause-read c = λ ts tail stands ends.
    let w = c.args.work.now in
    let l = c.in-Parts.ensures.read ts stands in
    then_err w (IsMacro w) (name_of l.0) (λ n. one_of l.1 tail >> λ r. Ok (n, r)) (named_tree_of ts tail) c.from_residual.result c.in_err-name-in-Parts.field-0.0
    (ap (λ (x : Trees Identifier). named_tree_of x tail) l.2) c.from_residual.ensures.1 (c.in_err-name-in-Parts.ensures l.0 l.3)

pub returns-in_err-rules-in-Parts-clause-read : goal.returns-in_err-rules-in-Parts-clause-read
returns-in_err-rules-in-Parts-clause-read c = λ ts tail stands ends.
    let w = c.args.work.now in
    let l = c.in-Parts.ensures.read ts stands in
    let n = c.in_ok-name-in-Parts.ensures l.0 l.3 in
    then_err w (IsMacro w) (one_of l.1 tail) (λ r. Ok (n.0, r)) (named_tree_of ts tail) c.from_residual-in_err-rules-in-Parts.result c.in_err-rules-in-Parts.field-0.0
    (ap (λ (x : Trees Identifier). named_tree_of x tail) l.2 ∙ then_ok (name_of l.0) (λ n. one_of l.1 tail >> λ r. Ok (n, r)) n.0 n.1) c.from_residual-in_err-rules-in-Parts.ensures.1 (c.in_err-rules-in-Parts.ensures.read l.1 tail l.4 ends)

pub returns-in_ok-rules-in-Parts-clause-read : goal.returns-in_ok-rules-in-Parts-clause-read
returns-in_ok-rules-in-Parts-clause-read c = λ ts tail stands ends.
    let w = c.args.work.now in
    let l = c.in-Parts.ensures.read ts stands in
    let n = c.in_ok-name-in-Parts.ensures l.0 l.3 in
    let r = c.in_ok-rules-in-Parts.ensures.read l.1 tail l.4 ends in
    ((n.0, r.0), ap (λ (x : Trees Identifier). named_tree_of x tail) l.2 ∙ then_ok (name_of l.0) (λ n. one_of l.1 tail >> λ r. Ok (n, r)) n.0 n.1 ∙ then_ok (one_of l.1 tail) (λ r. Ok (n.0, r)) r.0 r.1, (n.2, r.2))

pub returns-in_ok-rules-in-Parts-clause-named : goal.returns-in_ok-rules-in-Parts-clause-named
returns-in_ok-rules-in-Parts-clause-named c = λ region named. c.in_ok-rules-in-Parts.ensures.named region (c.in-Parts.ensures.named region named).1

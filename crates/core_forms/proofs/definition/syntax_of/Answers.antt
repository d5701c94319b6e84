use Rattle.std.proofs.Common.{ap, ◌∙◌, refl, Ok}
use Rattle.scheme_model.specs.Trees.{Tree}
use Rattle.scheme_model.specs.ExpansionFaults.{◌>>◌}
use Rattle.scheme_model.specs.Ident.{Ident as Identifier}
use Rattle.scheme_model.specs.Shapes.{named_tree_of, syntax_of, list_of}
use Rattle.core_forms.specs.Parts.{IsMacro}
use Rattle.core_forms.proofs.Reading.{then_err, then_ok}
use Rattle.core_forms.proofs.definition.syntax_of.Goals as goal

pub look_at-requires : goal.look_at-requires
look_at-requires c =
    let d = c.in_ok-named.ensures.read c.requires.parts.0 c.requires.tail.0 c.requires.parts.1 c.requires.tail.1 in
    (d.0.1, d.2.1)

pub returns-in_err-named-clause-read : goal.returns-in_err-named-clause-read
returns-in_err-named-clause-read c = λ ts tail stands ends.
    let w = c.args.work.now in
    then_err w (IsMacro w) (named_tree_of ts tail) (λ p. list_of p.1 >> λ rules. Ok p) (syntax_of ts tail) c.from_residual.result c.in_err-named.field-0.0
    refl c.from_residual.ensures.1 (c.in_err-named.ensures.read ts tail stands ends)

pub returns-in-List-clause-read : goal.returns-in-List-clause-read
returns-in-List-clause-read c = λ ts tail stands ends.
    let p = c.in_ok-named.ensures.read ts tail stands ends in
    let l = c.in-List.ensures.look p.0.1 p.2.1 in
    (p.0, then_ok (named_tree_of ts tail) (λ p. list_of p.1 >> λ rules. Ok p) p.0 p.1 ∙ ap (λ (x : Tree Identifier). list_of x >> λ rules. Ok p.0) l.3, p.2)

pub returns-in-Name-clause-read : goal.returns-in-Name-clause-read
returns-in-Name-clause-read c = λ ts tail stands ends.
    let p = c.in_ok-named.ensures.read ts tail stands ends in
    let l = c.in-Name.ensures.look p.0.1 p.2.1 in
    then_ok (named_tree_of ts tail) (λ p. list_of p.1 >> λ rules. Ok p) p.0 p.1 ∙ ap (λ (x : Tree Identifier). list_of x >> λ rules. Ok p.0) l.2

pub returns-in-Atom-clause-read : goal.returns-in-Atom-clause-read
returns-in-Atom-clause-read c = λ ts tail stands ends.
    let p = c.in_ok-named.ensures.read ts tail stands ends in
    let l = c.in-Atom.ensures.look p.0.1 p.2.1 in
    then_ok (named_tree_of ts tail) (λ p. list_of p.1 >> λ rules. Ok p) p.0 p.1 ∙ ap (λ (x : Tree Identifier). list_of x >> λ rules. Ok p.0) l.2

pub returns-in-Vector-clause-read : goal.returns-in-Vector-clause-read
returns-in-Vector-clause-read c = λ ts tail stands ends.
    let p = c.in_ok-named.ensures.read ts tail stands ends in
    let l = c.in-Vector.ensures.look p.0.1 p.2.1 in
    then_ok (named_tree_of ts tail) (λ p. list_of p.1 >> λ rules. Ok p) p.0 p.1 ∙ ap (λ (x : Tree Identifier). list_of x >> λ rules. Ok p.0) l.2

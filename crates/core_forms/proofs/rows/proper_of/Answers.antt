use Rattle.std.proofs.Common.{sym, ap, ◌∙◌, subst, List}
use Rattle.scheme_model.specs.Trees.{Tail}
use Rattle.scheme_model.specs.Shapes.{proper_of}
use Rattle.scheme_model.specs.Ident.{Ident as Identifier}
use Rattle.syntax_tree.specs.Looks.{PartsStand}
use Rattle.syntax_tree.specs.declared.trees.nodes.Tree as number
use Rattle.syntax_tree.proofs.Looking.{no_end, some_end}
use Rattle.core_forms.proofs.rows.proper_of.Goals as goal

pub returns-then-is_some-clause-read : goal.returns-then-is_some-clause-read
returns-then-is_some-clause-read c = λ ts tail stands ends.
    ap (λ (x : Tail Identifier). proper_of ts x) (some_end c.args.work.now c.args.end tail (sym c.is_some.ensures ∙ c.if-is_some.true) ends).1

pub returns-clause-read : goal.returns-clause-read
returns-clause-read c = λ ts tail stands ends.
    let gone = no_end c.args.work.now c.args.end tail (sym c.is_some.ensures ∙ c.if-is_some.false) ends in
    (ts, ap (λ (x : Tail Identifier). proper_of ts x) gone, subst (λ (ns : List number.Tree). PartsStand c.args.work.now ns ts) (sym c.in_ok-from_slice.ensures.items) stands)

use Rattle.std.proofs.Common.{◌≡◌, sym, subst}
use Rattle.scheme_model.specs.Trees.{list, tree}
use Rattle.syntax_tree.specs.Looks.{PartsStand}
use Rattle.noted_steps.proofs.libraries.note_libraries.Goals as goal

pub note_clauses-requires : goal.note_clauses-requires
note_clauses-requires c = let l = c.in-List.ensures.look c.requires.0 c.requires.1 in (l.0, l.4)

pub returns-in-List-clause-noted : goal.returns-in-List-clause-noted
returns-in-List-clause-noted c = λ known ls s head ts tail o knows e stands.
    let l = c.in-List.ensures.look (list (tree head ts) tail o) stands in
    let same : tree head ts ≡ l.0 = cc in
    c.note_clauses.ensures.noted known ls s (tree head ts) knows e (subst (PartsStand c.args.work.now c.in-List.clauses.now) (sym same) l.4)

pub returns-in-Name-clause-noted : goal.returns-in-Name-clause-noted
returns-in-Name-clause-noted c = λ known ls s head ts tail o knows e stands. let l = c.in-Name.ensures.look (list (tree head ts) tail o) stands in let same = l.2 in absurd cc

pub returns-in-Atom-clause-noted : goal.returns-in-Atom-clause-noted
returns-in-Atom-clause-noted c = λ known ls s head ts tail o knows e stands. let l = c.in-Atom.ensures.look (list (tree head ts) tail o) stands in let same = l.2 in absurd cc

pub returns-in-Vector-clause-noted : goal.returns-in-Vector-clause-noted
returns-in-Vector-clause-noted c = λ known ls s head ts tail o knows e stands. let l = c.in-Vector.ensures.look (list (tree head ts) tail o) stands in let same = l.2 in absurd cc

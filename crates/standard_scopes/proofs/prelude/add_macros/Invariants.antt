use Rattle.std.proofs.Common.{◌≡◌, vec_len}
use Rattle.syntax_tree.specs.Names.{KeepsNames}
use Rattle.standard_scopes.proofs.PreludeMacros.{Adding}
use Rattle.standard_scopes.proofs.prelude.add_macros.Given as goal

abbrev pub invariant-loop-name : goal.invariant-loop-name
invariant-loop-name l = record {
  adding : Adding l.fn.work l.fn.scope l.work l.scope l.rest.items;
  trees : l.work.trees ≡ l.fn.work.trees;
  names : KeepsNames l.fn.work.symbols l.work.symbols;
  roots : l.scope.env.roots ≡ l.fn.scope.env.roots;
}

abbrev pub decreases-loop-name : goal.decreases-loop-name
decreases-loop-name l = vec_len l.rest

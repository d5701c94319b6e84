-- The columns of a pattern's variables, part by part.
use Rattle.std.proofs.Common.{◌≡◌, ℕ, ◌+◌, List, [], ◌∷◌, ◌++◌, refl, sym, ap, ◌∙◌, subst, append_assoc}
use Rattle.std.specs.Prelude.{Vec}
use Rattle.std.specs.declared.alloc.Global.{Global}
use Rattle.std.proofs.lemmas.List.{append-nil, map-append}
use Rattle.scheme_model.specs.Trees.{Tree, Trees, no_trees, tree}
use Rattle.scheme_model.specs.RulesShape.{Role}
use Rattle.scheme_model.specs.Matching.{behind, names_in, names_among, no_values}
use Rattle.scheme_model.specs.Ident.{Ident as Identifier}
use Rattle.syntax_tree.specs.Macros.{IsIdent, AreValues}
use Rattle.syntax_tree.specs.declared.trees.Work.{Work}
use Rattle.rules_match.specs.declared.columns.Column.{Column}
use Rattle.rules_match.specs.Found.{AreColumns, AddsColumns, no_places}
use Rattle.rules_match.proofs.ColumnLaws.{columns_append}

pub columns_none : (work : Work) (v : Vec Column Global) → AddsColumns work v v []
columns_none work v = record { more = []; added = sym (append-nil v.items); are = tt }

pub columns_one : (work : Work) (u v : Vec Column Global) (k : Column) (i : Identifier) → v.items ≡ u.items ++ k ∷ [] → k.values.items ≡ [] → IsIdent work.symbols k.variable i → AddsColumns work u v (i ∷ [])
columns_one work u v k i e n h =
    record { more = k ∷ []; added = e; are = (h, subst (λ x. AreValues work x k.variable no_values) (sym n) tt, tt) }

pub columns_both : (work : Work) (u v w : Vec Column Global) (is js : List Identifier) → AddsColumns work u v is → AddsColumns work v w js → AddsColumns work u w (is ++ js)
columns_both work u v w is js p q =
    record {
      more = p.more ++ q.more;
      added = q.added ∙ ap (λ x. x ++ q.more) p.added ∙ append_assoc u.items p.more q.more;
      are = subst (AreColumns work (p.more ++ q.more)) (sym (map-append (λ i. (i, no_values)) is js)) (columns_append work p.more q.more (no_places is) (no_places js) p.are q.are);
    }

pub columns_same : (work : Work) (u v : Vec Column Global) (is js : List Identifier) → is ≡ js → AddsColumns work u v is → AddsColumns work u v js
columns_same work u v is js e h = subst (AddsColumns work u v) e h

-- the variables of the parts before a place
pub record ColumnsUpTo (work : Work) (old new : Vec Column Global) (role : Identifier → Role) (ps : Trees Identifier) (k : ℕ) : Type 0 where
  pub done : List Identifier
  pub added : AddsColumns work old new done
  pub whole : names_among role ps ≡ done ++ names_among role (behind k ps)

pub variables_none : (work : Work) (v : Vec Column Global) (role : Identifier → Role) (ps : Trees Identifier) → ColumnsUpTo work v v role ps 0
variables_none work v role ps = record { done = []; added = columns_none work v; whole = refl }

pub variables_more : (work : Work) (old mid new : Vec Column Global) (role : Identifier → Role) (ps : Trees Identifier) (k : ℕ) (p : Tree Identifier) → ColumnsUpTo work old mid role ps k →
    behind k ps ≡ tree p (behind (k + 1) ps) → AddsColumns work mid new (names_in role p) → ColumnsUpTo work old new role ps (k + 1)
variables_more work old mid new role ps k p u e a =
    record {
      done = u.done ++ names_in role p;
      added = columns_both work old mid new u.done (names_in role p) u.added a;
      whole = u.whole ∙ ap (λ x. u.done ++ names_among role x) e ∙ sym (append_assoc u.done (names_in role p) (names_among role (behind (k + 1) ps)));
    }

pub variables_all : (work : Work) (old new : Vec Column Global) (role : Identifier → Role) (ps : Trees Identifier) (k : ℕ) → ColumnsUpTo work old new role ps k → behind k ps ≡ no_trees → AddsColumns work old new (names_among role ps)
variables_all work old new role ps k u e = columns_same work old new u.done (names_among role ps) (sym (append-nil u.done) ∙ ap (λ x. u.done ++ names_among role x) (sym e) ∙ sym u.whole) u.added

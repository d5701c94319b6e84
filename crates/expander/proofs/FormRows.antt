-- Forms that are to be gone through, the first one last, stand for forms at a place, in order.
use Rattle.std.proofs.Common.{◌≡◌, List, [], ◌∷◌, ◌++◌, map, reverse, Option, refl, sym, ap, ◌∙◌, subst}
use Rattle.std.proofs.lemmas.List.{reverse-append, reverse-reverse, map-append}
use Rattle.scheme_model.specs.declared.Occ.{Occ}
use Rattle.scheme_model.specs.Trees.{Trees, no_trees, tree}
use Rattle.scheme_model.specs.Order.{forms_at}
use Rattle.scheme_model.specs.Ident.{Ident as Identifier}
use Rattle.syntax_tree.specs.Looks.{PartsStand, AllNamed}
use Rattle.syntax_tree.specs.declared.trees.Work.{Work}
use Rattle.syntax_tree.specs.declared.trees.table.Region.{Region}
use Rattle.syntax_tree.specs.declared.trees.nodes.Tree as number
use Rattle.core_tree.specs.Names.{AllMatch}
use Rattle.form_parts.specs.declared.items.Form as code
use Rattle.unit_scopes.specs.Kept.{FormFor}
use Rattle.form_parts.specs.FormsSeen.{form_at}

-- forms by number stand for the forms of these trees
pub forms_stand : (work : Work) (region : Region) (here : Option Occ) (ns : List number.Tree) (ts : Trees Identifier) → PartsStand work ns ts → AllNamed work region ns → AllMatch (FormFor work region) (map (form_at here) ns) (forms_at here ts)
forms_stand work region here [] no_trees h g = tt
forms_stand work region here [] (tree t ts) h g = absurd h
forms_stand work region here (n ∷ ns) no_trees h g = absurd h
forms_stand work region here (n ∷ ns) (tree t ts) h g = ((refl, (h.0, g.0)), forms_stand work region here ns ts h.1 g.1)

map_reverse : {X Y : Type 0} (f : X → Y) (xs : List X) → map f (reverse xs) ≡ reverse (map f xs)
map_reverse f [] = refl
map_reverse f (x ∷ xs) =
    ap (map f) (reverse-append (x ∷ []) xs) ∙ map-append f (reverse xs) (x ∷ []) ∙ ap (λ ys. ys ++ f x ∷ []) (map_reverse f xs) ∙ sym (reverse-append (f x ∷ []) (map f xs))

-- what is to be gone through, from its end
pub todo_reversed : (here : Option Occ) (ns : List number.Tree) (todo : List code.Form) → todo ≡ map (form_at here) (reverse ns) → reverse todo ≡ map (form_at here) ns
todo_reversed here ns todo e = ap reverse (e ∙ map_reverse (form_at here) ns) ∙ reverse-reverse (map (form_at here) ns)

pub todo_stands : (work : Work) (region : Region) (here : Option Occ) (ns : List number.Tree) (ts : Trees Identifier) (todo : List code.Form) → todo ≡ map (form_at here) (reverse ns) → PartsStand work ns ts → AllNamed work region ns →
    AllMatch (FormFor work region) (reverse todo) (forms_at here ts)
todo_stands work region here ns ts todo e h g =
    subst (λ (fs : List code.Form). AllMatch (FormFor work region) fs (forms_at here ts)) (sym (todo_reversed here ns todo e)) (forms_stand work region here ns ts h g)

use Rattle.std.proofs.Common.{◌≡◌, ℕ, List, ◌++◌, Option, ap, ◌∙◌, sym, subst}
use Rattle.syntax_tree.specs.Works.{StandsFor}
use Rattle.syntax_tree.specs.declared.trees.nodes.Tree as number
use Rattle.core_forms.specs.declared.shape.CoreKeyword as code_keyword
use Rattle.core_forms.specs.Parts.{AllMatch}
use Rattle.core_forms.proofs.HolePlaces.{hole_places_are}
use Rattle.core_forms.specs.Marks.{nodes_in, places_from, TellsMarks, mark_as, kind_if_any}
use Rattle.syntax_tree.specs.Looks.{AllNamed}
use Rattle.core_forms.proofs.quasi.holes_of.Goals as goal

pub returns-clause-read : goal.returns-clause-read
returns-clause-read c = λ mark t marks stands.
    let w = c.args.work.now in
    let tells : TellsMarks w c.in_ok-told.told mark = λ n i is. marks n i is ∙ ap (λ (k : Option code_keyword.CoreKeyword). mark_as (kind_if_any k)) (sym (c.in_ok-told.ensures n)) in
    let p = c.in_ok-find.ensures.read mark t tells stands in
    let trees : c.find.new.found.trees.items ≡ p.2.trees.0 = p.2.trees.1 ∙ ap (λ (xs : List number.Tree). xs ++ p.2.trees.0) c.new.ensures.items in
    let places = p.2.places ∙ ap (λ (ns : List ℕ). ns ++ places_from 0 (nodes_in p.0.datum)) c.new-2.ensures.items ∙ sym (hole_places_are p.0.datum) in
    (p.0, p.1, (subst (λ (ns : List number.Tree). AllMatch (StandsFor w) ns p.0.holes) (sym trees) p.2.trees.2, places))

pub returns-clause-named : goal.returns-clause-named
returns-clause-named c = λ region can.
    c.in_ok-find.ensures.named region can (subst (AllNamed c.args.work.now region) (sym c.new.ensures.items) tt)

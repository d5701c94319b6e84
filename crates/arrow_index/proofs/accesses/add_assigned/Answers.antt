use Rattle.std.proofs.Common.{◌++◌, ap, ◌∙◌, subst}
use Rattle.scheme_model.specs.Ident.{symbol_of}
use Rattle.scheme_model.specs.Live.{any_name, no_hole}
use Rattle.scheme_model.specs.ProgramArrows.{places_at}
use Rattle.scheme_model.specs.Trees.{map_tree}
use Rattle.scheme_model.specs.Accesses.{assigned_in}
use Rattle.program_leaves.specs.Leaves.{seen_of, IsSeen}
use Rattle.program_leaves.specs.declared.leaves.Leaf.{Leaf}
use Rattle.arrow_index.proofs.AccessLaws.{quoted_assigned, no_more, some_more}
use Rattle.arrow_index.proofs.accesses.add_assigned.Goals as goal

pub returns-in_ok-add_place-in-Assigns : goal.returns-in_ok-add_place-in-Assigns
returns-in_ok-add_place-in-Assigns c = λ w ls is.
    let l = c.args.leaf.now in
    let at = subst (λ (x : Leaf). IsSeen w l.at.unit l.at.form (seen_of x) ls) c.in-Assigns.is is in
    some_more c.args.places.now.items c.add_place.new.places.items (places_at at.0.occ) (assigned_in ls) (c.in_ok-add_place-in-Assigns.ensures ∙ ap (λ o. c.args.places.now.items ++ places_at o) at.2.place) (ap assigned_in at.1)

pub returns-in-Binds : goal.returns-in-Binds
returns-in-Binds c = λ w ls is.
    let l = c.args.leaf.now in
    let at = subst (λ (x : Leaf). IsSeen w l.at.unit l.at.form (seen_of x) ls) c.in-Binds.is is in
    no_more c.args.places.now.items (assigned_in ls) (ap assigned_in at.1)

pub returns-in-Uses : goal.returns-in-Uses
returns-in-Uses c = λ w ls is.
    let l = c.args.leaf.now in
    let at = subst (λ (x : Leaf). IsSeen w l.at.unit l.at.form (seen_of x) ls) c.in-Uses.is is in
    no_more c.args.places.now.items (assigned_in ls) (ap assigned_in at.1)

pub returns-in-Quoted : goal.returns-in-Quoted
returns-in-Quoted c = λ w ls is.
    let l = c.args.leaf.now in
    let at = subst (λ (x : Leaf). IsSeen w l.at.unit l.at.form (seen_of x) ls) c.in-Quoted.is is in
    no_more c.args.places.now.items (assigned_in ls) (ap assigned_in at.2 ∙ quoted_assigned any_name (map_tree symbol_of at.0))

pub returns-in-Holed : goal.returns-in-Holed
returns-in-Holed c = λ w ls is.
    let l = c.args.leaf.now in
    let at = subst (λ (x : Leaf). IsSeen w l.at.unit l.at.form (seen_of x) ls) c.in-Holed.is is in
    no_more c.args.places.now.items (assigned_in ls) (ap assigned_in at.2 ∙ quoted_assigned no_hole at.0)

pub returns-in-Defines : goal.returns-in-Defines
returns-in-Defines c = λ w ls is.
    let l = c.args.leaf.now in
    let at = subst (λ (x : Leaf). IsSeen w l.at.unit l.at.form (seen_of x) ls) c.in-Defines.is is in
    no_more c.args.places.now.items (assigned_in ls) (ap assigned_in at.1)

use Rattle.std.proofs.Common.{List, Bool, sym, ap, ◌∙◌, subst}
use Rattle.std.specs.Prelude.{◌||◌}
use Rattle.std.specs.BTreeSet.{contains}
use Rattle.scheme_model.specs.Ident.{symbol_of}
use Rattle.scheme_model.specs.Live as live
use Rattle.scheme_model.specs.ProgramArrows.{any, is_occ, leaf_at}
use Rattle.syntax_tree.specs.declared.rules.Named.{Named}
use Rattle.program_leaves.specs.declared.leaves.Leaf.{Leaf}
use Rattle.program_leaves.specs.Leaves.{seen_of, IsSeen}
use Rattle.program_leaves.specs.Placed.{occ_cmp}
use Rattle.program_leaves.proofs.LiveLaws.{any_one, or_none, quoted_law, holed_law}
use Rattle.program_leaves.proofs.living.add_live_leaf.Goals as goal

pub returns-in_ok-add_live-in-Binds : goal.returns-in_ok-add_live-in-Binds
returns-in_ok-add_live-in-Binds c = λ ls is o.
    let l = c.args.leaf.now in
    let w = c.args.work.now in
    let at = subst (λ (x : Leaf). IsSeen w l.at.unit l.at.form (seen_of x) ls) c.in-Binds.is is in
    let old = contains occ_cmp c.args.live.now o in
    c.in_ok-add_live-in-Binds.ensures o ∙ ap (λ (b : Bool). old || b) (ap (is_occ o) at.2.place ∙ sym (any_one (leaf_at o) (live.Binds at.0)) ∙ ap (any (leaf_at o)) (sym at.1))

pub returns-in_ok-add_live-in-Uses : goal.returns-in_ok-add_live-in-Uses
returns-in_ok-add_live-in-Uses c = λ ls is o.
    let l = c.args.leaf.now in
    let w = c.args.work.now in
    let at = subst (λ (x : Leaf). IsSeen w l.at.unit l.at.form (seen_of x) ls) c.in-Uses.is is in
    let old = contains occ_cmp c.args.live.now o in
    c.in_ok-add_live-in-Uses.ensures o ∙ ap (λ (b : Bool). old || b) (ap (is_occ o) at.2.place ∙ sym (any_one (leaf_at o) (live.Uses at.0)) ∙ ap (any (leaf_at o)) (sym at.1))

pub returns-in_ok-add_live-in-Assigns : goal.returns-in_ok-add_live-in-Assigns
returns-in_ok-add_live-in-Assigns c = λ ls is o.
    let l = c.args.leaf.now in
    let w = c.args.work.now in
    let at = subst (λ (x : Leaf). IsSeen w l.at.unit l.at.form (seen_of x) ls) c.in-Assigns.is is in
    let old = contains occ_cmp c.args.live.now o in
    c.in_ok-add_live-in-Assigns.ensures o ∙ ap (λ (b : Bool). old || b) (ap (is_occ o) at.2.place ∙ sym (any_one (leaf_at o) (live.Assigns at.0)) ∙ ap (any (leaf_at o)) (sym at.1))

pub names_of-requires : goal.names_of-requires
names_of-requires c =
    let l = c.args.leaf.now in
    let w = c.args.work.now in
    let at = subst (λ (x : Leaf). IsSeen w l.at.unit l.at.form (seen_of x) c.requires.0) c.in-Quoted.is c.requires.1 in
    (at.0, at.1)

pub returns-in_ok-add_live_names-in-Quoted : goal.returns-in_ok-add_live_names-in-Quoted
returns-in_ok-add_live_names-in-Quoted c = λ ls is o.
    let l = c.args.leaf.now in
    let w = c.args.work.now in
    let at = subst (λ (x : Leaf). IsSeen w l.at.unit l.at.form (seen_of x) ls) c.in-Quoted.is is in
    let old = contains occ_cmp c.args.live.now o in
    let law = quoted_law w.symbols symbol_of o at.0 c.in_ok-names-in-Quoted.names.items (c.in_ok-names-in-Quoted.ensures at.0 at.1) in
    let seen = ap (λ (ns : List Named). any (λ (n : Named). is_occ o n.occ) ns) c.as_slice.ensures.value in
    c.in_ok-add_live_names-in-Quoted.ensures o ∙ ap (λ (b : Bool). old || b) (seen ∙ law ∙ ap (any (leaf_at o)) (sym at.2))

pub outside-requires : goal.outside-requires
outside-requires c =
    let l = c.args.leaf.now in
    let w = c.args.work.now in
    let at = subst (λ (x : Leaf). IsSeen w l.at.unit l.at.form (seen_of x) c.requires.0) c.in-Holed.is c.requires.1 in
    (at.0, at.1)

pub returns-in_ok-add_live_names-in-Holed : goal.returns-in_ok-add_live_names-in-Holed
returns-in_ok-add_live_names-in-Holed c = λ ls is o.
    let l = c.args.leaf.now in
    let w = c.args.work.now in
    let at = subst (λ (x : Leaf). IsSeen w l.at.unit l.at.form (seen_of x) ls) c.in-Holed.is is in
    let old = contains occ_cmp c.args.live.now o in
    let law = holed_law o at.0 c.in_ok-names-in-Holed.names.items (c.in_ok-names-in-Holed.ensures at.0 at.1) in
    let seen = ap (λ (ns : List Named). any (λ (n : Named). is_occ o n.occ) ns) c.as_slice-in-Holed.ensures.value in
    c.in_ok-add_live_names-in-Holed.ensures o ∙ ap (λ (b : Bool). old || b) (seen ∙ law ∙ ap (any (leaf_at o)) (sym at.2))

pub returns-in-Defines : goal.returns-in-Defines
returns-in-Defines c = λ ls is o.
    let l = c.args.leaf.now in
    let w = c.args.work.now in
    let at = subst (λ (x : Leaf). IsSeen w l.at.unit l.at.form (seen_of x) ls) c.in-Defines.is is in
    let old = contains occ_cmp c.args.live.now o in
    or_none old ∙ ap (λ (b : Bool). old || b) (ap (any (leaf_at o)) (sym at.1))

use Rattle.std.proofs.Common.{◌≡◌, List, sym, ap, ◌∙◌, subst, arith}
use Rattle.scheme_model.specs.Ident.{Ident as Identifier}
use Rattle.scheme_model.specs.Requirements.{LibraryName}
use Rattle.scheme_model.specs.Trees.{Tree, Tail, list, tree, proper}
use Rattle.form_parts.proofs.LeafLaws.{first_there, first_gone}
use Rattle.syntax_tree.proofs.Looking.{no_end, some_end}
use Rattle.noted_steps.specs.Asked.{clause_asked, names_asked}
use Rattle.noted_steps.specs.Standing.{Stands}
use Rattle.noted_steps.proofs.LibraryLaws.{no_list, clause_dotted, clause_first}
use Rattle.noted_steps.proofs.libraries.note_clause.Goals as goal

pub returns-then-is_some-clause-noted : goal.returns-then-is_some-clause-noted
returns-then-is_some-clause-noted c = λ known ls s t knows e stands.
    let l = c.in-List.ensures.look t stands in
    let d = some_end c.args.work.now c.in-List.end l.1 (sym c.is_some.ensures ∙ c.if-is_some.true) l.5 in
    let none = no_list t (list l.0 l.1 l.2) l.3 (ap (λ (x : Tail Identifier). clause_asked (list l.0 x l.2)) d.1 ∙ clause_dotted l.0 d.0 l.2) in
    subst (λ (ns : List LibraryName). Stands c.args.work.now c.args.units.now ls (names_asked known ns s)) (sym none) e

pub returns-in-None-clause-noted : goal.returns-in-None-clause-noted
returns-in-None-clause-noted c = λ known ls s t knows e stands.
    let w = c.args.work.now in
    let l = c.in-List.ensures.look t stands in
    let none = no_end w c.in-List.end l.1 (sym c.is_some.ensures ∙ c.if-is_some.false) l.5 in
    let gone = first_gone w c.in-List.parts.now l.0 c.in-None.ensures.value l.4 in
    let empty = no_list t (list l.0 l.1 l.2) l.3 (λ j. clause_asked (list (gone j) (none j) l.2)) in
    subst (λ (ns : List LibraryName). Stands w c.args.units.now ls (names_asked known ns s)) (sym empty) e

pub depth-depth-requires : goal.depth-depth-requires
depth-depth-requires c =
    let w = c.args.work.now in
    let l = c.in-List.ensures.look c.requires.0 c.requires.1 in
    let p = first_there w c.in-List.parts.now c.in-Some.requirement.now l.0 c.in-Some.ensures.value l.4 in
    (p.0, p.3)

pub note_requirement-requires : goal.note_requirement-requires
note_requirement-requires c =
    let w = c.args.work.now in
    let l = c.in-List.ensures.look c.requires.0 c.requires.1 in
    let p = first_there w c.in-List.parts.now c.in-Some.requirement.now l.0 c.in-Some.ensures.value l.4 in
    let deep = c.depth-depth.ensures p.0 p.3 in
    (p.0, p.3, omega (arith, deep))

pub returns-in-Some-clause-noted : goal.returns-in-Some-clause-noted
returns-in-Some-clause-noted c = λ known ls s t knows e stands.
    let w = c.args.work.now in
    let l = c.in-List.ensures.look t stands in
    let none = no_end w c.in-List.end l.1 (sym c.is_some.ensures ∙ c.if-is_some.false) l.5 in
    let p = first_there w c.in-List.parts.now c.in-Some.requirement.now l.0 c.in-Some.ensures.value l.4 in
    let split = p.2 in
    let is : clause_asked t ≡ clause_asked (list (tree p.0 p.1) proper l.2) = ap clause_asked l.3 ∙ (λ j. clause_asked (list (split j) (none j) l.2)) in
    subst (λ (ns : List LibraryName). Stands w c.note_requirement.new.units ls (names_asked known ns s)) (sym (is ∙ clause_first p.0 p.1 l.2)) (c.note_requirement.ensures.noted known ls s p.0 knows e p.3)

pub returns-in-Name-clause-noted : goal.returns-in-Name-clause-noted
returns-in-Name-clause-noted c = λ known ls s t knows e stands.
    let l = c.in-Name.ensures.look t stands in
    subst (λ (x : Tree Identifier). Stands c.args.work.now c.args.units.now ls (names_asked known (clause_asked x) s)) (sym l.2) e

pub returns-in-Atom-clause-noted : goal.returns-in-Atom-clause-noted
returns-in-Atom-clause-noted c = λ known ls s t knows e stands.
    let l = c.in-Atom.ensures.look t stands in
    subst (λ (x : Tree Identifier). Stands c.args.work.now c.args.units.now ls (names_asked known (clause_asked x) s)) (sym l.2) e

pub returns-in-Vector-clause-noted : goal.returns-in-Vector-clause-noted
returns-in-Vector-clause-noted c = λ known ls s t knows e stands.
    let l = c.in-Vector.ensures.look t stands in
    subst (λ (x : Tree Identifier). Stands c.args.work.now c.args.units.now ls (names_asked known (clause_asked x) s)) (sym l.2) e

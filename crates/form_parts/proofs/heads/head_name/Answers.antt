use Rattle.std.proofs.Common.{None, sym, subst}
use Rattle.std.specs.Prelude.{Option}
use Rattle.scheme_model.specs.Trees.{Tree}
use Rattle.scheme_model.specs.ExpansionFaults.{Named}
use Rattle.scheme_model.specs.Ident.{Ident as Identifier}
use Rattle.core_forms.specs.Parts.{IsNameIfAny}
use Rattle.form_parts.specs.FormsSeen.{head_name_of}
use Rattle.form_parts.proofs.LeafLaws.{first_there, first_gone, head_first, head_none}
use Rattle.form_parts.proofs.heads.head_name.Goals as goal

pub name_at-requires : goal.name_at-requires
name_at-requires c =
    let w = c.args.work.now in
    let q = c.in-List.ensures.look c.requires.0 c.requires.1 in
    let p = first_there w c.in-List.items.now c.in-Some.first.now q.0 c.in-Some.ensures.value q.4 in
    (p.0, p.3)

pub returns-in-None : goal.returns-in-None
returns-in-None c = λ t h.
    let w = c.args.work.now in
    let q = c.in-List.ensures.look t h in
    let none = head_none q.0 q.1 q.2 (first_gone w c.in-List.items.now q.0 c.in-None.ensures.value q.4) in
    subst (λ (x : Tree Identifier). IsNameIfAny w None (head_name_of x)) (sym q.3) (subst (λ (o : Option (Named Identifier)). IsNameIfAny w None o) (sym none) tt)

pub returns-in-Some : goal.returns-in-Some
returns-in-Some c = λ t h.
    let w = c.args.work.now in
    let q = c.in-List.ensures.look t h in
    let p = first_there w c.in-List.items.now c.in-Some.first.now q.0 c.in-Some.ensures.value q.4 in
    subst (λ (x : Tree Identifier). IsNameIfAny w c.name_at.result (head_name_of x)) (sym q.3)
    (subst (λ (o : Option (Named Identifier)). IsNameIfAny w c.name_at.result o) (sym (head_first q.0 p.1 p.0 q.1 q.2 p.2)) (c.name_at.ensures p.0 p.3))

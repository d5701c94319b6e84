use Rattle.std.proofs.Common.{sym, ap, ◌∙◌, subst, refl, List, Ok}
use Rattle.scheme_model.specs.Trees.{Trees}
use Rattle.scheme_model.specs.ExpansionFaults.{◌>>◌}
use Rattle.scheme_model.specs.Ident.{Ident as Identifier, same_ident}
use Rattle.core_forms.specs.declared.shape.NamePart.{NamePart}
use Rattle.scheme_model.specs.Shapes.{values_of, formals_of, one_of, distinct}
use Rattle.core_forms.specs.Parts.{AllMatch, IsName}
use Rattle.core_forms.specs.Ends.{AreValues}
use Rattle.core_forms.proofs.Reading.{then_err, then_ok}
use Rattle.core_forms.proofs.definition.values_of.Goals as goal

pub returns-in_err-formals-in-Parts-clause-read : goal.returns-in_err-formals-in-Parts-clause-read
returns-in_err-formals-in-Parts-clause-read c = λ ts tail stands ends.
    let w = c.args.work.now in
    let l = c.in-Parts.ensures.read ts stands in
    then_err w (AreValues w) (formals_of l.0) (λ f. one_of l.1 tail >> λ v. distinct same_ident f.names >> λ u. Ok (f, v)) (values_of same_ident ts tail) c.from_residual.result c.in_err-formals-in-Parts.field-0.0
    (ap (λ (x : Trees Identifier). values_of same_ident x tail) l.2) c.from_residual.ensures.1 (c.in_err-formals-in-Parts.ensures l.0 l.3)

pub returns-in_err-value-in-Parts-clause-read : goal.returns-in_err-value-in-Parts-clause-read
returns-in_err-value-in-Parts-clause-read c = λ ts tail stands ends.
    let w = c.args.work.now in
    let l = c.in-Parts.ensures.read ts stands in
    let f = c.in_ok-formals-in-Parts.ensures l.0 l.3 in
    then_err w (AreValues w) (one_of l.1 tail) (λ v. distinct same_ident f.0.names >> λ u. Ok (f.0, v)) (values_of same_ident ts tail) c.from_residual-in_err-value-in-Parts.result c.in_err-value-in-Parts.field-0.0
    (ap (λ (x : Trees Identifier). values_of same_ident x tail) l.2 ∙ then_ok (formals_of l.0) (λ f. one_of l.1 tail >> λ v. distinct same_ident f.names >> λ u. Ok (f, v)) f.0 f.1) c.from_residual-in_err-value-in-Parts.ensures.1 (c.in_err-value-in-Parts.ensures.read l.1 tail l.4 ends)

pub returns-in_err-distinct-in-Parts-clause-read : goal.returns-in_err-distinct-in-Parts-clause-read
returns-in_err-distinct-in-Parts-clause-read c = λ ts tail stands ends.
    let w = c.args.work.now in
    let l = c.in-Parts.ensures.read ts stands in
    let f = c.in_ok-formals-in-Parts.ensures l.0 l.3 in
    let v = c.in_ok-value-in-Parts.ensures.read l.1 tail l.4 ends in
    let are = subst (λ (ns : List NamePart). AllMatch (IsName w) ns f.0.names) (sym c.as_slice.ensures.value) f.2.names in
    then_err w (AreValues w) (distinct same_ident f.0.names) (λ u. Ok (f.0, v.0)) (values_of same_ident ts tail) c.from_residual-in_err-distinct-in-Parts.result c.in_err-distinct-in-Parts.field-0.0
    (ap (λ (x : Trees Identifier). values_of same_ident x tail) l.2 ∙ then_ok (formals_of l.0) (λ f. one_of l.1 tail >> λ v. distinct same_ident f.names >> λ u. Ok (f, v)) f.0 f.1 ∙ then_ok (one_of l.1 tail) (λ v. distinct same_ident f.0.names >> λ u. Ok (f.0, v)) v.0 v.1) c.from_residual-in_err-distinct-in-Parts.ensures.1 (c.in_err-distinct-in-Parts.ensures f.0.names are)

pub returns-in_ok-distinct-in-Parts-clause-read : goal.returns-in_ok-distinct-in-Parts-clause-read
returns-in_ok-distinct-in-Parts-clause-read c = λ ts tail stands ends.
    let w = c.args.work.now in
    let l = c.in-Parts.ensures.read ts stands in
    let f = c.in_ok-formals-in-Parts.ensures l.0 l.3 in
    let v = c.in_ok-value-in-Parts.ensures.read l.1 tail l.4 ends in
    let are = subst (λ (ns : List NamePart). AllMatch (IsName w) ns f.0.names) (sym c.as_slice.ensures.value) f.2.names in
    let u = c.in_ok-distinct-in-Parts.ensures f.0.names are in
    ((f.0, v.0), ap (λ (x : Trees Identifier). values_of same_ident x tail) l.2 ∙ then_ok (formals_of l.0) (λ f. one_of l.1 tail >> λ v. distinct same_ident f.names >> λ u. Ok (f, v)) f.0 f.1 ∙ then_ok (one_of l.1 tail) (λ v. distinct same_ident f.0.names >> λ u. Ok (f.0, v)) v.0 v.1 ∙ then_ok (distinct same_ident f.0.names) (λ u. Ok (f.0, v.0)) u.0 u.1, (_, (_, refl, f.2, v.2)))

pub returns-in_ok-distinct-in-Parts-clause-named : goal.returns-in_ok-distinct-in-Parts-clause-named
returns-in_ok-distinct-in-Parts-clause-named c = λ region named. c.in_ok-value-in-Parts.ensures.named region (c.in-Parts.ensures.named region named).1

use Rattle.std.proofs.Common.{sym, ap, ◌∙◌, subst, refl, List, Ok}
use Rattle.scheme_model.specs.Trees.{Trees}
use Rattle.scheme_model.specs.ExpansionFaults.{◌>>◌}
use Rattle.scheme_model.specs.Ident.{Ident as Identifier, same_ident}
use Rattle.core_forms.specs.declared.shape.NamePart.{NamePart}
use Rattle.scheme_model.specs.Shapes.{Procedure, procedure_of, name_of, formals_in, some_of, distinct}
use Rattle.core_forms.specs.Parts.{AllMatch, IsName}
use Rattle.core_forms.specs.Ends.{IsDefinition}
use Rattle.core_forms.proofs.Reading.{then_err, then_ok}
use Rattle.core_forms.proofs.definition.procedure_of.Goals as goal

pub returns-in_err-name-in-Parts-clause-read : goal.returns-in_err-name-in-Parts-clause-read
returns-in_err-name-in-Parts-clause-read c = λ us rest ts tail parts last stands ends.
    let w = c.args.work.now in
    let l = c.in-Parts.ensures.read us parts in
    then_err w (IsDefinition w) (name_of l.0) (λ n. formals_in l.1 rest >> λ f. some_of ts tail >> λ b. distinct same_ident f.names >> λ u. Ok (Procedure n (record { formals = f; body = b }))) (procedure_of same_ident (us, rest) ts tail) c.from_residual.result c.in_err-name-in-Parts.field-0.0
    (ap (λ (x : Trees Identifier). procedure_of same_ident (x, rest) ts tail) l.2) c.from_residual.ensures.1 (c.in_err-name-in-Parts.ensures l.0 l.3)

pub returns-in_err-formals-in-Parts-clause-read : goal.returns-in_err-formals-in-Parts-clause-read
returns-in_err-formals-in-Parts-clause-read c = λ us rest ts tail parts last stands ends.
    let w = c.args.work.now in
    let l = c.in-Parts.ensures.read us parts in
    let n = c.in_ok-name-in-Parts.ensures l.0 l.3 in
    then_err w (IsDefinition w) (formals_in l.1 rest) (λ f. some_of ts tail >> λ b. distinct same_ident f.names >> λ u. Ok (Procedure n.0 (record { formals = f; body = b }))) (procedure_of same_ident (us, rest) ts tail) c.from_residual-in_err-formals-in-Parts.result c.in_err-formals-in-Parts.field-0.0
    (ap (λ (x : Trees Identifier). procedure_of same_ident (x, rest) ts tail) l.2 ∙ then_ok (name_of l.0) (λ n. formals_in l.1 rest >> λ f. some_of ts tail >> λ b. distinct same_ident f.names >> λ u. Ok (Procedure n (record { formals = f; body = b }))) n.0 n.1) c.from_residual-in_err-formals-in-Parts.ensures.1 (c.in_err-formals-in-Parts.ensures l.1 rest l.4 last)

pub returns-in_err-body-in-Parts-clause-read : goal.returns-in_err-body-in-Parts-clause-read
returns-in_err-body-in-Parts-clause-read c = λ us rest ts tail parts last stands ends.
    let w = c.args.work.now in
    let l = c.in-Parts.ensures.read us parts in
    let n = c.in_ok-name-in-Parts.ensures l.0 l.3 in
    let f = c.in_ok-formals-in-Parts.ensures l.1 rest l.4 last in
    then_err w (IsDefinition w) (some_of ts tail) (λ b. distinct same_ident f.0.names >> λ u. Ok (Procedure n.0 (record { formals = f.0; body = b }))) (procedure_of same_ident (us, rest) ts tail) c.from_residual-in_err-body-in-Parts.result c.in_err-body-in-Parts.field-0.0
    (ap (λ (x : Trees Identifier). procedure_of same_ident (x, rest) ts tail) l.2 ∙ then_ok (name_of l.0) (λ n. formals_in l.1 rest >> λ f. some_of ts tail >> λ b. distinct same_ident f.names >> λ u. Ok (Procedure n (record { formals = f; body = b }))) n.0 n.1 ∙ then_ok (formals_in l.1 rest) (λ f. some_of ts tail >> λ b. distinct same_ident f.names >> λ u. Ok (Procedure n.0 (record { formals = f; body = b }))) f.0 f.1) c.from_residual-in_err-body-in-Parts.ensures.1 (c.in_err-body-in-Parts.ensures.read ts tail stands ends)

pub returns-in_err-distinct-in-Parts-clause-read : goal.returns-in_err-distinct-in-Parts-clause-read
returns-in_err-distinct-in-Parts-clause-read c = λ us rest ts tail parts last stands ends.
    let w = c.args.work.now in
    let l = c.in-Parts.ensures.read us parts in
    let n = c.in_ok-name-in-Parts.ensures l.0 l.3 in
    let f = c.in_ok-formals-in-Parts.ensures l.1 rest l.4 last in
    let b = c.in_ok-body-in-Parts.ensures.read ts tail stands ends in
    let are = subst (λ (ns : List NamePart). AllMatch (IsName w) ns f.0.names) (sym c.as_slice.ensures.value) f.2.names in
    then_err w (IsDefinition w) (distinct same_ident f.0.names) (λ u. Ok (Procedure n.0 (record { formals = f.0; body = b.0 }))) (procedure_of same_ident (us, rest) ts tail) c.from_residual-in_err-distinct-in-Parts.result c.in_err-distinct-in-Parts.field-0.0
    (ap (λ (x : Trees Identifier). procedure_of same_ident (x, rest) ts tail) l.2 ∙ then_ok (name_of l.0) (λ n. formals_in l.1 rest >> λ f. some_of ts tail >> λ b. distinct same_ident f.names >> λ u. Ok (Procedure n (record { formals = f; body = b }))) n.0 n.1 ∙ then_ok (formals_in l.1 rest) (λ f. some_of ts tail >> λ b. distinct same_ident f.names >> λ u. Ok (Procedure n.0 (record { formals = f; body = b }))) f.0 f.1 ∙ then_ok (some_of ts tail) (λ b. distinct same_ident f.0.names >> λ u. Ok (Procedure n.0 (record { formals = f.0; body = b }))) b.0 b.1) c.from_residual-in_err-distinct-in-Parts.ensures.1 (c.in_err-distinct-in-Parts.ensures f.0.names are)

pub returns-in_ok-distinct-in-Parts-clause-read : goal.returns-in_ok-distinct-in-Parts-clause-read
returns-in_ok-distinct-in-Parts-clause-read c = λ us rest ts tail parts last stands ends.
    let w = c.args.work.now in
    let l = c.in-Parts.ensures.read us parts in
    let n = c.in_ok-name-in-Parts.ensures l.0 l.3 in
    let f = c.in_ok-formals-in-Parts.ensures l.1 rest l.4 last in
    let b = c.in_ok-body-in-Parts.ensures.read ts tail stands ends in
    let are = subst (λ (ns : List NamePart). AllMatch (IsName w) ns f.0.names) (sym c.as_slice.ensures.value) f.2.names in
    let u = c.in_ok-distinct-in-Parts.ensures f.0.names are in
    ((Procedure n.0 (record { formals = f.0; body = b.0 })), ap (λ (x : Trees Identifier). procedure_of same_ident (x, rest) ts tail) l.2 ∙ then_ok (name_of l.0) (λ n. formals_in l.1 rest >> λ f. some_of ts tail >> λ b. distinct same_ident f.names >> λ u. Ok (Procedure n (record { formals = f; body = b }))) n.0 n.1 ∙ then_ok (formals_in l.1 rest) (λ f. some_of ts tail >> λ b. distinct same_ident f.names >> λ u. Ok (Procedure n.0 (record { formals = f; body = b }))) f.0 f.1 ∙ then_ok (some_of ts tail) (λ b. distinct same_ident f.0.names >> λ u. Ok (Procedure n.0 (record { formals = f.0; body = b }))) b.0 b.1 ∙ then_ok (distinct same_ident f.0.names) (λ u. Ok (Procedure n.0 (record { formals = f.0; body = b.0 }))) u.0 u.1, (_, (_, refl, n.2, record { formals = f.2; body = b.2 })))

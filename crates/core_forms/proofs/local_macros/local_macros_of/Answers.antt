use Rattle.std.proofs.Common.{sym, ap, ◌∙◌, subst, refl, List, Ok}
use Rattle.scheme_model.specs.Trees.{Trees}
use Rattle.scheme_model.specs.ExpansionFaults.{◌>>◌}
use Rattle.scheme_model.specs.Ident.{Ident as Identifier, same_ident}
use Rattle.core_forms.specs.declared.shape.NamePart.{NamePart}
use Rattle.std.proofs.Common.{map}
use Rattle.core_forms.specs.declared.shape.LocalMacro.{LocalMacro}
use Rattle.scheme_model.specs.Shapes.{local_macros_of, some_of, distinct}
use Rattle.core_forms.specs.Parts.{AllMatch, IsName}
use Rattle.core_forms.specs.Steps.{bindings_of_list}
use Rattle.core_forms.specs.Ends.{IsLocal}
use Rattle.core_forms.proofs.Distinct.{macro_names_are, macros_are, rules_among, local_is}
use Rattle.core_forms.proofs.Reading.{then_err, then_ok}
use Rattle.core_forms.proofs.local_macros.local_macros_of.Goals as goal

pub returns-in_err-macros-in-Parts-clause-read : goal.returns-in_err-macros-in-Parts-clause-read
returns-in_err-macros-in-Parts-clause-read c = λ ts tail stands ends.
    let w = c.args.work.now in
    let l = c.in-Parts.ensures.read ts stands in
    then_err w (IsLocal w) (bindings_of_list l.0) (λ m. some_of l.1 tail >> λ b. distinct same_ident (map (λ p. p.0) m) >> λ u. Ok (record { names = map (λ p. p.0) m; rules = rules_among m; body = b })) (local_macros_of same_ident ts tail) c.from_residual.result c.in_err-macros-in-Parts.field-0.0
    (ap (λ (x : Trees Identifier). local_macros_of same_ident x tail) l.2 ∙ local_is l.0 l.1 tail) c.from_residual.ensures.1 (c.in_err-macros-in-Parts.ensures.read l.0 l.3)

pub returns-in_err-body-in-Parts-clause-read : goal.returns-in_err-body-in-Parts-clause-read
returns-in_err-body-in-Parts-clause-read c = λ ts tail stands ends.
    let w = c.args.work.now in
    let l = c.in-Parts.ensures.read ts stands in
    let m = c.in_ok-macros-in-Parts.ensures.read l.0 l.3 in
    then_err w (IsLocal w) (some_of l.1 tail) (λ b. distinct same_ident (map (λ p. p.0) m.0) >> λ u. Ok (record { names = map (λ p. p.0) m.0; rules = rules_among m.0; body = b })) (local_macros_of same_ident ts tail) c.from_residual-in_err-body-in-Parts.result c.in_err-body-in-Parts.field-0.0
    (ap (λ (x : Trees Identifier). local_macros_of same_ident x tail) l.2 ∙ local_is l.0 l.1 tail ∙ then_ok (bindings_of_list l.0) (λ m. some_of l.1 tail >> λ b. distinct same_ident (map (λ p. p.0) m) >> λ u. Ok (record { names = map (λ p. p.0) m; rules = rules_among m; body = b })) m.0 m.1) c.from_residual-in_err-body-in-Parts.ensures.1 (c.in_err-body-in-Parts.ensures.read l.1 tail l.4 ends)

pub returns-in_err-distinct-in-Parts-clause-read : goal.returns-in_err-distinct-in-Parts-clause-read
returns-in_err-distinct-in-Parts-clause-read c = λ ts tail stands ends.
    let w = c.args.work.now in
    let l = c.in-Parts.ensures.read ts stands in
    let m = c.in_ok-macros-in-Parts.ensures.read l.0 l.3 in
    let b = c.in_ok-body-in-Parts.ensures.read l.1 tail l.4 ends in
    let are = subst (λ (ns : List NamePart). AllMatch (IsName w) ns (map (λ p. p.0) m.0)) (sym (c.as_slice-in-Parts.ensures.value ∙ c.in_ok-names-in-Parts.ensures ∙ ap (map (λ (x : LocalMacro). x.name)) c.as_slice.ensures.value)) (macro_names_are w _ m.0 m.2) in
    then_err w (IsLocal w) (distinct same_ident (map (λ p. p.0) m.0)) (λ u. Ok (record { names = map (λ p. p.0) m.0; rules = rules_among m.0; body = b.0 })) (local_macros_of same_ident ts tail) c.from_residual-in_err-distinct-in-Parts.result c.in_err-distinct-in-Parts.field-0.0
    (ap (λ (x : Trees Identifier). local_macros_of same_ident x tail) l.2 ∙ local_is l.0 l.1 tail ∙ then_ok (bindings_of_list l.0) (λ m. some_of l.1 tail >> λ b. distinct same_ident (map (λ p. p.0) m) >> λ u. Ok (record { names = map (λ p. p.0) m; rules = rules_among m; body = b })) m.0 m.1 ∙ then_ok (some_of l.1 tail) (λ b. distinct same_ident (map (λ p. p.0) m.0) >> λ u. Ok (record { names = map (λ p. p.0) m.0; rules = rules_among m.0; body = b })) b.0 b.1) c.from_residual-in_err-distinct-in-Parts.ensures.1 (c.in_err-distinct-in-Parts.ensures (map (λ p. p.0) m.0) are)

pub returns-in_ok-distinct-in-Parts-clause-read : goal.returns-in_ok-distinct-in-Parts-clause-read
returns-in_ok-distinct-in-Parts-clause-read c = λ ts tail stands ends.
    let w = c.args.work.now in
    let l = c.in-Parts.ensures.read ts stands in
    let m = c.in_ok-macros-in-Parts.ensures.read l.0 l.3 in
    let b = c.in_ok-body-in-Parts.ensures.read l.1 tail l.4 ends in
    let are = subst (λ (ns : List NamePart). AllMatch (IsName w) ns (map (λ p. p.0) m.0)) (sym (c.as_slice-in-Parts.ensures.value ∙ c.in_ok-names-in-Parts.ensures ∙ ap (map (λ (x : LocalMacro). x.name)) c.as_slice.ensures.value)) (macro_names_are w _ m.0 m.2) in
    let u = c.in_ok-distinct-in-Parts.ensures (map (λ p. p.0) m.0) are in
    ((record { names = map (λ p. p.0) m.0; rules = rules_among m.0; body = b.0 }), ap (λ (x : Trees Identifier). local_macros_of same_ident x tail) l.2 ∙ local_is l.0 l.1 tail ∙ then_ok (bindings_of_list l.0) (λ m. some_of l.1 tail >> λ b. distinct same_ident (map (λ p. p.0) m) >> λ u. Ok (record { names = map (λ p. p.0) m; rules = rules_among m; body = b })) m.0 m.1 ∙ then_ok (some_of l.1 tail) (λ b. distinct same_ident (map (λ p. p.0) m.0) >> λ u. Ok (record { names = map (λ p. p.0) m.0; rules = rules_among m.0; body = b })) b.0 b.1 ∙ then_ok (distinct same_ident (map (λ p. p.0) m.0)) (λ u. Ok (record { names = map (λ p. p.0) m.0; rules = rules_among m.0; body = b.0 })) u.0 u.1, (_, (_, refl, macros_are w _ m.0 m.2, b.2)))

pub returns-in_ok-distinct-in-Parts-clause-named : goal.returns-in_ok-distinct-in-Parts-clause-named
returns-in_ok-distinct-in-Parts-clause-named c = λ region named.
    let r = c.in-Parts.ensures.named region named in
    (c.in_ok-macros-in-Parts.ensures.named region r.0, c.in_ok-body-in-Parts.ensures.named region r.1)

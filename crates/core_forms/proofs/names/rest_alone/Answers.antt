use Rattle.std.proofs.Common.{◌≡◌, List, [], ◌∷◌, ◌++◌, refl, sym, ap, ◌∙◌, subst, true, Ok}
use Rattle.scheme_model.specs.Trees.{name}
use Rattle.scheme_model.specs.Shapes.{name_of, formals_of}
use Rattle.core_forms.specs.declared.shape.NamePart.{NamePart}
use Rattle.core_forms.specs.Parts.{AllMatch, IsName, IsFormals}
use Rattle.core_forms.proofs.Reading.{then_err, then_ok}
use Rattle.core_forms.proofs.names.rest_alone.Goals as goal

pub name_of-requires : goal.name_of-requires
name_of-requires c = (name c.requires.0 c.requires.1, c.requires.2)

pub returns-in_err-name : goal.returns-in_err-name
returns-in_err-name c = λ i o stands.
    let w = c.args.work.now in
    then_err w (IsFormals w) (name_of (name i o)) (λ n. Ok (record { names = n ∷ []; rest = true })) (formals_of (name i o)) c.from_residual.result c.in_err-name.field-0.0
    refl c.from_residual.ensures.1 (c.in_err-name.ensures (name i o) stands)

pub returns : goal.returns
returns c = λ i o stands.
    let w = c.args.work.now in
    let n = c.in_ok-name.ensures (name i o) stands in
    let items : c.push.new.self.items ≡ c.in_ok-name.name ∷ [] = c.in_ok-push.ensures.items ∙ ap (λ (xs : List NamePart). xs ++ c.in_ok-name.name ∷ []) c.new-names.ensures.items in
    (record { names = n.0 ∷ []; rest = true }, then_ok (name_of (name i o)) (λ n. Ok (record { names = n ∷ []; rest = true })) n.0 n.1, record { names = subst (λ (xs : List NamePart). AllMatch (IsName w) xs (n.0 ∷ [])) (sym items) (n.2, tt); rest = refl })

use Rattle.std.proofs.Common.{◌≡◌, List, ◌∷◌, ◌++◌, map, take, sym, ap, ◌∙◌, subst, arith}
use Rattle.std.specs.Prelude.{filter_map}
use Rattle.std.proofs.lemmas.List.{take_all}
use Rattle.scheme_model.specs.Order.{record_names}
use Rattle.core_forms.specs.Parts.{AllMatch, IsName}
use Rattle.core_forms.specs.declared.shape.NamePart.{NamePart}
use Rattle.core_forms.specs.declared.shape.FieldShape.{FieldShape}
use Rattle.form_parts.proofs.SeenLaws.{names_match}
use Rattle.form_parts.proofs.records.Record.names.Goals as goal

pub returns : goal.returns
returns c = λ work r h.
    let s = c.args.self.now in
    let fs = s.fields.items in
    let all : take c.loop-field.field-index fs ≡ fs = take_all c.loop-field.field-index fs (omega (arith, c.loop-field-test.false, c.deref-field-items.ensures.len)) in
    let whole : c.add_modifiers.new.names.items ≡ s.name ∷ s.constructor ∷ s.predicate ∷ map (λ f. f.accessor) fs ++ filter_map (λ f. f.modifier) fs =
    c.in_ok-add_modifiers.ensures ∙ (λ j. (c.loop-field.invariant j) ++ filter_map (λ f. f.modifier) (c.deref.ensures.value j))
    ∙ ap (λ (l : List FieldShape). s.name ∷ s.constructor ∷ s.predicate ∷ map (λ f. f.accessor) l ++ filter_map (λ f. f.modifier) fs) all in
    subst (λ (l : List NamePart). AllMatch (IsName work) l (record_names r)) (sym whole) (names_match work s.name s.constructor s.predicate fs r h.type h.constructor h.predicate h.fields)

use Rattle.std.proofs.Common.{◌≡◌, sym, ap, ◌∙◌, List, subst}
use Rattle.std.specs.Prelude.{Option}
use Rattle.scheme_model.specs.Building.{value_of}
use Rattle.scheme_model.specs.Ident.{same_ident}
use Rattle.rules_build.specs.declared.values.Bound as code
use Rattle.rules_build.specs.declared.values.Value as code_value
use Rattle.rules_build.specs.declared.index.Index as code_index
use Rattle.rules_build.specs.Values.{IsFound, IsIndexOf, value_by_number}
use Rattle.rules_build.proofs.IndexLaws.{found_by_number}
use Rattle.rules_build.proofs.index.value_of.Goals as goal

pub returns-in-Few : goal.returns-in-Few
returns-in-Few c = λ work region bounds ms i apart is holds are.
    let few = subst (λ (x : code_index.Index). IsIndexOf bounds x) c.in-Few.is holds in
    let e : value_by_number bounds c.args.id ≡ c.first_of.result =
    ap (λ (bs : List code.Bound). value_by_number bs c.args.id) (sym few) ∙ sym c.first_of.ensures in
    subst (λ (o : Option code_value.Value). IsFound work region o (value_of same_ident ms i)) e (found_by_number work region apart c.args.id i is bounds ms are)

pub returns-in-Many : goal.returns-in-Many
returns-in-Many c = λ work region bounds ms i apart is holds are.
    let maps = subst (λ (x : code_index.Index). IsIndexOf bounds x) c.in-Many.is holds in
    let e : value_by_number bounds c.args.id ≡ c.copied.result = sym (maps.values c.args.id) ∙ sym c.get.ensures.value ∙ sym c.copied.ensures in
    subst (λ (o : Option code_value.Value). IsFound work region o (value_of same_ident ms i)) e (found_by_number work region apart c.args.id i is bounds ms are)

use Rattle.std.proofs.Common.{rules, ◌≡◌, Some, None, ◌∙◌}
use Rattle.base_library.specs.Texts.{names_of}
use Rattle.base_library.proofs.TextLaws.{by_name}
use Rattle.base_library.proofs.libraries.standard.Goals as goal

pub returns-in-None-clause-library : goal.returns-in-None-clause-library
returns-in-None-clause-library c = λ spelled h n is.
    let e : None ≡ names_of c.args.name.now = search rules in
    e ∙ by_name spelled h c.args.name.now n is

pub returns-in_ok-texts-in-Some-clause-library : goal.returns-in_ok-texts-in-Some-clause-library
returns-in_ok-texts-in-Some-clause-library c = λ spelled h n is.
    let e : Some c.in_ok-texts-in-Some.field-0 ≡ names_of c.args.name.now = search rules in
    e ∙ by_name spelled h c.args.name.now n is

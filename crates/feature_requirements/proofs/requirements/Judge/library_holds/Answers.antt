use Rattle.std.proofs.Common.{ap, ◌∙◌}
use Rattle.std.specs.BTreeSet.{contains_text}
use Rattle.feature_requirements.specs.Judged.{library_holds}
use Rattle.feature_requirements.proofs.JudgeLaws.{only_part, only_standing, known_name, unnamed, reads_err}
use Rattle.feature_requirements.proofs.requirements.Judge.library_holds.Goals as goal

pub library_name-requires : goal.library_name-requires
library_name-requires c = only_standing c.args.self.now.work.now c.args.parts.now _ c.requires.0 c.if-parts-ne1.false c.requires.1

pub returns-in_err-name : goal.returns-in_err-name
returns-in_err-name c = λ known ts knows h.
    let p = only_part c.args.self.now.work.now c.args.parts.now _ ts c.if-parts-ne1.false h in
    let e = c.in_err-name.field-0.0 in
    reads_err (λ b. b) c.from_residual.result e (library_holds known ts) c.from_residual.ensures.1 (unnamed known p.0 ts e p.1 (c.in_err-name.ensures p.0 p.2))

pub returns : goal.returns
returns c = λ known ts knows h.
    let p = only_part c.args.self.now.work.now c.args.parts.now _ ts c.if-parts-ne1.false h in
    let libraries = c.args.self.now.libraries.now in
    known_name libraries known p.0 ts c.in_ok-name.name _ knows p.1 (c.in_ok-name.ensures p.0 p.2) (c.contains.ensures ∙ ap (contains_text libraries) c.as_str.ensures.value)

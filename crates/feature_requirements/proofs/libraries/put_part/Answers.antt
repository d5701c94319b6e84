use Rattle.std.proofs.Common.{◌++◌, List, ℕ, string_bytes, ap, ◌∙◌}
use Rattle.scheme_model.specs.Requirements.{part_of}
use Rattle.scheme_model.specs.Ident.{symbol_of}
use Rattle.feature_requirements.proofs.JudgeLaws.{puts_err}
use Rattle.feature_requirements.proofs.libraries.put_part.Goals as goal

pub returns-in_err-written : goal.returns-in_err-written
returns-in_err-written c = λ t h.
    let e = c.in_err-written.field-0.0 in
    puts_err (string_bytes c.args.text.now) (string_bytes c.args.text.now) c.from_residual.result e (part_of symbol_of t) c.from_residual.ensures.1
    (c.in_err-written.ensures t h)

pub returns : goal.returns
returns c = λ t h.
    let p = c.in_ok-written.ensures t h in
    (p.0, p.1, c.in_ok-push_str.ensures.bytes ∙ ap (λ (t : List ℕ). string_bytes c.args.text.now ++ t) (c.as_str.ensures ∙ p.2), p.3)

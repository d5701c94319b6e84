use Rattle.std.proofs.Common.{string_bytes}
use Rattle.scheme_model.specs.Trees.{tree}
use Rattle.scheme_model.specs.Requirements.{parts_of}
use Rattle.scheme_model.specs.Ident.{symbol_of}
use Rattle.feature_requirements.proofs.JudgeLaws.{name_err, row_name, row_first_fails, row_later_fails}
use Rattle.feature_requirements.proofs.libraries.name_of_row.Goals as goal

pub returns-in_err-put_part : goal.returns-in_err-put_part
returns-in_err-put_part c = λ t ts h g.
    let e = c.in_err-put_part.field-0.0 in
    name_err c.from_residual-in_err-put_part.result e (parts_of symbol_of (tree t ts)) c.from_residual-in_err-put_part.ensures.1
    (row_first_fails e t ts (c.in_err-put_part.ensures t h))

pub returns-in_err-put_parts : goal.returns-in_err-put_parts
returns-in_err-put_parts c = λ t ts h g.
    let e = c.in_err-put_parts.field-0.0 in
    let p = c.in_ok-put_part.ensures t h in
    name_err c.from_residual-in_err-put_parts.result e (parts_of symbol_of (tree t ts)) c.from_residual-in_err-put_parts.ensures.1
    (row_later_fails e t ts p.0 p.1 (c.in_err-put_parts.ensures ts g))

pub returns : goal.returns
returns c = λ t ts h g.
    let p = c.in_ok-put_part.ensures t h in
    let ps = c.in_ok-put_parts.ensures ts g in
    row_name t ts p.0 ps.0 (string_bytes c.in_ok-text.text) (string_bytes c.put_part.new.text) (string_bytes c.put_parts.new.text) c.push_str.new.self
    p.1 ps.1 c.in_ok-text.ensures.ok p.2 ps.2 c.in_ok-push_str.ensures.bytes p.3 ps.3

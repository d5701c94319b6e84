use Rattle.std.proofs.Common.{string_bytes, ◌∙◌}
use Rattle.datum_reader.specs.Looks.{tree_at, trees_at}
use Rattle.known_libraries.proofs.TreeRows.{row_text}
use Rattle.known_libraries.proofs.library_names.name_of_row.Goals as goal

pub returns : goal.returns
returns c = λ at.
    let p = c.in_ok-put_part.ensures at in
    let ps = c.in_ok-put_parts.ensures at in
    row_text (tree_at at c.args.first.now) (trees_at at c.args.rest.now) p.0 ps.0 (string_bytes c.in_ok-text.text) (string_bytes c.put_part.new.text) (string_bytes c.put_parts.new.text) c.from_string.result
    p.1 ps.1 c.in_ok-text.ensures.ok p.2 ps.2 (c.from_string.ensures ∙ c.in_ok-push_str.ensures.bytes)

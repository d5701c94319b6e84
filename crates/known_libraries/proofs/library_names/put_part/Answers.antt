use Rattle.std.proofs.Common.{◌++◌, List, ℕ, string_bytes, sym, ap, ◌∙◌}
use Rattle.scheme_model.specs.Requirements.{part_of}
use Rattle.datum_reader.specs.Looks.{tree_at}
use Rattle.known_libraries.specs.PartsRead.{part_text}
use Rattle.known_libraries.proofs.NameTexts.{ok_of}
use Rattle.known_libraries.proofs.library_names.put_part.Goals as goal

pub returns : goal.returns
returns c = λ at.
    let p = ok_of part_text (part_of (λ s. s) (tree_at at c.args.part.now)) c.in_ok-written.written (c.in_ok-written.ensures at) in
    (p.0, p.1, c.in_ok-push_str.ensures.bytes ∙ ap (λ (t : List ℕ). string_bytes c.args.text.now ++ t) (c.as_str.ensures ∙ sym p.2))

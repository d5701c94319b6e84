use Rattle.std.proofs.Common.{◌≡◌, ℕ, ◌<◌, List, length, filter, sym, ap, ◌∙◌, subst, arith, ◌+◌}
use Rattle.std.specs.Prelude.{min}
use Rattle.std.proofs.lemmas.Grind.{common_steps}
use Rattle.scheme_model.specs.Declarations.{is_library}
use Rattle.scheme_model.specs.Includes.{Document, data_of, document_at, has_program, max_units, program_number}
use Rattle.datum_reader.specs.Views as seen
use Rattle.text_parts.specs.Documents.{documents_in}
use Rattle.text_parts.specs.Places.{Each}
use Rattle.text_parts.specs.Programs.{IsProgramPlace}
use Rattle.text_parts.proofs.EachLaws.{each_more}
use Rattle.text_parts.proofs.NameLaws.{document_there, length_documents}
use Rattle.text_parts.proofs.ProgramLaws.{number_here, units_here}
use Rattle.text_parts.proofs.programs.programs.Goals as goal

pub loop-text-preserved : goal.loop-text-preserved
loop-text-preserved c =
    let i = c.loop-text.text-index in
    let ts = c.args.texts.now in
    let p = c.program_behind-program.result in
    let at : (uris : List (List ℕ)) → seen.data_of c.data_in.result.now ≡ data_of (document_at (documents_in uris ts) i) = λ uris.
    c.data_in.ensures uris i ∙ ap data_of (sym (document_there uris ts i c.text-item.result (omega arith) c.text-item.is)) in
    let number : (uris : List (List ℕ)) → p.number ≡ min (program_number (documents_in uris ts) i) max_units = λ uris.
    number_here (documents_in uris ts) i c.loop-text.before p.number (omega (arith, length_documents uris ts)) (c.loop-text.invariant.counted uris)
    (c.program_behind-program.ensures.number ∙ ap (λ ds. min (c.loop-text.before + length (filter is_library ds)) max_units) (at uris)) in
    let there : (uris : List (List ℕ)) → p.there ≡ has_program (data_of (document_at (documents_in uris ts) i)) = λ uris. c.program_behind-program.ensures.there ∙ ap has_program (at uris) in
    record {
      few = omega (arith, c.units_with-before.ensures);
      size = grind (arith, common_steps);
      counted = λ uris. units_here (documents_in uris ts) i p.number c.units_with-before.result p.there (omega (arith, length_documents uris ts)) (number uris) (there uris) c.units_with-before.ensures;
      each = λ uris. subst (Each (IsProgramPlace (documents_in uris ts))) (sym c.in_ok-push.ensures.items)
          (each_more (IsProgramPlace (documents_in uris ts)) c.loop-text.programs.items p (c.loop-text.invariant.each uris)
          (subst (λ n. IsProgramPlace (documents_in uris ts) n p) (sym c.loop-text.invariant.size) (record { number = number uris; there = there uris })));
    }

-- The heads keep the identifiers of the units.
use Rattle.std.proofs.Common.{ap, ◌∙◌}
use Rattle.scheme_model.specs.declared.Occ.{Occ}
use Rattle.scheme_model.specs.Diagnostics.{bytes_of}
use Rattle.read_documents.specs.Places.{spans_of}
use Rattle.scheme_model.specs.Sites.{begins_at, first_where, names_in_document, touches}
use Rattle.program_answers.proofs.SiteLaws.{begun_first, heads_names, touched_then}
use Rattle.program_answers.proofs.sites.name_at.Goals as goal

pub returns-in-Some : goal.returns-in-Some
returns-in-Some c = λ rs us are.
    let names = names_in_document c.args.document us in
    let begins = λ (o : Occ). begins_at c.args.offset (bytes_of (spans_of rs) us o).span in
    begun_first c.in-Some.begun (first_where begins names) (first_where (λ (o : Occ). touches c.args.offset (bytes_of (spans_of rs) us o).span) names)
    (c.in-Some.ensures rs us are ∙ ap (first_where begins) (heads_names rs c.args.document 0 c.args.places.heads.now us are.heads))

pub returns-in-None : goal.returns-in-None
returns-in-None c = λ rs us are.
    let names = names_in_document c.args.document us in
    let begins = λ (o : Occ). begins_at c.args.offset (bytes_of (spans_of rs) us o).span in
    let touching = λ (o : Occ). touches c.args.offset (bytes_of (spans_of rs) us o).span in
    let same = heads_names rs c.args.document 0 c.args.places.heads.now us are.heads in
    touched_then (first_where begins names) (first_where touching names) c.first_name-in-None.result (c.in-None.ensures rs us are ∙ ap (first_where begins) same) (c.first_name-in-None.ensures rs us are ∙ ap (first_where touching) same)

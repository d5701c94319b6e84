-- A string means one of the documents that there are.
use Rattle.std.proofs.Common.{◌≡◌, ◌<◌, ℕ, List, length, map, Option, Some, sym, ap, ◌∙◌, subst}
use Rattle.std.specs.Prelude.{IfSome}
use Rattle.std.specs.Option.{option_map}
use Rattle.std.proofs.lemmas.List.{length-map}
use Rattle.included_documents.specs.Meant.{meant, uri_at}
use Rattle.read_documents.specs.declared.documents.Document.{Document}
use Rattle.document_changes.specs.Parts.{meant_by}
use Rattle.document_changes.proofs.PartMarks.{meant_within}
use Rattle.document_changes.proofs.parts.meant_uri.Goals as goal

pub meant-requires : goal.meant-requires
meant-requires c =
    let cs = c.args.documents.now in
    let lt : c.in-Some.place < length cs = subst (λ (o : Option ℕ). IfSome o (λ (n : ℕ). n < length cs)) c.in-Some.is c.requires in
    let many : length c.in_ok-uris.uris ≡ length cs = ap (λ (us : List (List ℕ)). length us) c.in_ok-uris.ensures ∙ length-map cs (λ (d : Document). d.uri) in
    subst (λ (k : ℕ). c.in-Some.place < k) (sym many) lt

pub uri_of-requires : goal.uri_of-requires
uri_of-requires c =
    let cs = c.args.documents.now in
    let us = map (λ (d : Document). d.uri) cs in
    let is : meant us c.in-Some.place c.args.string.now ≡ Some c.in-Some-2.meant = sym (c.in_ok-meant.ensures ∙ ap (λ (xs : List (List ℕ)). meant xs c.in-Some.place c.args.string.now) c.in_ok-uris.ensures) ∙ c.in-Some-2.is in
    subst (λ (k : ℕ). c.in-Some-2.meant < k) (length-map cs (λ (d : Document). d.uri)) (meant_within us c.in-Some.place c.args.string.now c.in-Some-2.meant is)

pub returns-in-Some-2 : goal.returns-in-Some-2
returns-in-Some-2 c =
    let us = map (λ (d : Document). d.uri) c.args.documents.now in
    let is = sym c.in-Some-2.is ∙ (c.in_ok-meant.ensures ∙ ap (λ (xs : List (List ℕ)). meant xs c.in-Some.place c.args.string.now) c.in_ok-uris.ensures) in
    ap Some (c.in_ok-clone-in-Some-2.ensures.cases ∙ c.uri_of.ensures) ∙ (ap (option_map (uri_at us)) is ∙ ap (λ (o : Option ℕ). meant_by us o c.args.string.now) (sym c.in-Some.is))

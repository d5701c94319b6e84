use Rattle.std.proofs.Common.{Some, ◌<◌, length, sym, ap, ◌∙◌, arith}
use Rattle.std.specs.Str.{bytes_eq}
use Rattle.std.proofs.lemmas.List.{length-map}
use Rattle.url.specs.Parser.{parse_url}
use Rattle.included_documents.specs.declared.named.Named.{Named}
use Rattle.included_documents.specs.Meant.{at_text, first_place, meant, path_from, text_of}
use Rattle.included_documents.proofs.Readings.{meant_by_url, meant_by_path}
use Rattle.included_documents.proofs.uris.Uris.meant.Goals as goal

pub returns-in_ok-at_path-in-None : goal.returns-in_ok-at_path-in-None
returns-in_ok-at_path-in-None c =
    let ds = c.self.inside.documents.items in
    let there : c.args.document < length ds = omega (arith, length-map ds (λ (d : Named). d.uri), ap length c.self.view_is) in
    c.in_ok-at_path-in-None.ensures ∙ ap (λ uri. first_place (bytes_eq (path_from uri c.args.string.now)) 0 c.args.self.now) c.as_str.ensures
    ∙ ap (first_place (bytes_eq (path_from c.index.result.now.uri c.args.string.now)) 0) (sym c.self.view_is)
    ∙ meant_by_path ds c.args.document c.index.result.now c.args.string.now there c.index.ensures c.self.invariant.read c.in-None.is
    ∙ ap (λ uris. meant uris c.args.document c.args.string.now) c.self.view_is

pub returns-in_ok-at_url-in-Some : goal.returns-in_ok-at_url-in-Some
returns-in_ok-at_url-in-Some c =
    let ds = c.self.inside.documents.items in
    let there : c.args.document < length ds = omega (arith, length-map ds (λ (d : Named). d.uri), ap length c.self.view_is) in
    c.in_ok-at_url-in-Some.ensures ∙ ap (λ uris. at_text uris (text_of (parse_url (Some c.in-Some.base) c.args.string.now))) (sym c.self.view_is)
    ∙ meant_by_url ds c.args.document c.index.result.now c.args.string.now there c.index.ensures c.self.invariant.read c.in-Some.base c.in-Some.is
    ∙ ap (λ uris. meant uris c.args.document c.args.string.now) c.self.view_is

use Rattle.std.proofs.Common.{◌≡◌, Some, sym, ap, ◌∙◌}
use Rattle.std.specs.BTreeMap.{get_by_text}
use Rattle.url.specs.Parser.{parse_url}
use Rattle.included_documents.specs.Meant.{first_place, is_at}
use Rattle.included_documents.proofs.Readings.{at_url}
use Rattle.included_documents.proofs.uris.Uris.at_url.Goals as goal

pub returns-in-Some : goal.returns-in-Some
returns-in-Some c =
    let text = c.as_str.result.now in
    let found : c.copied.result ≡ get_by_text c.self.inside.by_url text = c.copied.ensures ∙ c.get.ensures.value in
    found ∙ c.self.invariant.by_url text ∙ ap (first_place (is_at text) 0) c.self.view_is
    ∙ at_url c.args.self.now (parse_url (Some c.args.base.now) c.args.string.now) c.in-Some.url text (sym c.in-Some.is ∙ c.in_ok-joined.ensures) c.as_str.ensures.value

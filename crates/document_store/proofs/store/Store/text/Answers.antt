use Rattle.std.proofs.Common.{ap, sym, ◌∙◌, Some, None}
use Rattle.std.specs.Option.{option_map}
use Rattle.document_store.proofs.TextsOf.{get_seen}
use Rattle.document_store.proofs.store.Store.text.Goals as goal

pub returns-in_err-doc-clause-exact : goal.returns-in_err-doc-clause-exact
returns-in_err-doc-clause-exact c =
    rw c.from_residual.ensures (ap (option_map (λ d. d.1)) (sym (get_seen c.self.inside.docs c.args.self.now c.args.uri.now None c.self.view_is c.in_err-doc.ensures.value)))

pub returns-clause-exact : goal.returns-clause-exact
returns-clause-exact c =
    ap Some c.as_str.ensures ∙ ap (option_map (λ d. d.1)) (sym (get_seen c.self.inside.docs c.args.self.now c.args.uri.now (Some c.in_ok-doc.doc.now) c.self.view_is c.in_ok-doc.ensures.value))

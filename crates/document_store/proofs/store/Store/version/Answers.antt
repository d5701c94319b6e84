use Rattle.std.proofs.Common.{ap, sym, ◌∙◌, Some, None, w64, rules}
use mir.Val.{SFits}
use Rattle.std.proofs.lemmas.Int.{to_z-of_z}
use Rattle.std.specs.Option.{option_map}
use Rattle.document_store.proofs.TextsOf.{get_seen}
use Rattle.document_store.proofs.store.Store.version.Goals as goal

pub returns-in_err-doc : goal.returns-in_err-doc
returns-in_err-doc c =
    rw c.from_residual.ensures (ap (option_map (λ d. d.0)) (sym (get_seen c.self.inside.docs c.args.self.now c.args.uri.now None c.self.view_is c.in_err-doc.ensures.value)))

pub returns : goal.returns
returns c =
    let fits : SFits w64 c.in_ok-doc.doc.now.version = search rules in
    ap Some (to_z-of_z w64 c.in_ok-doc.doc.now.version fits)
    ∙ ap (option_map (λ d. d.0)) (sym (get_seen c.self.inside.docs c.args.self.now c.args.uri.now (Some c.in_ok-doc.doc.now) c.self.view_is c.in_ok-doc.ensures.value))

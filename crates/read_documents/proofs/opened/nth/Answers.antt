-- The nth document is the entry of its uri.
use Rattle.std.proofs.Common.{sym, ap, ◌∙◌, Some, arith, w64, rules}
use mir.Val.{SFits}
use Rattle.std.specs.FinMap.{len-entries}
use Rattle.std.proofs.lemmas.Int.{to_z-of_z}
use Rattle.read_documents.proofs.Copies.{no_version, nth_document}
use Rattle.read_documents.proofs.opened.nth.Goals as goal

pub returns-in_err-version-clause-exact : goal.returns-in_err-version-clause-exact
returns-in_err-version-clause-exact c =
    absurd (no_version c.args.store.now c.args.n c.in_ok-uri.uri.now (sym c.in_ok-uri.ensures.exact) c.in_err-version.ensures)

pub returns-clause-exact : goal.returns-clause-exact
returns-clause-exact c =
    let fits : SFits w64 c.in_ok-version.version = search rules in
    ap (λ v. Some (c.in_ok-uri.uri.now, (v, c.in_ok-text.text.now))) (to_z-of_z w64 c.in_ok-version.version fits)
    ∙ sym (nth_document c.args.store.now c.args.n c.in_ok-uri.uri.now c.in_ok-version.version c.in_ok-text.text.now (sym c.in_ok-uri.ensures.exact) c.in_ok-version.ensures c.in_ok-text.ensures.exact)

pub returns-in_err-uri-clause-few : goal.returns-in_err-uri-clause-few
returns-in_err-uri-clause-few c = omega (arith, c.doc.ensures.few, len-entries c.args.store.now)

pub returns-in_err-version-clause-few : goal.returns-in_err-version-clause-few
returns-in_err-version-clause-few c = omega (arith, c.doc.ensures.few, len-entries c.args.store.now)

pub returns-clause-few : goal.returns-clause-few
returns-clause-few c = omega (arith, c.doc.ensures.few, len-entries c.args.store.now)

use Rattle.std.proofs.Common.{◌≡◌, ap, sym, ◌∙◌, Some, string_bytes, slice_get}
use Rattle.std.specs.BTreeMap as tree
use Rattle.std.specs.FinMap.{keys}
use Rattle.std.specs.Option.{option_map}
use Rattle.std.proofs.lemmas.Iterator.Consumers.{nth_from_yields_List, YieldsList-from_rest}
use Rattle.document_store.proofs.TextsOf.{nth_seen, few_seen}
use Rattle.document_store.proofs.store.Store.doc.Goals as goal
use Rattle.document_store.proofs.store.Store.doc.Goals.{After-nth}

nth_uri : (c : After-nth) → slice_get (keys c.args.self.now) c.args.n ≡ option_map (λ k. string_bytes k.now) c.nth.result
nth_uri c = nth_seen c.self.inside.docs c.args.self.now c.args.n c.nth.result c.self.view_is c.keys.ensures.ordered (nth_from_yields_List c.nth.result c.nth.new.self c.args.n c.nth.ensures.ran (YieldsList-from_rest (tree.keys c.self.inside.docs) c.keys.ensures.rest))

pub returns-in_err-uri-clause-exact : goal.returns-in_err-uri-clause-exact
returns-in_err-uri-clause-exact c =
    rw c.from_residual.ensures (sym (nth_uri (goal.at.returns-in_err-uri-clause-exact c).After-nth ∙ ap (option_map (λ k. string_bytes k.now)) c.in_err-uri.was))

pub returns-in_err-uri-clause-few : goal.returns-in_err-uri-clause-few
returns-in_err-uri-clause-few c = few_seen c.self.inside.docs c.args.self.now c.self.view_is c.keys.ensures.ordered c.self.invariant

pub returns-clause-exact : goal.returns-clause-exact
returns-clause-exact c =
    ap Some c.as_str.ensures.value ∙ sym (nth_uri (goal.at.returns-clause-exact c).After-nth ∙ ap (option_map (λ k. string_bytes k.now)) c.in_ok-uri.was)

pub returns-clause-few : goal.returns-clause-few
returns-clause-few c = few_seen c.self.inside.docs c.args.self.now c.self.view_is c.keys.ensures.ordered c.self.invariant

-- What means nothing is among the names.
use Rattle.std.proofs.Common.{◌≡◌, List, refl, length, map, subst, sym, ◌∙◌, map-id}
use Rattle.std.proofs.lemmas.Option.{slice_get_read}
use Rattle.std.proofs.lemmas.Iterator.Adapters.{YieldsList-from_vec}
use Rattle.std.proofs.lemmas.Iterator.Consumers.{YieldsList-turn, YieldsList-end}
use Rattle.scheme_model.specs.Live.{unit_leaves}
use Rattle.scheme_model.specs.Diagnostics.{bytes_of}
use Rattle.core_tree.specs.Names.{AllMatch}
use Rattle.core_tree.specs.declared.cores.Target.{Target}
use Rattle.read_documents.specs.Places.{spans_of}
use Rattle.program_findings.specs.Unbound.{IsUnbound, unbound_in}
use Rattle.program_findings.proofs.ReferredForms.{referred}
use Rattle.program_findings.proofs.StandInLaws.{free_is_named}
use Rattle.program_findings.proofs.UnboundFound.{unbound_none, unbound_more, unbound_adds}
use Rattle.program_findings.proofs.diagnosing.add_unbound.Goals as goal

pub add_target-requires-clause-named : goal.add_target-requires-clause-named
add_target-requires-clause-named c = λ symbol is.
    let ts = c.in_ok-target-items.target-items.items in
    let t = YieldsList-turn (YieldsList-from_vec ts (cc) (cc)) c.loop-target.yielded c.loop-target.target-iterator c.loop-target.yielded_by c.next.result c.next.new.self c.in-Some.target c.in-Some.is c.next.ensures.steps in
    free_is_named c.args.symbols.now (map referred c.args.forms.now) ts c.requires.forms c.in_ok-target-items.ensures (length c.loop-target.yielded) c.in-Some.target symbol
    (slice_get_read ts (length ts) (length c.loop-target.yielded) c.in-Some.target refl t.0 t.1) is

pub loop-target-init : goal.loop-target-init
loop-target-init c = record {
  inside = λ found. found;
  exact = λ rs us names are kept ms match. unbound_none (bytes_of (spans_of rs) us) (IsUnbound names) c.args.findings.now.items ms match;
}

pub loop-target-preserved : goal.loop-target-preserved
loop-target-preserved c = record {
  inside = λ found. c.in_ok-add_target.ensures.inside (c.loop-target.invariant.inside found);
  exact = λ rs us names are kept.
      unbound_more (bytes_of (spans_of rs) us) (IsUnbound names) c.loop-target.yielded c.in-Some.target c.args.findings.now.items c.loop-target.findings.items c.add_target.new.findings.items
      (c.loop-target.invariant.exact rs us names are kept) (λ m is. c.in_ok-add_target.ensures.exact rs us names m are kept is);
}

pub returns-clause-exact : goal.returns-clause-exact
returns-clause-exact c = λ rs us work unit fs are kept stand.
    let ts = c.in_ok-target-items.target-items.items in
    let end = YieldsList-end (YieldsList-from_vec ts (cc) (cc)) c.loop-target.yielded c.loop-target.target-iterator c.loop-target.yielded_by c.next.result c.next.new.self c.in-None.is c.next.ensures.steps in
    let all : c.loop-target.yielded ≡ ts = sym (map-id c.loop-target.yielded) ∙ end.0 in
    unbound_adds (bytes_of (spans_of rs) us) c.args.findings.now.items c.loop-target.findings.items (unit_leaves fs)
    (c.loop-target.invariant.exact rs us work.symbols are kept (unbound_in (unit_leaves fs))
    (subst (λ (xs : List Target). AllMatch (IsUnbound work.symbols) xs (unbound_in (unit_leaves fs))) (sym all) (c.in_ok-target-items.ensures work unit fs stand)))

-- Each definition is among the names, and what is found of all is the definition's.
use Rattle.std.proofs.Common.{◌++◌, append-nil, length, map, reverse, slice_get, Bool, sym, ap, ◌∙◌}
use Rattle.std.proofs.lemmas.List.{map_push}
use Rattle.std.proofs.lemmas.Iterator.Adapters.{YieldsList-from_rev_slice}
use Rattle.std.proofs.lemmas.Iterator.Consumers.{YieldsList-turn, YieldsList-end}
use Rattle.scheme_model.specs.Diagnostics.{bytes_of}
use Rattle.read_documents.specs.Places.{spans_of}
use Rattle.unit_imports.proofs.DefinedLaws.{known_reversed, referred}
use Rattle.unit_imports.proofs.GivenLaws.{item_at}
use Rattle.unit_imports.specs.Defined.{hidden_at}
use Rattle.unit_imports.specs.Hiding.{hidden_found, unless_broken}
use Rattle.unit_imports.proofs.HidingLaws.{all_hidden, hidden_more, hidden_adds}
use Rattle.unit_imports.proofs.defined.add_hiding.Goals as goal

pub add_hidden-requires-clause-known : goal.add_hidden-requires-clause-known
add_hidden-requires-clause-known c =
    let xs = c.args.defined.now in
    let n = length c.loop-form.yielded in
    let t = YieldsList-turn (YieldsList-from_rev_slice xs cc) c.loop-form.yielded _ c.loop-form.yielded_by _ _ c.in-Some.field-0 c.in-Some.is c.next.ensures.steps in
    known_reversed c.args.symbols.now xs c.requires.known n c.in-Some.field-0.now (item_at (reverse xs) n c.in-Some.field-0.now t.0 t.1)

pub loop-form-init : goal.loop-form-init
loop-form-init c = record {
  inside = λ found. found;
  exact = λ rs us are. sym (append-nil c.args.findings.now.items);
}

pub loop-form-preserved-then-is_broken : goal.loop-form-preserved-then-is_broken
loop-form-preserved-then-is_broken c = record {
  inside = λ found. c.loop-form.invariant.inside found;
  exact = λ rs us are.
      let bytes = bytes_of (spans_of rs) us in
      let names = c.args.symbols.now in
      let forms = map referred c.args.forms.now in
      let es = c.args.joined.now.entries.items in
      let now = c.loop-form.findings.items in
      let b = c.in-Some.field-0.now in
      let none = ap (λ (q : Bool). now ++ unless_broken q (hidden_found bytes c.args.unit b.0 b.1.occ (hidden_at es (slice_get names.idents b.1.ident)))) (sym (sym c.is_broken.ensures ∙ c.if-is_broken.true)) in
      hidden_more bytes c.args.unit forms names es (map (λ b. b.now) c.loop-form.yielded) b c.args.findings.now.items now now (c.loop-form.invariant.exact rs us are) (sym (append-nil now) ∙ none)
      ∙ ap (λ bs. c.args.findings.now.items ++ all_hidden bytes c.args.unit forms names es bs) (sym (map_push (λ b. b.now) c.loop-form.yielded c.in-Some.field-0));
}

pub loop-form-preserved : goal.loop-form-preserved
loop-form-preserved c = record {
  inside = λ found. c.in_ok-add_hidden.ensures.inside (c.loop-form.invariant.inside found);
  exact = λ rs us are.
      let bytes = bytes_of (spans_of rs) us in
      let names = c.args.symbols.now in
      let forms = map referred c.args.forms.now in
      let es = c.args.joined.now.entries.items in
      let now = c.loop-form.findings.items in
      let b = c.in-Some.field-0.now in
      let whole = ap (λ (q : Bool). now ++ unless_broken q (hidden_found bytes c.args.unit b.0 b.1.occ (hidden_at es (slice_get names.idents b.1.ident)))) (sym (sym c.is_broken.ensures ∙ c.if-is_broken.false)) in
      hidden_more bytes c.args.unit forms names es (map (λ b. b.now) c.loop-form.yielded) b c.args.findings.now.items now c.add_hidden.new.findings.items
      (c.loop-form.invariant.exact rs us are) (c.in_ok-add_hidden.ensures.exact rs us are ∙ whole)
      ∙ ap (λ bs. c.args.findings.now.items ++ all_hidden bytes c.args.unit forms names es bs) (sym (map_push (λ b. b.now) c.loop-form.yielded c.in-Some.field-0));
}

pub returns-clause-exact : goal.returns-clause-exact
returns-clause-exact c = λ rs us table es are told entries work fs stand.
    let xs = c.args.defined.now in
    let bytes = bytes_of (spans_of rs) us in
    let names = c.args.symbols.now in
    let js = c.args.joined.now.entries.items in
    let e = YieldsList-end (YieldsList-from_rev_slice xs cc) c.loop-form.yielded _ c.loop-form.yielded_by _ _ c.in-None.is c.next.ensures.steps in
    hidden_adds bytes c.args.unit (map referred c.args.forms.now) names js es entries work fs stand c.args.findings.now.items c.loop-form.findings.items (reverse xs) table told
    (c.loop-form.invariant.exact rs us are ∙ ap (λ bs. c.args.findings.now.items ++ all_hidden bytes c.args.unit (map referred c.args.forms.now) names js bs) e.0)

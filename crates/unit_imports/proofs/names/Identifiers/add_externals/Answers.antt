use Rattle.std.proofs.Common.{◌≡◌, ℕ, List, drop, true, false, refl, sym, ap, ◌∙◌, arith}
use Rattle.std.specs.String.{string_bytes}
use Rattle.std.specs.BTreeSet.{contains_text}
use Rattle.std.proofs.lemmas.Map.Text.{btree_set_updates_text}
use Rattle.scheme_model.specs.ExpansionFaults.{Named}
use Rattle.unit_imports.specs.NamesUsed.{external_adds}
use Rattle.unit_imports.proofs.GivenLaws.{drop_past, item_at}
use Rattle.unit_imports.proofs.MeaningLaws.{names_itself, names_on}
use Rattle.unit_imports.proofs.UsedLaws.{adds_as, as_many_exports, export_at, externals_begin, externals_next, externals_done, finds_kept}
use Rattle.unit_imports.proofs.names.Identifiers.add_externals.Goals as goal

pub loop-spec-init : goal.loop-spec-init
loop-spec-init c = record {
  names = names_itself c.args.symbols.now;
  adds = λ find finds xs are.
      let none : (s : List ℕ) → contains_text c.new-seen.result s ≡ false = λ s. rw c.new-seen.ensures.empty refl in
      externals_begin c.args.symbols.now c.args.self.now (contains_text c.new-seen.result) find xs none;
}

pub loop-spec-preserved : goal.loop-spec-preserved
loop-spec-preserved c =
    let old = c.args.symbols.now in
    let mid = c.loop-spec.symbols in
    let new = c.add_external.new.symbols in
    let i = c.loop-spec.spec-index in
    let spec = c.spec-item.result in
    let key = string_bytes c.in_ok-from_str.field-0 in
    record {
      names = names_on old mid new c.loop-spec.invariant.names c.in_ok-add_external.ensures.names;
      adds = λ find finds xs are.
          let x = export_at c.args.specs.now xs are i spec (item_at c.args.specs.now i spec (omega arith) c.spec-item.is) in
          let text : key ≡ spec.outer.name = c.in_ok-from_str.ensures.ok ∙ c.as_str-in-loop-spec.ensures in
          let outer : key ≡ x.spec.outer.name = text ∙ ap (λ (n : Named (List ℕ)). n.name) x.is.outer in
          let again : c.contains-again.result ≡ contains_text c.loop-spec.seen key = c.contains-again.ensures ∙ ap (contains_text c.loop-spec.seen) (c.as_str.ensures ∙ sym text) in
          let adds = c.in_ok-add_external.ensures.adds find (finds_kept old mid c.loop-spec.invariant.names c.args.found.entries.now find finds) x.spec x.is in
          externals_next mid new c.in_ok-add_external.ensures.names c.args.self.now c.loop-spec.self c.add_external.new.self (contains_text c.loop-spec.seen) (contains_text c.insert.new.self) find xs i x.spec key x.there outer
          (btree_set_updates_text key c.loop-spec.seen c.insert.new.self true c.in_ok-insert.ensures.updates) (c.loop-spec.invariant.adds find finds xs are)
          (adds_as new c.loop-spec.self c.add_external.new.self (external_adds c.contains-again.result (find spec.inner.name) x.spec) (external_adds (contains_text c.loop-spec.seen key) (find x.spec.inner.name) x.spec)
          (λ j. external_adds (again j) (find (x.is.inner j).name) x.spec) adds);
    }

pub returns-clause-adds : goal.returns-clause-adds
returns-clause-adds c = λ find finds xs are.
    let i = c.loop-spec.spec-index in
    externals_done c.loop-spec.symbols c.args.self.now c.loop-spec.self (contains_text c.loop-spec.seen) find xs (drop i xs) (drop_past xs i (let e = as_many_exports c.args.specs.now xs are in omega arith))
    (c.loop-spec.invariant.adds find finds xs are)

use Rattle.std.proofs.Common.{List, map, sym, ◌∙◌, subst}
use Rattle.scheme_model.specs.Entries as model
use Rattle.scheme_model.specs.Live.{listed_uses, pair_uses, set_uses}
use Rattle.syntax_tree.specs.Meant.{AreEntries}
use Rattle.syntax_tree.specs.declared.units.Entry.{Entry}
use Rattle.import_sets.specs.Sets.{IsSet, TellsApart, named, paired}
use Rattle.import_sets.specs.declared.set.ImportSet.{ImportSet}
use Rattle.import_sets.specs.declared.set.NamePair.{NamePair}
use Rattle.import_sets.specs.declared.set.SetName.{SetName}
use Rattle.unit_imports.specs.NamesUsed.{AddsNames}
use Rattle.unit_imports.proofs.UsedLaws.{fault_adds, modifier_adds, prefix_adds}
use Rattle.unit_imports.proofs.names.Identifiers.+add_set.Goals as goal

pub returns-in-None-clause-adds : goal.returns-in-None-clause-adds
returns-in-None-clause-adds t c = λ s is es are.
    let old = c.args.symbols.now in
    let mid = c.add_set.new.symbols in
    let h = subst (λ (x : ImportSet). IsSet x s) c.in-Only.is is in
    let inner : IsSet c.deref.result.now h.0 = subst (λ (x : ImportSet). IsSet x h.0) (sym c.deref.ensures) h.1.1 in
    let apart : TellsApart mid = record { symbols = c.told_apart.ensures.symbols; idents = c.told_apart.ensures.idents } in
    subst (λ (s : model.ImportSet). AddsNames mid c.args.self.now c.add_set.new.self (set_uses es s)) (sym h.1.0)
    (fault_adds old mid c.in_ok-inner-in-Only.ensures.names apart c.deref.result.now h.0 c.args.exports es inner are (sym c.in-None.is ∙ c.in_ok-inner-in-Only.ensures.gives) c.args.self.now c.add_set.new.self
    (λ (xs : List model.Entry). listed_uses xs (map named c.in-Only.names)) (c.in_ok-inner-in-Only.ensures.adds h.0 inner es are))

pub returns-in_ok-given-in-Some-clause-adds : goal.returns-in_ok-given-in-Some-clause-adds
returns-in_ok-given-in-Some-clause-adds t c = λ s is es are.
    let old = c.args.symbols.now in
    let mid = c.add_set.new.symbols in
    let new = c.add_listed.new.symbols in
    let h = subst (λ (x : ImportSet). IsSet x s) c.in-Only.is is in
    let inner : IsSet c.deref.result.now h.0 = subst (λ (x : ImportSet). IsSet x h.0) (sym c.deref.ensures) h.1.1 in
    let apart : TellsApart mid = record { symbols = c.told_apart.ensures.symbols; idents = c.told_apart.ensures.idents } in
    subst (λ (s : model.ImportSet). AddsNames new c.args.self.now c.add_listed.new.self (set_uses es s)) (sym h.1.0)
    (modifier_adds old mid new c.in_ok-inner-in-Only.ensures.names c.in_ok-add_listed-in-Some.ensures.names apart c.deref.result.now h.0 c.args.exports c.in-Some.inner es inner are (sym c.in-Some.is ∙ c.in_ok-inner-in-Only.ensures.gives) c.args.self.now c.add_set.new.self c.add_listed.new.self
    (λ (xs : List model.Entry). listed_uses xs (map named c.in-Only.names)) (c.in_ok-inner-in-Only.ensures.adds h.0 inner es are)
    (λ xs stand.
    subst (λ (l : List SetName). AddsNames new c.add_set.new.self c.add_listed.new.self (listed_uses xs (map named l))) c.as_slice.ensures
    (c.in_ok-add_listed-in-Some.ensures.adds xs (subst (λ (l : List Entry). AreEntries mid l xs) (sym c.as_slice-in-Some.ensures) stand))))

pub returns-in-None-inner-clause-adds : goal.returns-in-None-inner-clause-adds
returns-in-None-inner-clause-adds t c = λ s is es are.
    let old = c.args.symbols.now in
    let mid = c.add_set-in-Except.new.symbols in
    let h = subst (λ (x : ImportSet). IsSet x s) c.in-Except.is is in
    let inner : IsSet c.deref-in-Except.result.now h.0 = subst (λ (x : ImportSet). IsSet x h.0) (sym c.deref-in-Except.ensures) h.1.1 in
    let apart : TellsApart mid = record { symbols = c.told_apart-in-Except.ensures.symbols; idents = c.told_apart-in-Except.ensures.idents } in
    subst (λ (s : model.ImportSet). AddsNames mid c.args.self.now c.add_set-in-Except.new.self (set_uses es s)) (sym h.1.0)
    (fault_adds old mid c.in_ok-inner-in-Except.ensures.names apart c.deref-in-Except.result.now h.0 c.args.exports es inner are (sym c.in-None-inner.is ∙ c.in_ok-inner-in-Except.ensures.gives) c.args.self.now c.add_set-in-Except.new.self
    (λ (xs : List model.Entry). listed_uses xs (map named c.in-Except.names)) (c.in_ok-inner-in-Except.ensures.adds h.0 inner es are))

pub returns-in_ok-given-in-Some-inner-clause-adds : goal.returns-in_ok-given-in-Some-inner-clause-adds
returns-in_ok-given-in-Some-inner-clause-adds t c = λ s is es are.
    let old = c.args.symbols.now in
    let mid = c.add_set-in-Except.new.symbols in
    let new = c.add_listed-in-Some-inner.new.symbols in
    let h = subst (λ (x : ImportSet). IsSet x s) c.in-Except.is is in
    let inner : IsSet c.deref-in-Except.result.now h.0 = subst (λ (x : ImportSet). IsSet x h.0) (sym c.deref-in-Except.ensures) h.1.1 in
    let apart : TellsApart mid = record { symbols = c.told_apart-in-Except.ensures.symbols; idents = c.told_apart-in-Except.ensures.idents } in
    subst (λ (s : model.ImportSet). AddsNames new c.args.self.now c.add_listed-in-Some-inner.new.self (set_uses es s)) (sym h.1.0)
    (modifier_adds old mid new c.in_ok-inner-in-Except.ensures.names c.in_ok-add_listed-in-Some-inner.ensures.names apart c.deref-in-Except.result.now h.0 c.args.exports c.in-Some-inner.inner es inner are (sym c.in-Some-inner.is ∙ c.in_ok-inner-in-Except.ensures.gives) c.args.self.now c.add_set-in-Except.new.self c.add_listed-in-Some-inner.new.self
    (λ (xs : List model.Entry). listed_uses xs (map named c.in-Except.names)) (c.in_ok-inner-in-Except.ensures.adds h.0 inner es are)
    (λ xs stand.
    subst (λ (l : List SetName). AddsNames new c.add_set-in-Except.new.self c.add_listed-in-Some-inner.new.self (listed_uses xs (map named l))) c.as_slice-in-Some-inner.ensures
    (c.in_ok-add_listed-in-Some-inner.ensures.adds xs (subst (λ (l : List Entry). AreEntries mid l xs) (sym c.as_slice-in-Some-inner-2.ensures) stand))))

pub returns-in-None-2-clause-adds : goal.returns-in-None-2-clause-adds
returns-in-None-2-clause-adds t c = λ s is es are.
    let h = subst (λ (x : ImportSet). IsSet x s) c.in-Prefix.is is in
    prefix_adds c.add_set-in-Prefix.new.symbols c.args.self.now c.add_set-in-Prefix.new.self s h.0 c.in-Prefix.prefix es h.1.0 (c.in_ok-add_set-in-Prefix.ensures.adds h.0 (subst (λ (x : ImportSet). IsSet x h.0) (sym c.deref-in-Prefix.ensures) h.1.1) es are)

pub returns-in_ok-prefixed-in-Some-2-clause-adds : goal.returns-in_ok-prefixed-in-Some-2-clause-adds
returns-in_ok-prefixed-in-Some-2-clause-adds t c = λ s is es are.
    let h = subst (λ (x : ImportSet). IsSet x s) c.in-Prefix.is is in
    prefix_adds c.add_set-in-Prefix.new.symbols c.args.self.now c.add_set-in-Prefix.new.self s h.0 c.in-Prefix.prefix es h.1.0 (c.in_ok-add_set-in-Prefix.ensures.adds h.0 (subst (λ (x : ImportSet). IsSet x h.0) (sym c.deref-in-Prefix.ensures) h.1.1) es are)

pub returns-in-None-inner-2-clause-adds : goal.returns-in-None-inner-2-clause-adds
returns-in-None-inner-2-clause-adds t c = λ s is es are.
    let old = c.args.symbols.now in
    let mid = c.add_set-in-Rename.new.symbols in
    let h = subst (λ (x : ImportSet). IsSet x s) c.in-Rename.is is in
    let inner : IsSet c.deref-in-Rename.result.now h.0 = subst (λ (x : ImportSet). IsSet x h.0) (sym c.deref-in-Rename.ensures) h.1.1 in
    let apart : TellsApart mid = record { symbols = c.told_apart-in-Rename.ensures.symbols; idents = c.told_apart-in-Rename.ensures.idents } in
    subst (λ (s : model.ImportSet). AddsNames mid c.args.self.now c.add_set-in-Rename.new.self (set_uses es s)) (sym h.1.0)
    (fault_adds old mid c.in_ok-inner-in-Rename.ensures.names apart c.deref-in-Rename.result.now h.0 c.args.exports es inner are (sym c.in-None-inner-2.is ∙ c.in_ok-inner-in-Rename.ensures.gives) c.args.self.now c.add_set-in-Rename.new.self
    (λ (xs : List model.Entry). pair_uses xs (map paired c.in-Rename.pairs)) (c.in_ok-inner-in-Rename.ensures.adds h.0 inner es are))

pub returns-in_ok-given-in-Some-inner-2-clause-adds : goal.returns-in_ok-given-in-Some-inner-2-clause-adds
returns-in_ok-given-in-Some-inner-2-clause-adds t c = λ s is es are.
    let old = c.args.symbols.now in
    let mid = c.add_set-in-Rename.new.symbols in
    let new = c.add_pairs.new.symbols in
    let h = subst (λ (x : ImportSet). IsSet x s) c.in-Rename.is is in
    let inner : IsSet c.deref-in-Rename.result.now h.0 = subst (λ (x : ImportSet). IsSet x h.0) (sym c.deref-in-Rename.ensures) h.1.1 in
    let apart : TellsApart mid = record { symbols = c.told_apart-in-Rename.ensures.symbols; idents = c.told_apart-in-Rename.ensures.idents } in
    subst (λ (s : model.ImportSet). AddsNames new c.args.self.now c.add_pairs.new.self (set_uses es s)) (sym h.1.0)
    (modifier_adds old mid new c.in_ok-inner-in-Rename.ensures.names c.in_ok-add_pairs-in-Some-inner-2.ensures.names apart c.deref-in-Rename.result.now h.0 c.args.exports c.in-Some-inner-2.inner es inner are (sym c.in-Some-inner-2.is ∙ c.in_ok-inner-in-Rename.ensures.gives) c.args.self.now c.add_set-in-Rename.new.self c.add_pairs.new.self
    (λ (xs : List model.Entry). pair_uses xs (map paired c.in-Rename.pairs)) (c.in_ok-inner-in-Rename.ensures.adds h.0 inner es are)
    (λ xs stand.
    subst (λ (l : List NamePair). AddsNames new c.add_set-in-Rename.new.self c.add_pairs.new.self (pair_uses xs (map paired l))) c.as_slice-in-Some-inner-2-2.ensures
    (c.in_ok-add_pairs-in-Some-inner-2.ensures.adds xs (subst (λ (l : List Entry). AreEntries mid l xs) (sym c.as_slice-in-Some-inner-2-3.ensures) stand))))

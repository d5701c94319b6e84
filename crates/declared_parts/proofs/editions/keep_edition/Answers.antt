use Rattle.std.proofs.Common.{◌≡◌, List, [], Some, refl, sym, ap, ◌∙◌, subst}
use Rattle.scheme_model.specs.Ident.{Ident}
use Rattle.scheme_model.specs.RulesShape.{Rules}
use Rattle.rules_check.specs.declared.leaf.RuleLeaf.{RuleLeaf}
use Rattle.equal_trees.specs.Told.{TellsRules}
use Rattle.unit_scopes.specs.Macros.{numbered}
use Rattle.declared_parts.proofs.EditionLaws.{macros_stand, editions_tell, edition_now, unit_stands, own_there, own_told, kept_now}
use Rattle.declared_parts.proofs.editions.keep_edition.Goals as goal

pub returns-clause-has : goal.returns-clause-has
returns-clause-has c = λ ls s notes r h.
    let work = c.args.work.now in
    let u = c.args.units.now in
    let n = c.args.kept.now.ident in
    let own = c.in-Some.own in
    let ed = c.args.before.now.edition in
    let new = c.keep_as.new.self in
    let there = sym (c.in-Some.ensures.taken u.form.number) in
    let now = kept_now u.macros c.take.new.self new u.form.number u.unit n (numbered own ed) c.take.ensures.gone c.in_ok-keep_as.ensures.kept in
    record {
      stands = unit_stands work u new ls s notes (macros_stand u.macros new u.form.number u.unit n own ed there now work ls s h.stands.rests.macros) h.stands;
      name = h.name;
      ident = h.ident;
      there = h.there;
      rules = h.rules;
    }

pub returns-clause-tells : goal.returns-clause-tells
returns-clause-tells c = λ ls s notes r q e h told is tells.
    let work = c.args.work.now in
    let u = c.args.units.now in
    let k = c.args.kept.now in
    let before = c.args.before.now in
    let own = c.in-Some.own in
    let new = c.keep_as.new.self in
    let there = sym (c.in-Some.ensures.taken u.form.number) in
    let now = kept_now u.macros c.take.new.self new u.form.number u.unit k.ident (numbered own before.edition) c.take.ensures.gone c.in_ok-keep_as.ensures.kept in
    let one = subst (λ (ls : List RuleLeaf). TellsRules work k.rules ls r) (sym c.as_slice.ensures) h.rules in
    let other = subst (λ (ls : List RuleLeaf). TellsRules work before.rules ls q) (sym c.as_slice-2.ensures) told in
    let same : r ≡ q = (c.same_rules.ensures r q one other).0 c.if-not-same_rules.false in
    let own_is = own_told work u ls s notes k r u.form.number own e h there tells in
    editions_tell u.macros new u.form.number u.unit k.ident own before.edition there now work.symbols s e (is ∙ (ap (λ (x : Rules Ident). Some (record { env = []; rules = x })) (sym same) ∙ sym own_is)) tells

pub returns-clause-same : goal.returns-clause-same
returns-clause-same c = λ ls s notes r form h told.
    let u = c.args.units.now in
    let n = c.args.kept.now.ident in
    let own = c.in-Some.own in
    let ed = c.args.before.now.edition in
    let new = c.keep_as.new.self in
    let there = sym (c.in-Some.ensures.taken u.form.number) in
    let now = kept_now u.macros c.take.new.self new u.form.number u.unit n (numbered own ed) c.take.ensures.gone c.in_ok-keep_as.ensures.kept in
    (refl, edition_now u.macros new u.form.number u.unit n own ed there now form)

-- the unit has such a macro
pub returns-in_default-clause-has : goal.returns-in_default-clause-has
returns-in_default-clause-has c = λ ls s notes r h.
    let p = own_there c.args.work.now c.args.units.now ls s notes c.args.kept.now r 0 h in
    let q = c.take.ensures.taken 0 ∙ p.1 in
    let z = c.in_default.is in
    absurd cc

pub returns-in_default-clause-tells : goal.returns-in_default-clause-tells
returns-in_default-clause-tells c = λ ls s notes r q e h told is tells.
    let p = own_there c.args.work.now c.args.units.now ls s notes c.args.kept.now r 0 h in
    let q = c.take.ensures.taken 0 ∙ p.1 in
    let z = c.in_default.is in
    absurd cc

pub returns-in_default-clause-same : goal.returns-in_default-clause-same
returns-in_default-clause-same c = λ ls s notes r form h told.
    let p = own_there c.args.work.now c.args.units.now ls s notes c.args.kept.now r 0 h in
    let q = c.take.ensures.taken 0 ∙ p.1 in
    let z = c.in_default.is in
    absurd cc

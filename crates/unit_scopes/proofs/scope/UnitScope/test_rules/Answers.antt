use Rattle.std.proofs.Common.{◌≡◌, Err, true, false, refl, sym, ◌∙◌, subst}
use Rattle.std.proofs.lemmas.Option.{slice_get_within}
use Rattle.scheme_model.specs.Meaning.{head_as}
use Rattle.scheme_model.specs.ExpansionFaults.{BadForm}
use Rattle.scheme_model.specs.Order.{is_some, rules_parts_of, rules_parts}
use Rattle.scheme_model.specs.CountedExpansion.{means_here}
use Rattle.scheme_model.specs.ScopedExpansion.{macro_at}
use Rattle.unit_scopes.specs.Searched.{searched}
use Rattle.unit_scopes.specs.RulesTold.{Tests}
use Rattle.feature_requirements.specs.declared.fault.ExpandFault.{ExpandFault}
use Rattle.unit_scopes.proofs.SyntaxLaws.{no_rules_are, rules_are, other_head, head_known}
use Rattle.unit_scopes.proofs.scope.UnitScope.test_rules.Goals as goal

pub returns-in_default : goal.returns-in_default
returns-in_default c = λ known ls s fs t stands at for.
    let w = c.args.work.now in let here = c.args.here in
    subst (λ (x : ExpandFault). Tests w s (Err x) (rules_parts (searched known) here fs (rules_parts_of t) s)) (sym c.fails.ensures)
    (record { fault = BadForm; here = here }, no_rules_are known w.symbols fs s here (rules_parts_of t) (c.in_default.ensures t for), record { code = refl; name = tt; place = refl; here = refl; text = refl })

pub head_of-requires-clause-ident : goal.head_of-requires-clause-ident
head_of-requires-clause-ident c =
    let names = c.args.work.now.symbols in
    let t = c.requires.rules in
    let h = head_known names c.in-Some.ident (rules_parts_of t.0) (c.in-Some.ensures t.0 t.1) in
    slice_get_within names.idents c.in-Some.ident h.0 h.1

pub returns-then-not-is_rules : goal.returns-then-not-is_rules
returns-then-not-is_rules c = λ known ls s fs t stands at for.
    let w = c.args.work.now in let here = c.args.here in
    let no : c.is_rules.result ≡ false = c.if-not-is_rules.true in
    subst (λ (x : ExpandFault). Tests w s (Err x) (rules_parts (searched known) here fs (rules_parts_of t) s)) (sym c.fails-then-not-is_rules.ensures) (
      record { fault = BadForm; here = here },
      other_head known w.symbols fs s here c.in-Some.ident (rules_parts_of t) (c.in-Some.ensures t for)
          (λ i is. sym (c.is_rules.ensures (head_as (λ x. is_some (macro_at s.macros x)) (means_here s fs i)) (c.head_of.ensures ls s fs i stands at is)) ∙ no),
      record { code = refl; name = tt; place = refl; here = refl; text = refl },
    )

pub returns : goal.returns
returns c = λ known ls s fs t stands at for.
    let w = c.args.work.now in let here = c.args.here in
    let yes : c.is_rules.result ≡ true = c.if-not-is_rules.false in
    rules_are known w.symbols fs s here c.in-Some.ident (rules_parts_of t) (c.in-Some.ensures t for)
    (λ i is. sym (c.is_rules.ensures (head_as (λ x. is_some (macro_at s.macros x)) (means_here s fs i)) (c.head_of.ensures ls s fs i stands at is)) ∙ yes)

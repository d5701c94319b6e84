use Rattle.std.proofs.Common.{[], ◌∷◌, refl, sym, subst, inl}
use Rattle.std.specs.Prelude.{Vec}
use Rattle.std.specs.declared.alloc.Global.{Global}
use Rattle.scheme_model.specs.Matching.{One, match_of, match_name}
use Rattle.scheme_model.specs.RulesShape.{IsLiteral, IsAny, IsVariable, role_of}
use Rattle.syntax_tree.specs.Macros.{identifiers}
use Rattle.syntax_tree.specs.Bound.{BindingsNamed}
use Rattle.syntax_tree.specs.declared.rules.Binding.{Binding}
use Rattle.syntax_tree.specs.declared.rules.Binding.TheVariants as bound
use Rattle.rules_match.proofs.Adding.{no_match, adds_nothing, adds_one, finds_same}
use Rattle.rules_match.proofs.KnownLaws.{name_is}
use Rattle.rules_match.proofs.Naming.{tree_named, one_named}
use Rattle.rules_match.proofs.matching.Matcher.name.Goals as goal

pub returns-in-Any-clause-finds : goal.returns-in-Any-clause-finds
returns-in-Any-clause-finds c = λ r same i t knows id fs.
    let e = c.in-Any.ensures r i knows.tells id in
    (no_match, sym (name_is same (role_of identifiers r i) IsAny i t e), adds_nothing c.args.self.now.work.now c.args.found.now)

pub returns-in_ok-push-in-Variable-clause-finds : goal.returns-in_ok-push-in-Variable-clause-finds
returns-in_ok-push-in-Variable-clause-finds c = λ r same i t knows id fs.
    let e = c.in-Variable.ensures r i knows.tells id in (
      match_of (record { variable = i; value = One t } ∷ []) [],
      sym (name_is same (role_of identifiers r i) IsVariable i t e),
      adds_one c.args.self.now.work.now c.args.found.now (record { bindings = c.push.new.self; leaves = c.args.found.now.leaves }) (bound.One c.args.id c.args.form) c.args.id i t c.in_ok-push-in-Variable.ensures.items refl id
          (inl (c.args.form, refl, fs)),
    )

pub returns-in_ok-literal-in-Literal-clause-finds : goal.returns-in_ok-literal-in-Literal-clause-finds
returns-in_ok-literal-in-Literal-clause-finds c = λ r same i t knows id fs.
    let e = c.in-Literal.ensures r i knows.tells id in
    finds_same c.args.self.now.work.now c.args.found.now c.literal.new.found (match_name same IsLiteral i t) (match_name same (role_of identifiers r i) i t) c.in_ok-literal-in-Literal.field-0
    (name_is same (role_of identifiers r i) IsLiteral i t e) (c.in_ok-literal-in-Literal.ensures.finds r same i t knows id fs)

pub returns-in_ok-push-in-Variable-clause-named : goal.returns-in_ok-push-in-Variable-clause-named
returns-in_ok-push-in-Variable-clause-named c = λ region can h.
    let w = c.args.self.now.work.now in
    one_named w region c.args.found.now.bindings.items c.push.new.self.items (bound.One c.args.id c.args.form) c.in_ok-push-in-Variable.ensures.items h (tree_named w region c.args.id c.args.form can)

pub returns-in_ok-literal-in-Literal-clause-named : goal.returns-in_ok-literal-in-Literal-clause-named
returns-in_ok-literal-in-Literal-clause-named c = λ region can h.
    subst (λ (bs : Vec Binding Global). BindingsNamed c.args.self.now.work.now region bs.items) (sym c.in_ok-literal-in-Literal.ensures.kept) h

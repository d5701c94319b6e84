use Rattle.std.proofs.Common.{arith, [], ◌∷◌, refl, sym, ap, ◌∙◌, inr}
use Rattle.std.proofs.lemmas.Option.{slice_get_within}
use Rattle.scheme_model.specs.Trees.{list}
use Rattle.scheme_model.specs.Matching.{One, match_of, match_tree, matcher}
use Rattle.scheme_model.specs.RulesShape.{IsAny, IsVariable, role_of}
use Rattle.syntax_tree.specs.Macros.{identifiers}
use Rattle.syntax_tree.specs.declared.rules.Binding.TheVariants as bound
use Rattle.rules_match.proofs.Adding.{no_match, adds_nothing, adds_one}
use Rattle.rules_match.proofs.KnownLaws.{name_is}
use Rattle.rules_match.proofs.Naming.{rest_named, one_named}
use Rattle.rules_match.proofs.Parts.{count_size}
use Rattle.rules_match.proofs.matching.Matcher.list.Goals as goal

pub size-size-requires : goal.size-size-requires
size-size-requires c = let r = c.requires.list.1 in (list r.parts r.tail r.place, r.whole)

pub role-requires : goal.role-requires
role-requires c =
    let q = c.in-Name.ensures.look c.requires.pattern.0 c.requires.pattern.1 in
    slice_get_within c.args.self.now.work.now.symbols.idents c.in-Name.variable q.0 q.3

pub overflow_cast-from : goal.overflow_cast-from
overflow_cast-from c =
    let r = c.requires.list.1 in
    let s = c.size-size.ensures (list r.parts r.tail r.place) r.whole in
    let n = count_size r.parts in
    let w = r.within in
    record { fits = omega arith }

pub returns-in-Any-clause-finds : goal.returns-in-Any-clause-finds
returns-in-Any-clause-finds c = λ r same p t knows ps plain rest.
    let q = c.in-Name.ensures.look p ps in
    let e = c.in-Any.ensures r q.0 knows.tells q.3 in
    (no_match, ap (λ x. match_tree (matcher identifiers r same) x t) q.2 ∙ sym (name_is same (role_of identifiers r q.0) IsAny q.0 t e), adds_nothing c.args.self.now.work.now c.args.found.now)

pub returns-in_ok-push-in-Variable-clause-finds : goal.returns-in_ok-push-in-Variable-clause-finds
returns-in_ok-push-in-Variable-clause-finds c = λ r same p t knows ps plain rest.
    let q = c.in-Name.ensures.look p ps in
    let e = c.in-Variable.ensures r q.0 knows.tells q.3 in (
      match_of (record { variable = q.0; value = One t } ∷ []) [],
      ap (λ x. match_tree (matcher identifiers r same) x t) q.2 ∙ sym (name_is same (role_of identifiers r q.0) IsVariable q.0 t e),
      adds_one c.args.self.now.work.now c.args.found.now (record { bindings = c.push.new.self; leaves = c.args.found.now.leaves }) (bound.Rest c.in-Name.variable c.args.list c.args.from) c.in-Name.variable q.0 t
          c.in_ok-push-in-Variable.ensures.items refl q.3 (inr (c.args.list, (c.args.from, refl, rest))),
    )

pub returns-in_ok-push-in-Variable-clause-named : goal.returns-in_ok-push-in-Variable-clause-named
returns-in_ok-push-in-Variable-clause-named c = λ region can h.
    let w = c.args.self.now.work.now in
    one_named w region c.args.found.now.bindings.items c.push.new.self.items (bound.Rest c.in-Name.variable c.args.list c.args.from) c.in_ok-push-in-Variable.ensures.items h (rest_named w region c.in-Name.variable c.args.list c.args.from can)

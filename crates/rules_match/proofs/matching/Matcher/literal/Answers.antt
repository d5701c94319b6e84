use Rattle.std.proofs.Common.{true, false, [], ◌∷◌, refl, sym, ◌∙◌, subst}
use Rattle.scheme_model.specs.ExpansionFaults.{named}
use Rattle.scheme_model.specs.Matching.{match_of}
use Rattle.syntax_tree.specs.Works.{StandsFor}
use Rattle.rules_match.proofs.Adding.{adds_leaf}
use Rattle.rules_match.proofs.KnownLaws.{literal_is}
use Rattle.rules_match.proofs.matching.Matcher.literal.Goals as goal

pub returns-then-not-contains-clause-finds : goal.returns-then-not-contains-clause-finds
returns-then-not-contains-clause-finds c = λ r same i t knows id fs.
    let q = c.in-Name.ensures.look t fs in
    let e = sym (knows.means c.args.literal c.in-Name.ident i q.0 id q.3) ∙ sym c.contains.ensures ∙ c.if-not-contains.true in
    literal_is same i q.0 t q.1 false q.2 e

pub returns-in_ok-push-in-Name-clause-finds : goal.returns-in_ok-push-in-Name-clause-finds
returns-in_ok-push-in-Name-clause-finds c = λ r same i t knows id fs.
    let w = c.args.self.now.work.now in
    let q = c.in-Name.ensures.look t fs in
    let e = sym (knows.means c.args.literal c.in-Name.ident i q.0 id q.3) ∙ sym c.contains.ensures ∙ c.if-not-contains.false in (
      match_of [] (named q.0 q.1 ∷ []),
      literal_is same i q.0 t q.1 true q.2 e,
      adds_leaf w c.args.found.now (record { bindings = c.args.found.now.bindings; leaves = c.push.new.self }) c.args.form (named q.0 q.1) refl c.in_ok-push-in-Name.ensures.items
          (subst (StandsFor w c.args.form) q.2 fs),
    )

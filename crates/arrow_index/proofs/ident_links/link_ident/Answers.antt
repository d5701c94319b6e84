use Rattle.std.proofs.Common.{◌++◌, Some, map, sym, ◌∙◌}
use Rattle.scheme_model.specs.Spelling.{links_at}
use Rattle.arrow_index.specs.Links.{as_link}
use Rattle.arrow_index.proofs.IdentLaws.{written_defined, written_given, inserted_defined, inserted_on, less_deep}
use Rattle.arrow_index.proofs.ident_links.link_ident.Goals as goal

pub returns-in-Some : goal.returns-in-Some
returns-in-Some c = λ leaves keywords names table rs i sees gives at.
    let r = c.loop-unit.invariant.2 leaves keywords names table rs sees i at in
    let e = written_defined c.args.work.now c.args.sight.now leaves keywords names table rs sees c.loop-unit.at c.in-Written.unit c.in-Written.symbol r.0 c.in-Some.place r.1 c.in-Written.ensures.ident (sym c.in-Some.is ∙ c.definition.ensures) in
    c.in_ok-add_link-in-Some.ensures ∙ (λ j. map as_link (c.loop-unit.invariant.1 j) ++ links_at (Some c.args.target) ((e ∙ sym r.2) j))

pub returns-in-None : goal.returns-in-None
returns-in-None c = λ leaves keywords names table rs i sees gives at.
    let r = c.loop-unit.invariant.2 leaves keywords names table rs sees i at in
    let g = written_given c.args.work.now c.args.sight.now leaves keywords names table rs sees c.loop-unit.at c.in-Written.unit c.in-Written.symbol r.0 r.1 c.in-Written.ensures.ident (sym c.in-None.is ∙ c.definition.ensures) in
    c.in_ok-link_given-in-None.ensures rs g.0 gives g.1 ∙ (λ j. map as_link (c.loop-unit.invariant.1 j) ++ links_at (Some c.args.target) ((g.2 ∙ sym r.2) j))

pub returns-in-Some-definition : goal.returns-in-Some-definition
returns-in-Some-definition c = λ leaves keywords names table rs i sees gives at.
    let r = c.loop-unit.invariant.2 leaves keywords names table rs sees i at in
    let e = inserted_defined c.args.work.now c.args.sight.now leaves keywords names table rs sees c.loop-unit.at c.in-Inserted.id c.in-Inserted.number r.0 c.in-Some-definition.place r.1 c.in-Inserted.ensures.ident (sym c.in-Some-definition.is ∙ c.definition-in-Inserted.ensures) in
    c.in_ok-add_link-in-Some-definition.ensures ∙ (λ j. map as_link (c.loop-unit.invariant.1 j) ++ links_at (Some c.args.target) ((e ∙ sym r.2) j))

pub loop-unit-smaller : goal.loop-unit-smaller
loop-unit-smaller c = less_deep c.args.work.now.symbols c.loop-unit.at c.in-Inserted.id c.in-Inserted.number c.loop-unit.invariant.0 c.in-Inserted.ensures.ident

pub loop-unit-preserved : goal.loop-unit-preserved
loop-unit-preserved c = (
  c.in-Inserted.ensures.placed,
  c.loop-unit.invariant.1,
  λ leaves keywords names table rs sees.
      inserted_on c.args.work.now c.args.sight.now leaves keywords names table rs sees c.args.ident c.loop-unit.at c.in-Inserted.id c.in-Inserted.number (c.loop-unit.invariant.2 leaves keywords names table rs sees) c.in-Inserted.ensures.ident
      (sym c.in-None-definition.is ∙ c.definition-in-Inserted.ensures),
)

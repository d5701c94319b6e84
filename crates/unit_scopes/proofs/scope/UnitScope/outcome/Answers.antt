use Rattle.std.proofs.Common.{Bool, None, sym, ap, ◌∙◌}
use Rattle.scheme_model.specs.Questions.{outcome_by}
use Rattle.scheme_model.specs.ScopedExpansion.{body_around, meaning_next, definition_added, is_defined}
use Rattle.unit_scopes.proofs.DefineLaws.{comes_so, changes}
use Rattle.unit_scopes.proofs.scope.UnitScope.outcome.Goals as goal

pub is_refused-requires : goal.is_refused-requires
is_refused-requires c =
    let work = c.args.work.now in
    let u = c.args.self.now in
    let can = c.requires.can in
    let n = c.requires.name.0 in
    let spot = c.args.spot in
    let name = c.args.name in
    record {
      layout = can.layout;
      state = definition_added (body_around can.frames) n None can.frames can.state;
      means = meaning_next can.state (body_around can.frames) n.name;
      ident = n.name;
      found = can.found;
      comes = comes_so work u can.layout can.state spot.scope can.frames can.stands name n c.told_apart.ensures.idents c.sound.ensures c.requires.name.1 spot.in_body c.args.is_macro c.next_meaning-meaning.result None c.next_meaning-meaning.ensures.value can.placed.inside;
      is = c.requires.name.1.0;
      notes = can.notes;
    }

pub is_defined-requires : goal.is_defined-requires
is_defined-requires c = let can = c.requires.can in (c.args.work.now, can.layout, can.state, can.frames, can.stands, can.placed)

pub returns-then-is_refused : goal.returns-then-is_refused
returns-then-is_refused c = λ ls s fs n r ns stands placed is macro notes.
    let work = c.args.work.now in
    let spot = c.args.spot in
    let b = body_around fs in
    let t = definition_added b n r fs s in
    let m = meaning_next s b n.name in
    let comes = comes_so work c.args.self.now ls s spot.scope fs stands c.args.name n c.told_apart.ensures.idents c.sound.ensures is spot.in_body c.args.is_macro c.next_meaning-meaning.result r c.next_meaning-meaning.ensures.value placed.inside in
    let so = ap (λ (k : Bool). changes n.name t m k ns) macro ∙ (sym (c.is_refused.ensures ls t m n.name ns comes is.0 notes) ∙ c.if-is_refused.true) in
    sym (ap (λ (x : Bool). outcome_by x (is_defined s b n.name)) so)

pub returns-then-is_defined : goal.returns-then-is_defined
returns-then-is_defined c = λ ls s fs n r ns stands placed is macro notes.
    let work = c.args.work.now in
    let spot = c.args.spot in
    let b = body_around fs in
    let t = definition_added b n r fs s in
    let m = meaning_next s b n.name in
    let comes = comes_so work c.args.self.now ls s spot.scope fs stands c.args.name n c.told_apart.ensures.idents c.sound.ensures is spot.in_body c.args.is_macro c.next_meaning-meaning.result r c.next_meaning-meaning.ensures.value placed.inside in
    let so = ap (λ (k : Bool). changes n.name t m k ns) macro ∙ (sym (c.is_refused.ensures ls t m n.name ns comes is.0 notes) ∙ c.if-is_refused.false) in
    let again = sym (c.is_defined.ensures work ls s fs n.name stands placed is.0) ∙ c.if-is_defined.true in
    λ j. outcome_by (sym so j) (sym again j)

pub returns : goal.returns
returns c = λ ls s fs n r ns stands placed is macro notes.
    let work = c.args.work.now in
    let spot = c.args.spot in
    let b = body_around fs in
    let t = definition_added b n r fs s in
    let m = meaning_next s b n.name in
    let comes = comes_so work c.args.self.now ls s spot.scope fs stands c.args.name n c.told_apart.ensures.idents c.sound.ensures is spot.in_body c.args.is_macro c.next_meaning-meaning.result r c.next_meaning-meaning.ensures.value placed.inside in
    let so = ap (λ (k : Bool). changes n.name t m k ns) macro ∙ (sym (c.is_refused.ensures ls t m n.name ns comes is.0 notes) ∙ c.if-is_refused.false) in
    let first = sym (c.is_defined.ensures work ls s fs n.name stands placed is.0) ∙ c.if-is_defined.false in
    λ j. outcome_by (sym so j) (sym first j)

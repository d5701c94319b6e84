use Rattle.std.proofs.Common.{[], ◌∷◌, ◌||◌, refl, false, sym, ap, ◌∙◌}
use Rattle.std.specs.Prelude.{is_some}
use Rattle.scheme_model.specs.ExpansionFaults.{named}
use Rattle.scheme_model.specs.Leaves.{unless}
use Rattle.rules_check.specs.Templates.{dots_where}
use Rattle.rules_check.proofs.Gathering.{adds_none, adds_one, adds_same, unless_true, unless_false, or_first, or_second, or_neither}
use Rattle.rules_check.proofs.leaf.add_name.Goals as goal

pub returns-then-acts_as_dots : goal.returns-then-acts_as_dots
returns-then-acts_as_dots c = λ r depth i o tells has is.
    let old = c.args.leaves.now.items in
    let dots = dots_where c.args.escaped r i in
    let left = dots || is_some (depth i) in
    let skip = or_first dots (is_some (depth i)) (sym (c.acts_as_dots.ensures r i tells is.0) ∙ c.if-acts_as_dots.true) in
    adds_same c.args.work.now.symbols old old [] (unless left (named i o)) (sym (unless_true left (named i o) skip)) (adds_none c.args.work.now.symbols old)

pub returns-then-contains_key : goal.returns-then-contains_key
returns-then-contains_key c = λ r depth i o tells has is.
    let old = c.args.leaves.now.items in
    let dots = dots_where c.args.escaped r i in
    let left = dots || is_some (depth i) in
    let bound = ap is_some (sym (has c.args.name.ident i is.0)) ∙ sym c.contains_key.ensures ∙ c.if-contains_key.true in
    let skip = or_second dots (is_some (depth i)) bound in
    adds_same c.args.work.now.symbols old old [] (unless left (named i o)) (sym (unless_true left (named i o) skip)) (adds_none c.args.work.now.symbols old)

pub returns : goal.returns
returns c = λ r depth i o tells has is.
    let names = c.args.work.now.symbols in
    let old = c.args.leaves.now.items in
    let dots = dots_where c.args.escaped r i in
    let left = dots || is_some (depth i) in
    let free = ap is_some (sym (has c.args.name.ident i is.0)) ∙ sym c.contains_key.ensures ∙ c.if-contains_key.false in
    let kept = or_neither dots (is_some (depth i)) (sym (c.acts_as_dots.ensures r i tells is.0) ∙ c.if-acts_as_dots.false) free in
    adds_same names old c.push.new.self.items (record { leaf = named i o; literal = false } ∷ []) (unless left (named i o)) (sym (unless_false left (named i o) kept))
    (adds_one names old c.push.new.self.items (record { name = c.args.name; literal = false }) (record { leaf = named i o; literal = false }) c.in_ok-push.ensures.items (is, refl))

use Rattle.std.proofs.Common.{◌≡◌, ℕ, ◌<◌, List, [], slice_get, true, refl, sym, ◌∙◌, subst}
use Rattle.std.proofs.lemmas.Option.{slice_get_within}
use Rattle.scheme_model.specs.ScopedExpansion.{Frames, ScopedState}
use Rattle.syntax_tree.specs.declared.trees.Work.{Work}
use Rattle.core_forms.specs.Parts.{IsName}
use Rattle.core_forms.specs.declared.shape.NamePart.{NamePart}
use Rattle.form_parts.specs.declared.items.Spot.{Spot}
use Rattle.unit_scopes.specs.Defining.{IsPlaced}
use Rattle.unit_scopes.specs.Kept.{SpotFor}
use Rattle.unit_scopes.specs.State.{Stands}
use Rattle.unit_scopes.specs.declared.scope.UnitScope.{UnitScope}
use Rattle.declared_parts.specs.Going.{own_spot, name_of, settled}
use Rattle.declared_parts.proofs.GoOn.{goes_next, next_there, few_there}
use Rattle.declared_parts.proofs.MadeNext.{kept_of}
use Rattle.declared_parts.proofs.defining.make_again.Goals as goal

here : (work : Work) (u : UnitScope) (ls : List Frames) (s : ScopedState) (spot : Spot) → spot ≡ own_spot u → Stands work u ls s → SpotFor work u ls s spot []
here work u ls s spot is e = subst (λ (x : Spot). SpotFor work u ls s x []) (sym is) (record { at = e.root; inside = (refl, refl) })

pub bound-before-requires : goal.bound-before-requires
bound-before-requires c = let h = c.requires.4 in subst (λ (len : ℕ). c.args.units.now.root < len) h.stands.env.count (slice_get_within c.requires.2.layout c.args.units.now.root [] h.stands.root)

pub next_macro-requires : goal.next_macro-requires
next_macro-requires c = λ keyword. next_there c.args.work.now c.args.part.now.macros c.args.going.now.macros c.args.definition c.requires.2.again c.requires.2.editions c.requires.4.moment c.requires.5 keyword

pub make-requires : goal.make-requires
make-requires c =
    let work = c.args.work.now in let u = c.args.units.now in let can = c.requires.2 in let h = c.requires.4 in let next = c.requires.5 in
    record {
      can = record {
        layout = can.layout;
        state = settled can.again.now h.moment;
        frames = [];
        named = next.name;
        stands = h.stands;
        placed = here work u can.layout (settled can.again.now h.moment) c.root_of-spot.result c.root_of-spot.ensures h.stands;
        is = subst (λ (n : NamePart). IsName work n next.name) (sym c.name_of.ensures) next.is;
        new = next.new;
      };
      room = few_there work c.requires.0 c.requires.1 c.args.part.now can u c.args.going.now c.requires.3 h;
    }

pub returns : goal.returns
returns c = record {
  next = λ old n can made h next.
      let work = c.args.work.now in let u = c.args.units.now in let v = c.make.new.self in
      let g = c.args.going.now in let g2 = c.next_macro.new.going in
      let s = settled can.again.now h.moment in
      let spot = c.root_of-spot.ensures in
      let name = c.name_of.ensures in
      let kept = c.in_ok-kept.kept in
      let is_macro = c.in_ok-kept.ensures.kept in
      let k = kept_of work can.layout u.root can.editions c.args.definition.keyword (slice_get c.args.part.now.macros g.macros) next.rules kept h.stands.root next.keyword next.macro is_macro in
      let placed = subst (λ (x : Spot). IsPlaced u v x (name_of c.args.definition) kept true) spot (subst (λ (x : NamePart). IsPlaced u v c.root_of-spot.result x kept true) name c.in_ok-make.ensures.placed) in
      let stands = (c.in_ok-make.ensures.made can.layout s [] next.name next.rules h.stands (here work u can.layout s c.root_of-spot.result spot h.stands) (subst (λ (x : NamePart). IsName work x next.name) (sym name) next.is) k.0).stands in
      let rest = c.in_ok-kept.ensures.rest in
      goes_next work c.told_apart.ensures.idents c.told_apart.ensures.symbols old n c.args.part.now can u v g g2 made h c.args.definition kept next is_macro placed stands
      (λ j. (rest j).own) (λ j. (rest j).asked) (λ j. (rest j).macros) c.bound-before.result c.bound-before.ensures ((λ j. (rest j).made.items) ∙ c.in_ok-push.ensures.items);
  macros = λ j. (c.in_ok-kept.ensures.rest j).macros;
}

use Rattle.std.proofs.Common.{ℕ, refl, sym, subst}
use Rattle.std.specs.Prelude.{Option, None, Ok}
use Rattle.scheme_model.specs.Trees.{name}
use Rattle.scheme_model.specs.Building.{value_of, build_tree}
use Rattle.scheme_model.specs.Ident.{same_ident}
use Rattle.rules_build.specs.declared.values.Value as code_value
use Rattle.rules_build.specs.Values.{IsFound}
use Rattle.rules_build.specs.Builds.{inserting, Plans}
use Rattle.rules_build.proofs.EndLaws.{name_marked, found_none}
use Rattle.rules_build.proofs.walk.Walk.name.Goals as goal

pub returns-in-None : goal.returns-in-None
returns-in-None c = λ region k dots i o bounds ms h is holds are.
    let w = c.args.self.now.work.now in
    let v = value_of same_ident ms i in
    let f = c.value_of.ensures w region bounds ms i c.told_apart.ensures.idents is holds are in
    let none = found_none w region k v (subst (λ (x : Option code_value.Value). IsFound w region x v) c.in-None.is f) in
    name_marked w region k dots i o c.place_of.result ms c.args.id c.args.room.now c.spend.result None none refl c.spend.ensures is (c.place_of.ensures (name i o) h)

pub returns-in-Some : goal.returns-in-Some
returns-in-Some c = λ region k dots i o bounds ms h is holds are.
    let w = c.args.self.now.work.now in
    let v = value_of same_ident ms i in
    let f = c.value_of.ensures w region bounds ms i c.told_apart.ensures.idents is holds are in
    let some = subst (λ (x : Option code_value.Value). IsFound w region x v) c.in-Some.is f in
    subst (λ (n : Option ℕ). Plans w region k c.args.room.now n (build_tree (inserting k) dots (name i o) ms) (Ok c.valued.result)) (sym c.spend.ensures) (c.valued.ensures region k dots i o ms c.args.room.now h is some)

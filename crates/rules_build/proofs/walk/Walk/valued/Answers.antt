use Rattle.std.proofs.Common.{refl, ap, subst}
use Rattle.std.specs.Prelude.{Some}
use Rattle.scheme_model.specs.Trees.{name}
use Rattle.scheme_model.specs.Matching.{Many}
use Rattle.scheme_model.specs.Building.{value_of}
use Rattle.scheme_model.specs.Ident.{same_ident}
use Rattle.rules_build.specs.declared.values.Value as code_value
use Rattle.rules_build.specs.Values.{IsFound}
use Rattle.rules_build.specs.Drafts.{spent}
use Rattle.rules_build.proofs.EndLaws.{name_marked, name_held, name_rest, found_one, found_rest, is_many, found_many}
use Rattle.rules_build.proofs.walk.Walk.valued.Goals as goal

pub returns-in-Many : goal.returns-in-Many
returns-in-Many c = λ region k dots i o ms room h is f.
    let w = c.args.self.now.work.now in
    let v = value_of same_ident ms i in
    let many = found_many w region k c.args.value v (ap (is_many w region k) c.in-Many.is) f in
    name_marked w region k dots i o c.place_of.result ms c.args.id room (spent room 1) (Some (Many many.0)) many.1 refl refl is (c.place_of.ensures (name i o) h)

pub returns-in-One : goal.returns-in-One
returns-in-One c = λ region k dots i o ms room h is f.
    let w = c.args.self.now.work.now in
    let v = value_of same_ident ms i in
    let one = found_one w region k c.in-One.tree v (subst (λ (x : code_value.Value). IsFound w region (Some x) v) c.in-One.is f) in
    name_held w region k dots i o ms c.in-One.tree one.0 room (spent room 1) one.1 refl one.2 one.3

pub returns-in-Rest : goal.returns-in-Rest
returns-in-Rest c = λ region k dots i o ms room h is f.
    let w = c.args.self.now.work.now in
    let v = value_of same_ident ms i in
    let rest = found_rest w region k c.in-Rest.list c.in-Rest.from v (subst (λ (x : code_value.Value). IsFound w region (Some x) v) c.in-Rest.is f) in
    name_rest w region k dots i o ms c.in-Rest.list c.in-Rest.from rest.0 c.new.result room (spent room 1) rest.1 refl c.new.ensures.items rest.2 rest.3

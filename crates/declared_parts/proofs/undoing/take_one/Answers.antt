use Rattle.std.proofs.Common.{refl}
use Rattle.unit_scopes.specs.Macros.{macro_in}
use Rattle.unit_scopes.specs.declared.scope.UnitScope.{UnitScope}
use Rattle.declared_parts.proofs.UndoneLaws.{root_there, bound_there, macro_taken, all_back}
use Rattle.declared_parts.proofs.undoing.take_one.Goals as goal

pub put_back-requires : goal.put_back-requires
put_back-requires c =
    let h = c.requires in
    record { scope = root_there h.0 c.args.units.now c.args.made h.1; bound = bound_there h.0 c.args.units.now c.args.made h.1 }

pub returns-then-not-made : goal.returns-then-not-made
returns-then-not-made c = λ before h.
    let v = c.args.units.now in let x = c.args.made in
    let w : UnitScope = record v { env = c.put_back.new.self; defined = c.remove.new.self } in
    all_back before v w x h (record { unit = refl; kind = refl; root = refl; libraries = refl; asked = refl }) c.put_back.ensures c.remove.ensures.updates.0 c.remove.result c.remove.ensures.value c.remove.ensures.len
    (h.plain c.if-not-made.true)

pub returns : goal.returns
returns c = λ before h.
    let v = c.args.units.now in let x = c.args.made in
    let w : UnitScope = record v { env = c.put_back.new.self; defined = c.remove.new.self; macros = c.take.new.self } in
    all_back before v w x h (record { unit = refl; kind = refl; root = refl; libraries = refl; asked = refl }) c.put_back.ensures c.remove.ensures.updates.0 c.remove.result c.remove.ensures.value c.remove.ensures.len
    (λ form m. macro_taken before v w x h form m (macro_in w.macros form m) (c.take.ensures.gone form m))

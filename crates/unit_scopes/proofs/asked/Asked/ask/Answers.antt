use Rattle.std.proofs.Common.{◌∙◌}
use Rattle.unit_scopes.specs.Asks.{numbers_in}
use Rattle.unit_scopes.proofs.AskLaws.{asks_inserted, asks_written, fewer_layers, known_inside, known_written, not_asked}
use Rattle.unit_scopes.proofs.asked.Asked.ask.Goals as goal

pub returns-in-Written-clause-numbers : goal.returns-in-Written-clause-numbers
returns-in-Written-clause-numbers c = λ n x is.
    let names = c.args.symbols.now in
    let here = c.in-Written.ensures in
    asks_written names c.told_apart.ensures.idents c.args.number c.inside.at c.in-Written.unit c.in-Written.symbol here.ident here.placed n x is (numbers_in c.inside.self n) (numbers_in c.ask_one.new.self n) (c.in_ok-ask_one.ensures.numbers n)
    ∙ c.inside.invariant.numbers n x is

pub returns-in-Written-clause-known : goal.returns-in-Written-clause-known
returns-in-Written-clause-known c =
    let here = c.in-Written.ensures in
    c.inside.invariant.known (known_written c.args.symbols.now c.inside.at c.in-Written.unit c.in-Written.symbol here.ident here.placed)

pub inside-smaller : goal.inside-smaller
inside-smaller c =
    let here = c.in-Inserted.ensures in
    fewer_layers c.args.symbols.now c.inside.at c.in-Inserted.id c.in-Inserted.number here.ident here.placed

pub inside-preserved : goal.inside-preserved
inside-preserved c =
    let names = c.args.symbols.now in
    let here = c.in-Inserted.ensures in
    record {
      within = here.placed;
      notes = c.in_ok-ask_one.ensures.notes ∙ c.inside.invariant.notes;
      numbers = λ n x is.
          asks_inserted names c.told_apart.ensures.idents c.args.number c.inside.at c.in-Inserted.id c.in-Inserted.number here.ident here.placed n x is (numbers_in c.inside.self n) (numbers_in c.ask_one.new.self n) (c.in_ok-ask_one.ensures.numbers n)
          ∙ c.inside.invariant.numbers n x is;
      others = λ n le.
          not_asked names n c.inside.at (numbers_in c.inside.self n) (numbers_in c.ask_one.new.self n) c.args.number le c.inside.invariant.within (c.in_ok-ask_one.ensures.numbers n) ∙ c.inside.invariant.others n le;
      known = λ h. c.inside.invariant.known (known_inside names c.inside.at c.in-Inserted.id c.in-Inserted.number here.ident here.placed h);
    }

use Rattle.moves.specs.Numbers.{numbers_of}
use Rattle.moved_entries.proofs.LeftLaws.{function_moves, assigned_moves, values_moves, record_moves}
use Rattle.moved_entries.proofs.left.kept.Goals as goal

pub returns-in-Function : goal.returns-in-Function
returns-in-Function c =
    let q = c.in-Function in
    function_moves (numbers_of c.args.moves.now) c.args.it.now q.here c.place.result q.shape c.clause.new.it c.place.ensures c.clause.ensures q.binder c.binder-in-Function.result q.is c.binder-in-Function.ensures

pub returns-in-AssignedFunction : goal.returns-in-AssignedFunction
returns-in-AssignedFunction c =
    let q = c.in-AssignedFunction in
    assigned_moves (numbers_of c.args.moves.now) c.args.it.now q.here c.place-in-AssignedFunction.result q.shape c.clause-in-AssignedFunction.new.it c.place-in-AssignedFunction.ensures c.clause-in-AssignedFunction.ensures
    q.target c.name-in-AssignedFunction.result q.is c.name-in-AssignedFunction.ensures

pub returns-in-Values : goal.returns-in-Values
returns-in-Values c =
    let q = c.in-Values in
    values_moves (numbers_of c.args.moves.now) c.args.it.now q.binders c.binders.new.all q.dotted q.value c.form-in-Values.result q.is c.binders.ensures.items c.form-in-Values.ensures

pub returns-in-Record : goal.returns-in-Record
returns-in-Record c =
    let q = c.in-Record in
    record_moves (numbers_of c.args.moves.now) c.args.it.now q.binders c.binders-in-Record.new.all q.fields c.binders-in-Record-2.new.all q.modified q.used c.fields.new.all q.is c.binders-in-Record.ensures.items c.binders-in-Record-2.ensures.items c.fields.ensures.items

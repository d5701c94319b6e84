-- The answers of the cycle of cores, which stand in the files below by the calls that they are of.
mod Bodies
mod Rows
mod Items
mod Assigned
mod Shapes
mod Arms
mod Locals
use Rattle.expander.proofs.cores.+core.Answers.Bodies as bodies
use Rattle.expander.proofs.cores.+core.Answers.Rows as rows
use Rattle.expander.proofs.cores.+core.Answers.Items as items
use Rattle.expander.proofs.cores.+core.Answers.Assigned as assigned
use Rattle.expander.proofs.cores.+core.Answers.Shapes as shapes
use Rattle.expander.proofs.cores.+core.Answers.Arms as arms
use Rattle.expander.proofs.cores.+core.Answers.Locals as locals
use Rattle.expander.proofs.cores.+core.Goals as goal

-- ---- bodies, clauses and procedures

pub body-below-requires : goal.body-below-requires
body-below-requires = bodies.body-below-requires

pub body-returns-in_err-below-clause-runs : goal.body-returns-in_err-below-clause-runs
body-returns-in_err-below-clause-runs = bodies.body-returns-in_err-below-clause-runs

pub body-pass_body-requires-clause-opened : goal.body-pass_body-requires-clause-opened
body-pass_body-requires-clause-opened = bodies.body-pass_body-requires-clause-opened

pub body-pass_body-requires-clause-can : goal.body-pass_body-requires-clause-can
body-pass_body-requires-clause-can = bodies.body-pass_body-requires-clause-can

pub body-returns-in_err-scope-clause-runs : goal.body-returns-in_err-scope-clause-runs
body-returns-in_err-scope-clause-runs = bodies.body-returns-in_err-scope-clause-runs

pub body-expand_kept-requires : goal.body-expand_kept-requires
body-expand_kept-requires = bodies.body-expand_kept-requires

pub body-returns-in_err-expand_kept-clause-runs : goal.body-returns-in_err-expand_kept-clause-runs
body-returns-in_err-expand_kept-clause-runs = bodies.body-returns-in_err-expand_kept-clause-runs

pub body-returns-clause-runs : goal.body-returns-clause-runs
body-returns-clause-runs = bodies.body-returns-clause-runs

pub body-returns-clause-locals : goal.body-returns-clause-locals
body-returns-clause-locals = bodies.body-returns-clause-locals

pub procedure-bind_names-requires-clause-scope : goal.procedure-bind_names-requires-clause-scope
procedure-bind_names-requires-clause-scope = bodies.procedure-bind_names-requires-clause-scope

pub procedure-bind_names-requires-clause-room : goal.procedure-bind_names-requires-clause-room
procedure-bind_names-requires-clause-room = bodies.procedure-bind_names-requires-clause-room

pub procedure-returns-in_err-scope-clause-runs : goal.procedure-returns-in_err-scope-clause-runs
procedure-returns-in_err-scope-clause-runs = bodies.procedure-returns-in_err-scope-clause-runs

pub procedure-body-requires : goal.procedure-body-requires
procedure-body-requires = bodies.procedure-body-requires

pub procedure-returns-in_err-body-clause-runs : goal.procedure-returns-in_err-body-clause-runs
procedure-returns-in_err-body-clause-runs = bodies.procedure-returns-in_err-body-clause-runs

pub procedure-returns-in_err-new-clause-runs : goal.procedure-returns-in_err-new-clause-runs
procedure-returns-in_err-new-clause-runs = bodies.procedure-returns-in_err-new-clause-runs

pub procedure-returns-clause-runs : goal.procedure-returns-clause-runs
procedure-returns-clause-runs = bodies.procedure-returns-clause-runs

pub procedure-returns-clause-locals : goal.procedure-returns-clause-locals
procedure-returns-clause-locals = bodies.procedure-returns-clause-locals

pub procedures-returns-in_err-all-clause-runs : goal.procedures-returns-in_err-all-clause-runs
procedures-returns-in_err-all-clause-runs = bodies.procedures-returns-in_err-all-clause-runs

pub procedures-loop-clause-init : goal.procedures-loop-clause-init
procedures-loop-clause-init = bodies.procedures-loop-clause-init

pub procedures-procedure-requires : goal.procedures-procedure-requires
procedures-procedure-requires = bodies.procedures-procedure-requires

pub procedures-returns-in_err-next-clause-runs : goal.procedures-returns-in_err-next-clause-runs
procedures-returns-in_err-next-clause-runs = bodies.procedures-returns-in_err-next-clause-runs

pub procedures-returns-in_err-push-clause-runs : goal.procedures-returns-in_err-push-clause-runs
procedures-returns-in_err-push-clause-runs = bodies.procedures-returns-in_err-push-clause-runs

pub procedures-loop-clause-preserved : goal.procedures-loop-clause-preserved
procedures-loop-clause-preserved = bodies.procedures-loop-clause-preserved

pub procedures-returns-clause-runs : goal.procedures-returns-clause-runs
procedures-returns-clause-runs = bodies.procedures-returns-clause-runs

pub procedures-returns-clause-locals : goal.procedures-returns-clause-locals
procedures-returns-clause-locals = bodies.procedures-returns-clause-locals

pub lambda-below-requires : goal.lambda-below-requires
lambda-below-requires = bodies.lambda-below-requires

pub lambda-returns-in_err-below-clause-runs : goal.lambda-returns-in_err-below-clause-runs
lambda-returns-in_err-below-clause-runs = bodies.lambda-returns-in_err-below-clause-runs

pub lambda-procedure-requires : goal.lambda-procedure-requires
lambda-procedure-requires = bodies.lambda-procedure-requires

pub lambda-returns-in_err-procedure-clause-runs : goal.lambda-returns-in_err-procedure-clause-runs
lambda-returns-in_err-procedure-clause-runs = bodies.lambda-returns-in_err-procedure-clause-runs

pub lambda-returns-clause-runs : goal.lambda-returns-clause-runs
lambda-returns-clause-runs = bodies.lambda-returns-clause-runs

pub lambda-returns-clause-locals : goal.lambda-returns-clause-locals
lambda-returns-clause-locals = bodies.lambda-returns-clause-locals

-- ---- expressions, alone and one after another

pub expand-returns-in_err-here-clause-runs : goal.expand-returns-in_err-here-clause-runs
expand-returns-in_err-here-clause-runs = rows.expand-returns-in_err-here-clause-runs

pub expand-returns-in-Core-clause-runs : goal.expand-returns-in-Core-clause-runs
expand-returns-in-Core-clause-runs = rows.expand-returns-in-Core-clause-runs

pub expand-returns-in-Core-clause-locals : goal.expand-returns-in-Core-clause-locals
expand-returns-in-Core-clause-locals = rows.expand-returns-in-Core-clause-locals

pub expand-below-requires : goal.expand-below-requires
expand-below-requires = rows.expand-below-requires

pub expand-returns-in_err-below-in-Call-clause-runs : goal.expand-returns-in_err-below-in-Call-clause-runs
expand-returns-in_err-below-in-Call-clause-runs = rows.expand-returns-in_err-below-in-Call-clause-runs

pub expand-expand_all-requires : goal.expand-expand_all-requires
expand-expand_all-requires = rows.expand-expand_all-requires

pub expand-returns-in_err-expand_all-in-Call-clause-runs : goal.expand-returns-in_err-expand_all-in-Call-clause-runs
expand-returns-in_err-expand_all-in-Call-clause-runs = rows.expand-returns-in_err-expand_all-in-Call-clause-runs

pub expand-returns-in_ok-expand_all-in-Call-clause-runs : goal.expand-returns-in_ok-expand_all-in-Call-clause-runs
expand-returns-in_ok-expand_all-in-Call-clause-runs = rows.expand-returns-in_ok-expand_all-in-Call-clause-runs

pub expand-returns-in_ok-expand_all-in-Call-clause-locals : goal.expand-returns-in_ok-expand_all-in-Call-clause-locals
expand-returns-in_ok-expand_all-in-Call-clause-locals = rows.expand-returns-in_ok-expand_all-in-Call-clause-locals

pub expand-expand_shape-requires : goal.expand-expand_shape-requires
expand-expand_shape-requires = rows.expand-expand_shape-requires

pub expand-returns-in_err-expand_shape-in-Shape-clause-runs : goal.expand-returns-in_err-expand_shape-in-Shape-clause-runs
expand-returns-in_err-expand_shape-in-Shape-clause-runs = rows.expand-returns-in_err-expand_shape-in-Shape-clause-runs

pub expand-returns-in_ok-expand_shape-in-Shape-clause-runs : goal.expand-returns-in_ok-expand_shape-in-Shape-clause-runs
expand-returns-in_ok-expand_shape-in-Shape-clause-runs = rows.expand-returns-in_ok-expand_shape-in-Shape-clause-runs

pub expand-returns-in_ok-expand_shape-in-Shape-clause-locals : goal.expand-returns-in_ok-expand_shape-in-Shape-clause-locals
expand-returns-in_ok-expand_shape-in-Shape-clause-locals = rows.expand-returns-in_ok-expand_shape-in-Shape-clause-locals

pub expand_all-returns-in_err-cores-clause-runs : goal.expand_all-returns-in_err-cores-clause-runs
expand_all-returns-in_err-cores-clause-runs = rows.expand_all-returns-in_err-cores-clause-runs

pub expand_all-loop-part-init : goal.expand_all-loop-part-init
expand_all-loop-part-init = rows.expand_all-loop-part-init

pub expand_all-expand-requires : goal.expand_all-expand-requires
expand_all-expand-requires = rows.expand_all-expand-requires

pub expand_all-returns-in_err-core-clause-runs : goal.expand_all-returns-in_err-core-clause-runs
expand_all-returns-in_err-core-clause-runs = rows.expand_all-returns-in_err-core-clause-runs

pub expand_all-returns-in_err-push-clause-runs : goal.expand_all-returns-in_err-push-clause-runs
expand_all-returns-in_err-push-clause-runs = rows.expand_all-returns-in_err-push-clause-runs

pub expand_all-loop-part-preserved : goal.expand_all-loop-part-preserved
expand_all-loop-part-preserved = rows.expand_all-loop-part-preserved

pub expand_all-returns-clause-runs : goal.expand_all-returns-clause-runs
expand_all-returns-clause-runs = rows.expand_all-returns-clause-runs

pub expand_all-returns-clause-locals : goal.expand_all-returns-clause-locals
expand_all-returns-clause-locals = rows.expand_all-returns-clause-locals

pub sequence-below-requires : goal.sequence-below-requires
sequence-below-requires = rows.sequence-below-requires

pub sequence-returns-in_err-below-clause-runs : goal.sequence-returns-in_err-below-clause-runs
sequence-returns-in_err-below-clause-runs = rows.sequence-returns-in_err-below-clause-runs

pub sequence-returns-in_err-parts-clause-runs : goal.sequence-returns-in_err-parts-clause-runs
sequence-returns-in_err-parts-clause-runs = rows.sequence-returns-in_err-parts-clause-runs

pub sequence-loop-form-init : goal.sequence-loop-form-init
sequence-loop-form-init = rows.sequence-loop-form-init

pub sequence-expand-requires : goal.sequence-expand-requires
sequence-expand-requires = rows.sequence-expand-requires

pub sequence-returns-in_err-core-clause-runs : goal.sequence-returns-in_err-core-clause-runs
sequence-returns-in_err-core-clause-runs = rows.sequence-returns-in_err-core-clause-runs

pub sequence-returns-in_err-push-clause-runs : goal.sequence-returns-in_err-push-clause-runs
sequence-returns-in_err-push-clause-runs = rows.sequence-returns-in_err-push-clause-runs

pub sequence-loop-form-preserved : goal.sequence-loop-form-preserved
sequence-loop-form-preserved = rows.sequence-loop-form-preserved

pub sequence-returns-clause-runs : goal.sequence-returns-clause-runs
sequence-returns-clause-runs = rows.sequence-returns-clause-runs

pub sequence-returns-clause-locals : goal.sequence-returns-clause-locals
sequence-returns-clause-locals = rows.sequence-returns-clause-locals

-- ---- what was set aside

pub expand_kept-returns-in_err-parts-clause-runs : goal.expand_kept-returns-in_err-parts-clause-runs
expand_kept-returns-in_err-parts-clause-runs = items.expand_kept-returns-in_err-parts-clause-runs

pub expand_kept-loop-kept-init : goal.expand_kept-loop-kept-init
expand_kept-loop-kept-init = items.expand_kept-loop-kept-init

pub expand_kept-expand_kept_item-requires : goal.expand_kept-expand_kept_item-requires
expand_kept-expand_kept_item-requires = items.expand_kept-expand_kept_item-requires

pub expand_kept-returns-in_err-part-clause-runs : goal.expand_kept-returns-in_err-part-clause-runs
expand_kept-returns-in_err-part-clause-runs = items.expand_kept-returns-in_err-part-clause-runs

pub expand_kept-returns-in_err-push-clause-runs : goal.expand_kept-returns-in_err-push-clause-runs
expand_kept-returns-in_err-push-clause-runs = items.expand_kept-returns-in_err-push-clause-runs

pub expand_kept-loop-kept-preserved : goal.expand_kept-loop-kept-preserved
expand_kept-loop-kept-preserved = items.expand_kept-loop-kept-preserved

pub expand_kept-returns-clause-runs : goal.expand_kept-returns-clause-runs
expand_kept-returns-clause-runs = items.expand_kept-returns-clause-runs

pub expand_kept-returns-clause-locals : goal.expand_kept-returns-clause-locals
expand_kept-returns-clause-locals = items.expand_kept-returns-clause-locals

pub expand_kept_item-expand-requires : goal.expand_kept_item-expand-requires
expand_kept_item-expand-requires = items.expand_kept_item-expand-requires

pub expand_kept_item-returns-in_err-expand-in-Expression-clause-runs : goal.expand_kept_item-returns-in_err-expand-in-Expression-clause-runs
expand_kept_item-returns-in_err-expand-in-Expression-clause-runs = items.expand_kept_item-returns-in_err-expand-in-Expression-clause-runs

pub expand_kept_item-returns-in_ok-expand-in-Expression-clause-runs : goal.expand_kept_item-returns-in_ok-expand-in-Expression-clause-runs
expand_kept_item-returns-in_ok-expand-in-Expression-clause-runs = items.expand_kept_item-returns-in_ok-expand-in-Expression-clause-runs

pub expand_kept_item-returns-in_ok-expand-in-Expression-clause-locals : goal.expand_kept_item-returns-in_ok-expand-in-Expression-clause-locals
expand_kept_item-returns-in_ok-expand-in-Expression-clause-locals = items.expand_kept_item-returns-in_ok-expand-in-Expression-clause-locals

pub expand_kept_item-expand-requires-in-Value : goal.expand_kept_item-expand-requires-in-Value
expand_kept_item-expand-requires-in-Value = items.expand_kept_item-expand-requires-in-Value

pub expand_kept_item-returns-in_err-value-in-Value-clause-runs : goal.expand_kept_item-returns-in_err-value-in-Value-clause-runs
expand_kept_item-returns-in_err-value-in-Value-clause-runs = items.expand_kept_item-returns-in_err-value-in-Value-clause-runs

pub expand_kept_item-returns-in_ok-value-in-Value-clause-runs : goal.expand_kept_item-returns-in_ok-value-in-Value-clause-runs
expand_kept_item-returns-in_ok-value-in-Value-clause-runs = items.expand_kept_item-returns-in_ok-value-in-Value-clause-runs

pub expand_kept_item-returns-in_ok-value-in-Value-clause-locals : goal.expand_kept_item-returns-in_ok-value-in-Value-clause-locals
expand_kept_item-returns-in_ok-value-in-Value-clause-locals = items.expand_kept_item-returns-in_ok-value-in-Value-clause-locals

pub expand_kept_item-expand-requires-in-Values : goal.expand_kept_item-expand-requires-in-Values
expand_kept_item-expand-requires-in-Values = items.expand_kept_item-expand-requires-in-Values

pub expand_kept_item-returns-in_err-value-in-Values-clause-runs : goal.expand_kept_item-returns-in_err-value-in-Values-clause-runs
expand_kept_item-returns-in_err-value-in-Values-clause-runs = items.expand_kept_item-returns-in_err-value-in-Values-clause-runs

pub expand_kept_item-returns-in_ok-from_slice-in-Values-clause-runs : goal.expand_kept_item-returns-in_ok-from_slice-in-Values-clause-runs
expand_kept_item-returns-in_ok-from_slice-in-Values-clause-runs = items.expand_kept_item-returns-in_ok-from_slice-in-Values-clause-runs

pub expand_kept_item-returns-in_ok-from_slice-in-Values-clause-locals : goal.expand_kept_item-returns-in_ok-from_slice-in-Values-clause-locals
expand_kept_item-returns-in_ok-from_slice-in-Values-clause-locals = items.expand_kept_item-returns-in_ok-from_slice-in-Values-clause-locals

pub expand_kept_item-lambda-requires : goal.expand_kept_item-lambda-requires
expand_kept_item-lambda-requires = items.expand_kept_item-lambda-requires

pub expand_kept_item-returns-in_err-value-in-Function-clause-runs : goal.expand_kept_item-returns-in_err-value-in-Function-clause-runs
expand_kept_item-returns-in_err-value-in-Function-clause-runs = items.expand_kept_item-returns-in_err-value-in-Function-clause-runs

pub expand_kept_item-returns-in_ok-value-in-Function-clause-runs : goal.expand_kept_item-returns-in_ok-value-in-Function-clause-runs
expand_kept_item-returns-in_ok-value-in-Function-clause-runs = items.expand_kept_item-returns-in_ok-value-in-Function-clause-runs

pub expand_kept_item-returns-in_ok-value-in-Function-clause-locals : goal.expand_kept_item-returns-in_ok-value-in-Function-clause-locals
expand_kept_item-returns-in_ok-value-in-Function-clause-locals = items.expand_kept_item-returns-in_ok-value-in-Function-clause-locals

pub expand_kept_item-returns-in_err-from_slice-in-Values-clause-runs : goal.expand_kept_item-returns-in_err-from_slice-in-Values-clause-runs
expand_kept_item-returns-in_err-from_slice-in-Values-clause-runs = items.expand_kept_item-returns-in_err-from_slice-in-Values-clause-runs

pub expand_kept_item-returns-in_err-from_slice-in-Record-clause-runs : goal.expand_kept_item-returns-in_err-from_slice-in-Record-clause-runs
expand_kept_item-returns-in_err-from_slice-in-Record-clause-runs = items.expand_kept_item-returns-in_err-from_slice-in-Record-clause-runs

pub expand_kept_item-returns-in_err-from_slice-in-Record-2-clause-runs : goal.expand_kept_item-returns-in_err-from_slice-in-Record-2-clause-runs
expand_kept_item-returns-in_err-from_slice-in-Record-2-clause-runs = items.expand_kept_item-returns-in_err-from_slice-in-Record-2-clause-runs

pub expand_kept_item-returns-in_err-from_slice-in-Record-3-clause-runs : goal.expand_kept_item-returns-in_err-from_slice-in-Record-3-clause-runs
expand_kept_item-returns-in_err-from_slice-in-Record-3-clause-runs = items.expand_kept_item-returns-in_err-from_slice-in-Record-3-clause-runs

pub expand_kept_item-returns-in_err-from_slice-in-Record-4-clause-runs : goal.expand_kept_item-returns-in_err-from_slice-in-Record-4-clause-runs
expand_kept_item-returns-in_err-from_slice-in-Record-4-clause-runs = items.expand_kept_item-returns-in_err-from_slice-in-Record-4-clause-runs

pub expand_kept_item-returns-in_err-macro_def-in-Macro-clause-runs : goal.expand_kept_item-returns-in_err-macro_def-in-Macro-clause-runs
expand_kept_item-returns-in_err-macro_def-in-Macro-clause-runs = items.expand_kept_item-returns-in_err-macro_def-in-Macro-clause-runs

pub expand_kept_item-returns-in_ok-from_slice-in-Record-4-clause-runs : goal.expand_kept_item-returns-in_ok-from_slice-in-Record-4-clause-runs
expand_kept_item-returns-in_ok-from_slice-in-Record-4-clause-runs = items.expand_kept_item-returns-in_ok-from_slice-in-Record-4-clause-runs

pub expand_kept_item-returns-in_ok-from_slice-in-Record-4-clause-locals : goal.expand_kept_item-returns-in_ok-from_slice-in-Record-4-clause-locals
expand_kept_item-returns-in_ok-from_slice-in-Record-4-clause-locals = items.expand_kept_item-returns-in_ok-from_slice-in-Record-4-clause-locals

pub expand_kept_item-macro_def-requires : goal.expand_kept_item-macro_def-requires
expand_kept_item-macro_def-requires = items.expand_kept_item-macro_def-requires

pub expand_kept_item-returns-in_ok-macro_def-in-Macro-clause-runs : goal.expand_kept_item-returns-in_ok-macro_def-in-Macro-clause-runs
expand_kept_item-returns-in_ok-macro_def-in-Macro-clause-runs = items.expand_kept_item-returns-in_ok-macro_def-in-Macro-clause-runs

pub expand_kept_item-returns-in_ok-macro_def-in-Macro-clause-locals : goal.expand_kept_item-returns-in_ok-macro_def-in-Macro-clause-locals
expand_kept_item-returns-in_ok-macro_def-in-Macro-clause-locals = items.expand_kept_item-returns-in_ok-macro_def-in-Macro-clause-locals

-- ---- assignments

pub set-variable-requires-clause-look : goal.set-variable-requires-clause-look
set-variable-requires-clause-look = assigned.set-variable-requires-clause-look

pub set-variable-requires-clause-name : goal.set-variable-requires-clause-name
set-variable-requires-clause-name = assigned.set-variable-requires-clause-name

pub set-returns-in_err-target-clause-runs : goal.set-returns-in_err-target-clause-runs
set-returns-in_err-target-clause-runs = assigned.set-returns-in_err-target-clause-runs

pub set-below-requires : goal.set-below-requires
set-below-requires = assigned.set-below-requires

pub set-returns-in_err-below-clause-runs : goal.set-returns-in_err-below-clause-runs
set-returns-in_err-below-clause-runs = assigned.set-returns-in_err-below-clause-runs

pub set-expand-requires : goal.set-expand-requires
set-expand-requires = assigned.set-expand-requires

pub set-returns-in_err-value-clause-runs : goal.set-returns-in_err-value-clause-runs
set-returns-in_err-value-clause-runs = assigned.set-returns-in_err-value-clause-runs

pub set-returns-in_err-new-clause-runs : goal.set-returns-in_err-new-clause-runs
set-returns-in_err-new-clause-runs = assigned.set-returns-in_err-new-clause-runs

pub set-returns-clause-runs : goal.set-returns-clause-runs
set-returns-clause-runs = assigned.set-returns-clause-runs

pub set-returns-clause-locals : goal.set-returns-clause-locals
set-returns-clause-locals = assigned.set-returns-clause-locals

-- ---- later definitions of a program, read as assignments

pub assign-below-requires : goal.assign-below-requires
assign-below-requires = assigned.assign-below-requires

pub assign-target-target-requires-clause-look : goal.assign-target-target-requires-clause-look
assign-target-target-requires-clause-look = assigned.assign-target-target-requires-clause-look

pub assign-target-target-requires-clause-ident : goal.assign-target-target-requires-clause-ident
assign-target-target-requires-clause-ident = assigned.assign-target-target-requires-clause-ident

pub assign-note-requires : goal.assign-note-requires
assign-note-requires = assigned.assign-note-requires

pub assign-expand-requires : goal.assign-expand-requires
assign-expand-requires = assigned.assign-expand-requires

pub assign-returns-in_err-below-clause-runs : goal.assign-returns-in_err-below-clause-runs
assign-returns-in_err-below-clause-runs = assigned.assign-returns-in_err-below-clause-runs

pub assign-returns-in_err-value-clause-runs : goal.assign-returns-in_err-value-clause-runs
assign-returns-in_err-value-clause-runs = assigned.assign-returns-in_err-value-clause-runs

pub assign-returns-in_err-new-clause-runs : goal.assign-returns-in_err-new-clause-runs
assign-returns-in_err-new-clause-runs = assigned.assign-returns-in_err-new-clause-runs

pub assign-returns-clause-runs : goal.assign-returns-clause-runs
assign-returns-clause-runs = assigned.assign-returns-clause-runs

pub assign-returns-clause-locals : goal.assign-returns-clause-locals
assign-returns-clause-locals = assigned.assign-returns-clause-locals

pub assign_procedure-below-requires : goal.assign_procedure-below-requires
assign_procedure-below-requires = assigned.assign_procedure-below-requires

pub assign_procedure-target-target-requires-clause-look : goal.assign_procedure-target-target-requires-clause-look
assign_procedure-target-target-requires-clause-look = assigned.assign_procedure-target-target-requires-clause-look

pub assign_procedure-target-target-requires-clause-ident : goal.assign_procedure-target-target-requires-clause-ident
assign_procedure-target-target-requires-clause-ident = assigned.assign_procedure-target-target-requires-clause-ident

pub assign_procedure-note-requires : goal.assign_procedure-note-requires
assign_procedure-note-requires = assigned.assign_procedure-note-requires

pub assign_procedure-lambda-requires : goal.assign_procedure-lambda-requires
assign_procedure-lambda-requires = assigned.assign_procedure-lambda-requires

pub assign_procedure-returns-in_err-below-clause-runs : goal.assign_procedure-returns-in_err-below-clause-runs
assign_procedure-returns-in_err-below-clause-runs = assigned.assign_procedure-returns-in_err-below-clause-runs

pub assign_procedure-returns-in_err-value-clause-runs : goal.assign_procedure-returns-in_err-value-clause-runs
assign_procedure-returns-in_err-value-clause-runs = assigned.assign_procedure-returns-in_err-value-clause-runs

pub assign_procedure-returns-in_err-new-clause-runs : goal.assign_procedure-returns-in_err-new-clause-runs
assign_procedure-returns-in_err-new-clause-runs = assigned.assign_procedure-returns-in_err-new-clause-runs

pub assign_procedure-returns-clause-runs : goal.assign_procedure-returns-clause-runs
assign_procedure-returns-clause-runs = assigned.assign_procedure-returns-clause-runs

pub assign_procedure-returns-clause-locals : goal.assign_procedure-returns-clause-locals
assign_procedure-returns-clause-locals = assigned.assign_procedure-returns-clause-locals

pub expand_kept_item-assign-requires : goal.expand_kept_item-assign-requires
expand_kept_item-assign-requires = assigned.expand_kept_item-assign-requires

pub expand_kept_item-returns-in_err-value-in-Assigned-clause-runs : goal.expand_kept_item-returns-in_err-value-in-Assigned-clause-runs
expand_kept_item-returns-in_err-value-in-Assigned-clause-runs = assigned.expand_kept_item-returns-in_err-value-in-Assigned-clause-runs

pub expand_kept_item-returns-in_ok-value-in-Assigned-clause-runs : goal.expand_kept_item-returns-in_ok-value-in-Assigned-clause-runs
expand_kept_item-returns-in_ok-value-in-Assigned-clause-runs = assigned.expand_kept_item-returns-in_ok-value-in-Assigned-clause-runs

pub expand_kept_item-returns-in_ok-value-in-Assigned-clause-locals : goal.expand_kept_item-returns-in_ok-value-in-Assigned-clause-locals
expand_kept_item-returns-in_ok-value-in-Assigned-clause-locals = assigned.expand_kept_item-returns-in_ok-value-in-Assigned-clause-locals

pub expand_kept_item-assign_procedure-requires : goal.expand_kept_item-assign_procedure-requires
expand_kept_item-assign_procedure-requires = assigned.expand_kept_item-assign_procedure-requires

pub expand_kept_item-returns-in_err-value-in-AssignedFunction-clause-runs : goal.expand_kept_item-returns-in_err-value-in-AssignedFunction-clause-runs
expand_kept_item-returns-in_err-value-in-AssignedFunction-clause-runs = assigned.expand_kept_item-returns-in_err-value-in-AssignedFunction-clause-runs

pub expand_kept_item-returns-in_ok-value-in-AssignedFunction-clause-runs : goal.expand_kept_item-returns-in_ok-value-in-AssignedFunction-clause-runs
expand_kept_item-returns-in_ok-value-in-AssignedFunction-clause-runs = assigned.expand_kept_item-returns-in_ok-value-in-AssignedFunction-clause-runs

pub expand_kept_item-returns-in_ok-value-in-AssignedFunction-clause-locals : goal.expand_kept_item-returns-in_ok-value-in-AssignedFunction-clause-locals
expand_kept_item-returns-in_ok-value-in-AssignedFunction-clause-locals = assigned.expand_kept_item-returns-in_ok-value-in-AssignedFunction-clause-locals

-- ---- core forms by their shapes

pub expand_shape-below-requires : goal.expand_shape-below-requires
expand_shape-below-requires = shapes.expand_shape-below-requires

pub expand_shape-outside-requires : goal.expand_shape-outside-requires
expand_shape-outside-requires = shapes.expand_shape-outside-requires

pub expand_shape-expand_all-requires : goal.expand_shape-expand_all-requires
expand_shape-expand_all-requires = shapes.expand_shape-expand_all-requires

pub expand_shape-lambda-requires : goal.expand_shape-lambda-requires
expand_shape-lambda-requires = shapes.expand_shape-lambda-requires

pub expand_shape-case_lambda-requires : goal.expand_shape-case_lambda-requires
expand_shape-case_lambda-requires = shapes.expand_shape-case_lambda-requires

pub expand_shape-conditional-requires : goal.expand_shape-conditional-requires
expand_shape-conditional-requires = shapes.expand_shape-conditional-requires

pub expand_shape-set-requires : goal.expand_shape-set-requires
expand_shape-set-requires = shapes.expand_shape-set-requires

pub expand_shape-sequence-requires : goal.expand_shape-sequence-requires
expand_shape-sequence-requires = shapes.expand_shape-sequence-requires

pub expand_shape-returns-in_err-below-in-Quasi-clause-runs : goal.expand_shape-returns-in_err-below-in-Quasi-clause-runs
expand_shape-returns-in_err-below-in-Quasi-clause-runs = shapes.expand_shape-returns-in_err-below-in-Quasi-clause-runs

pub expand_shape-returns-in_err-parts-in-Quasi-clause-runs : goal.expand_shape-returns-in_err-parts-in-Quasi-clause-runs
expand_shape-returns-in_err-parts-in-Quasi-clause-runs = shapes.expand_shape-returns-in_err-parts-in-Quasi-clause-runs

pub expand_shape-returns-in-Quasi-clause-runs : goal.expand_shape-returns-in-Quasi-clause-runs
expand_shape-returns-in-Quasi-clause-runs = shapes.expand_shape-returns-in-Quasi-clause-runs

pub expand_shape-returns-in-Lambda-clause-runs : goal.expand_shape-returns-in-Lambda-clause-runs
expand_shape-returns-in-Lambda-clause-runs = shapes.expand_shape-returns-in-Lambda-clause-runs

pub expand_shape-returns-in-CaseLambda-clause-runs : goal.expand_shape-returns-in-CaseLambda-clause-runs
expand_shape-returns-in-CaseLambda-clause-runs = shapes.expand_shape-returns-in-CaseLambda-clause-runs

pub expand_shape-returns-in-If-clause-runs : goal.expand_shape-returns-in-If-clause-runs
expand_shape-returns-in-If-clause-runs = shapes.expand_shape-returns-in-If-clause-runs

pub expand_shape-returns-in-Set-clause-runs : goal.expand_shape-returns-in-Set-clause-runs
expand_shape-returns-in-Set-clause-runs = shapes.expand_shape-returns-in-Set-clause-runs

pub expand_shape-returns-in-Begin-clause-runs : goal.expand_shape-returns-in-Begin-clause-runs
expand_shape-returns-in-Begin-clause-runs = shapes.expand_shape-returns-in-Begin-clause-runs

pub expand_shape-returns-in-Quasi-clause-locals : goal.expand_shape-returns-in-Quasi-clause-locals
expand_shape-returns-in-Quasi-clause-locals = shapes.expand_shape-returns-in-Quasi-clause-locals

pub expand_shape-returns-in-Lambda-clause-locals : goal.expand_shape-returns-in-Lambda-clause-locals
expand_shape-returns-in-Lambda-clause-locals = shapes.expand_shape-returns-in-Lambda-clause-locals

pub expand_shape-returns-in-CaseLambda-clause-locals : goal.expand_shape-returns-in-CaseLambda-clause-locals
expand_shape-returns-in-CaseLambda-clause-locals = shapes.expand_shape-returns-in-CaseLambda-clause-locals

pub expand_shape-returns-in-If-clause-locals : goal.expand_shape-returns-in-If-clause-locals
expand_shape-returns-in-If-clause-locals = shapes.expand_shape-returns-in-If-clause-locals

pub expand_shape-returns-in-Set-clause-locals : goal.expand_shape-returns-in-Set-clause-locals
expand_shape-returns-in-Set-clause-locals = shapes.expand_shape-returns-in-Set-clause-locals

pub expand_shape-returns-in-Begin-clause-locals : goal.expand_shape-returns-in-Begin-clause-locals
expand_shape-returns-in-Begin-clause-locals = shapes.expand_shape-returns-in-Begin-clause-locals

pub expand_shape-returns-in-CondExpand-clause-locals : goal.expand_shape-returns-in-CondExpand-clause-locals
expand_shape-returns-in-CondExpand-clause-locals = shapes.expand_shape-returns-in-CondExpand-clause-locals

pub expand_shape-returns-in-LetSyntax-clause-locals : goal.expand_shape-returns-in-LetSyntax-clause-locals
expand_shape-returns-in-LetSyntax-clause-locals = shapes.expand_shape-returns-in-LetSyntax-clause-locals

pub expand_shape-chosen_forms-requires : goal.expand_shape-chosen_forms-requires
expand_shape-chosen_forms-requires = shapes.expand_shape-chosen_forms-requires

pub expand_shape-returns-in_err-forms-in-CondExpand-clause-runs : goal.expand_shape-returns-in_err-forms-in-CondExpand-clause-runs
expand_shape-returns-in_err-forms-in-CondExpand-clause-runs = shapes.expand_shape-returns-in_err-forms-in-CondExpand-clause-runs

pub expand_shape-sequence-requires-in-CondExpand : goal.expand_shape-sequence-requires-in-CondExpand
expand_shape-sequence-requires-in-CondExpand = shapes.expand_shape-sequence-requires-in-CondExpand

pub expand_shape-returns-in-CondExpand-clause-runs : goal.expand_shape-returns-in-CondExpand-clause-runs
expand_shape-returns-in-CondExpand-clause-runs = shapes.expand_shape-returns-in-CondExpand-clause-runs

pub expand_shape-local_macros-requires : goal.expand_shape-local_macros-requires
expand_shape-local_macros-requires = shapes.expand_shape-local_macros-requires

pub expand_shape-returns-in-LetSyntax-clause-runs : goal.expand_shape-returns-in-LetSyntax-clause-runs
expand_shape-returns-in-LetSyntax-clause-runs = shapes.expand_shape-returns-in-LetSyntax-clause-runs

pub expand_shape-returns-clause-runs : goal.expand_shape-returns-clause-runs
expand_shape-returns-clause-runs = shapes.expand_shape-returns-clause-runs

-- ---- the functions of arms

pub case_lambda-below-requires : goal.case_lambda-below-requires
case_lambda-below-requires = arms.case_lambda-below-requires

pub case_lambda-returns-in_err-below-clause-runs : goal.case_lambda-returns-in_err-below-clause-runs
case_lambda-returns-in_err-below-clause-runs = arms.case_lambda-returns-in_err-below-clause-runs

pub case_lambda-procedures-requires : goal.case_lambda-procedures-requires
case_lambda-procedures-requires = arms.case_lambda-procedures-requires

pub case_lambda-returns-in_err-procedures-clause-runs : goal.case_lambda-returns-in_err-procedures-clause-runs
case_lambda-returns-in_err-procedures-clause-runs = arms.case_lambda-returns-in_err-procedures-clause-runs

pub case_lambda-returns-clause-runs : goal.case_lambda-returns-clause-runs
case_lambda-returns-clause-runs = arms.case_lambda-returns-clause-runs

pub case_lambda-returns-clause-locals : goal.case_lambda-returns-clause-locals
case_lambda-returns-clause-locals = arms.case_lambda-returns-clause-locals

pub conditional-below-requires : goal.conditional-below-requires
conditional-below-requires = arms.conditional-below-requires

pub conditional-returns-in_err-below-clause-runs : goal.conditional-returns-in_err-below-clause-runs
conditional-returns-in_err-below-clause-runs = arms.conditional-returns-in_err-below-clause-runs

pub conditional-expand_all-requires : goal.conditional-expand_all-requires
conditional-expand_all-requires = arms.conditional-expand_all-requires

pub conditional-returns-in_err-expand_all-clause-runs : goal.conditional-returns-in_err-expand_all-clause-runs
conditional-returns-in_err-expand_all-clause-runs = arms.conditional-returns-in_err-expand_all-clause-runs

pub conditional-returns-clause-runs : goal.conditional-returns-clause-runs
conditional-returns-clause-runs = arms.conditional-returns-clause-runs

pub conditional-returns-clause-locals : goal.conditional-returns-clause-locals
conditional-returns-clause-locals = arms.conditional-returns-clause-locals

-- ---- local macros

pub local_macros-returns-in_err-names_of-clause-runs : goal.local_macros-returns-in_err-names_of-clause-runs
local_macros-returns-in_err-names_of-clause-runs = locals.local_macros-returns-in_err-names_of-clause-runs

pub local_macros-bind_names-requires-clause-scope : goal.local_macros-bind_names-requires-clause-scope
local_macros-bind_names-requires-clause-scope = locals.local_macros-bind_names-requires-clause-scope

pub local_macros-bind_names-requires-clause-room : goal.local_macros-bind_names-requires-clause-room
local_macros-bind_names-requires-clause-room = locals.local_macros-bind_names-requires-clause-room

pub local_macros-returns-in_err-scope-clause-runs : goal.local_macros-returns-in_err-scope-clause-runs
local_macros-returns-in_err-scope-clause-runs = locals.local_macros-returns-in_err-scope-clause-runs

pub local_macros-test_all_rules-requires-clause-look : goal.local_macros-test_all_rules-requires-clause-look
local_macros-test_all_rules-requires-clause-look = locals.local_macros-test_all_rules-requires-clause-look

pub local_macros-test_all_rules-requires-clause-rules : goal.local_macros-test_all_rules-requires-clause-rules
local_macros-test_all_rules-requires-clause-rules = locals.local_macros-test_all_rules-requires-clause-rules

pub local_macros-returns-in_err-test_all_rules-clause-runs : goal.local_macros-returns-in_err-test_all_rules-clause-runs
local_macros-returns-in_err-test_all_rules-clause-runs = locals.local_macros-returns-in_err-test_all_rules-clause-runs

pub local_macros-below-requires : goal.local_macros-below-requires
local_macros-below-requires = locals.local_macros-below-requires

pub local_macros-returns-in_err-below-clause-runs : goal.local_macros-returns-in_err-below-clause-runs
local_macros-returns-in_err-below-clause-runs = locals.local_macros-returns-in_err-below-clause-runs

pub local_macros-keep_all-requires-clause-look : goal.local_macros-keep_all-requires-clause-look
local_macros-keep_all-requires-clause-look = locals.local_macros-keep_all-requires-clause-look

pub local_macros-keep_all-requires-clause-opened : goal.local_macros-keep_all-requires-clause-opened
local_macros-keep_all-requires-clause-opened = locals.local_macros-keep_all-requires-clause-opened

pub local_macros-keep_all-requires-clause-rules : goal.local_macros-keep_all-requires-clause-rules
local_macros-keep_all-requires-clause-rules = locals.local_macros-keep_all-requires-clause-rules

pub local_macros-keep_all-requires-clause-binders : goal.local_macros-keep_all-requires-clause-binders
local_macros-keep_all-requires-clause-binders = locals.local_macros-keep_all-requires-clause-binders

pub local_macros-returns-in_err-keep_all-clause-runs : goal.local_macros-returns-in_err-keep_all-clause-runs
local_macros-returns-in_err-keep_all-clause-runs = locals.local_macros-returns-in_err-keep_all-clause-runs

pub local_macros-local_defs-requires : goal.local_macros-local_defs-requires
local_macros-local_defs-requires = locals.local_macros-local_defs-requires

pub local_macros-returns-in_err-macros-clause-runs : goal.local_macros-returns-in_err-macros-clause-runs
local_macros-returns-in_err-macros-clause-runs = locals.local_macros-returns-in_err-macros-clause-runs

pub local_macros-body-requires : goal.local_macros-body-requires
local_macros-body-requires = locals.local_macros-body-requires

pub local_macros-returns-in_err-body-clause-runs : goal.local_macros-returns-in_err-body-clause-runs
local_macros-returns-in_err-body-clause-runs = locals.local_macros-returns-in_err-body-clause-runs

pub local_macros-returns-in_err-new-clause-runs : goal.local_macros-returns-in_err-new-clause-runs
local_macros-returns-in_err-new-clause-runs = locals.local_macros-returns-in_err-new-clause-runs

pub local_macros-returns-clause-runs : goal.local_macros-returns-clause-runs
local_macros-returns-clause-runs = locals.local_macros-returns-clause-runs

pub local_macros-returns-clause-locals : goal.local_macros-returns-clause-locals
local_macros-returns-clause-locals = locals.local_macros-returns-clause-locals

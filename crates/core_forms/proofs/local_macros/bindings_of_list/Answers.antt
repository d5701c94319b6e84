use Rattle.std.proofs.Common.{sym, ap, ◌∙◌}
use Rattle.scheme_model.specs.Trees.{Tail, list}
use Rattle.scheme_model.specs.Ident.{Ident as Identifier}
use Rattle.syntax_tree.proofs.Looking.{no_end, some_end}
use Rattle.core_forms.specs.Parts.{AreBindings}
use Rattle.core_forms.specs.Steps.{bindings_in, bindings_of_list}
use Rattle.core_forms.proofs.Reading.{ends_same}
use Rattle.core_forms.proofs.local_macros.bindings_of_list.Goals as goal

pub returns-then-is_some-clause-read : goal.returns-then-is_some-clause-read
returns-then-is_some-clause-read c = λ t h.
    let l = c.in-List.ensures.look t h in
    ap bindings_of_list (l.3 ∙ ap (λ (x : Tail Identifier). list l.0 x l.2) (some_end c.args.work.now c.in-List.end l.1 (sym c.is_some.ensures ∙ c.if-is_some.true) l.5).1)

pub returns-else-is_some-clause-read : goal.returns-else-is_some-clause-read
returns-else-is_some-clause-read c = λ t h.
    let w = c.args.work.now in
    let l = c.in-List.ensures.look t h in
    let gone = no_end w c.in-List.end l.1 (sym c.is_some.ensures ∙ c.if-is_some.false) l.5 in
    ends_same w (AreBindings w) (bindings_of_list t) (bindings_in l.0) c.bindings_in.result (ap bindings_of_list (l.3 ∙ ap (λ (x : Tail Identifier). list l.0 x l.2) gone)) (c.bindings_in.ensures.read l.0 l.4)

pub returns-else-is_some-clause-named : goal.returns-else-is_some-clause-named
returns-else-is_some-clause-named c = λ region can. c.bindings_in.ensures.named region (c.in-List.ensures.named region can).0

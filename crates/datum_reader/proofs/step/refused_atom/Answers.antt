use Rattle.std.proofs.Common.{◌∙◌, ap, sym, Err, List, length, arith, ◌≡◌, subst}
use Rattle.std.specs.Prelude.{Option}
use Rattle.scheme_model.specs.Faults.{Stop}
use Rattle.datum_reader.specs.declared.open.Frame.{Frame}
use Rattle.datum_reader.specs.Open.{refused}
use Rattle.datum_reader.specs.Views.{leaf_of, data_of}
use Rattle.datum_reader.specs.OpenViews.{spot_of, stack_of, opener_of, Fails, Refuses}
use Rattle.std.proofs.lemmas.Result.{err_from_is_err_and}
use Rattle.datum_reader.proofs.StepLaws.{atoms_top, refused_top, never_refused, none_there, refusal_fails}
use Rattle.datum_reader.proofs.step.refused_atom.Goals as goal

pub returns-in_default : goal.returns-in_default
returns-in_default c =
    let empty : length c.args.state.now.stack.items ≡ 0 = omega (arith, c.in_default.ensures.cases.0, c.args.state.now.stack.ok.0) in
    absurd (never_refused c.args.refusal (subst (λ (fs : List Frame). Refuses (Err c.args.refusal) (refused (stack_of fs) (spot_of c.args.spot))) (none_there c.args.state.now.stack.items empty) c.requires))

pub returns-in-Ended : goal.returns-in-Ended
returns-in-Ended c =
    refusal_fails c.args.refusal _ _ (subst (λ (o : Option Stop). Refuses (Err c.args.refusal) o) (refused_top (spot_of c.args.spot) c.args.state.now.stack.items c.pop.new.self.items c.in-Some.frame _ c.in-Some.ensures.items c.in-Ended.is) c.requires)
    (atoms_top (leaf_of c.args.atom) (spot_of c.args.spot) (data_of c.args.state.now.items.items) c.args.state.now.stack.items c.pop.new.self.items c.in-Some.frame _ c.in-Some.ensures.items c.in-Ended.is)

pub returns-in-List : goal.returns-in-List
returns-in-List c = absurd (never_refused c.args.refusal (subst (λ (o : Option Stop). Refuses (Err c.args.refusal) o) (refused_top (spot_of c.args.spot) c.args.state.now.stack.items c.pop.new.self.items c.in-Some.frame _ c.in-Some.ensures.items c.in-List.is) c.requires))

pub returns-in-Dotted : goal.returns-in-Dotted
returns-in-Dotted c = absurd (never_refused c.args.refusal (subst (λ (o : Option Stop). Refuses (Err c.args.refusal) o) (refused_top (spot_of c.args.spot) c.args.state.now.stack.items c.pop.new.self.items c.in-Some.frame _ c.in-Some.ensures.items c.in-Dotted.is) c.requires))

pub returns-in-Vector : goal.returns-in-Vector
returns-in-Vector c = absurd (never_refused c.args.refusal (subst (λ (o : Option Stop). Refuses (Err c.args.refusal) o) (refused_top (spot_of c.args.spot) c.args.state.now.stack.items c.pop.new.self.items c.in-Some.frame _ c.in-Some.ensures.items c.in-Vector.is) c.requires))

pub returns-in-Mark : goal.returns-in-Mark
returns-in-Mark c = absurd (never_refused c.args.refusal (subst (λ (o : Option Stop). Refuses (Err c.args.refusal) o) (refused_top (spot_of c.args.spot) c.args.state.now.stack.items c.pop.new.self.items c.in-Some.frame _ c.in-Some.ensures.items c.in-Mark.is) c.requires))

pub returns-in-Skip : goal.returns-in-Skip
returns-in-Skip c = absurd (never_refused c.args.refusal (subst (λ (o : Option Stop). Refuses (Err c.args.refusal) o) (refused_top (spot_of c.args.spot) c.args.state.now.stack.items c.pop.new.self.items c.in-Some.frame _ c.in-Some.ensures.items c.in-Skip.is) c.requires))

pub returns-in_err-byte_in-in-Bytes : goal.returns-in_err-byte_in-in-Bytes
returns-in_err-byte_in-in-Bytes c =
    let p = err_from_is_err_and c.from_residual.result c.from_residual.ensures.1 in
    rw (p.1, p.2)
    (subst (λ q. Fails c.in_err-byte_in-in-Bytes.field-0.0 q) (sym (atoms_top (leaf_of c.args.atom) (spot_of c.args.spot) (data_of c.args.state.now.items.items) c.args.state.now.stack.items c.pop.new.self.items c.in-Some.frame _ c.in-Some.ensures.items c.in-Bytes.is)) (c.in_err-byte_in-in-Bytes.ensures _ (ap opener_of c.in-Bytes.is)))

pub returns-in_ok-byte_in-in-Bytes : goal.returns-in_ok-byte_in-in-Bytes
returns-in_ok-byte_in-in-Bytes c = atoms_top (leaf_of c.args.atom) (spot_of c.args.spot) (data_of c.args.state.now.items.items) c.args.state.now.stack.items c.pop.new.self.items c.in-Some.frame _ c.in-Some.ensures.items c.in-Bytes.is ∙ c.in_ok-byte_in-in-Bytes.ensures _ (ap opener_of c.in-Bytes.is)

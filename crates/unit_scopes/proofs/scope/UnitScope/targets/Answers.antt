use Rattle.std.proofs.Common.{◌+◌, List, map, take, None, subst, sym, arith}
use Rattle.std.proofs.lemmas.Option.{slice_get_within}
use Rattle.core_forms.specs.Parts.{IsName}
use Rattle.core_forms.specs.declared.shape.NamePart.{NamePart}
use Rattle.core_tree.specs.Names.{AllMatch, IsTarget}
use Rattle.core_tree.specs.declared.cores.Target.{Target}
use Rattle.unit_scopes.specs.Used.{target_at}
use Rattle.unit_scopes.proofs.MatchLists.{match_at, as_long, all_next, all_done}
use Rattle.unit_scopes.proofs.scope.UnitScope.targets.Goals as goal

abbrev d : NamePart
d = record { ident = 0; occ = None }

pub target-requires-clause-ident : goal.target-requires-clause-ident
target-requires-clause-ident c =
    let work = c.args.work.now in
    let h = match_at (IsName work) c.args.names.now c.requires.names.0 c.loop-name.name-index d c.requires.names.1 c.loop-name-test.true in
    slice_get_within work.symbols.idents _ h.0.name h.2.0

pub loop-name-preserved : goal.loop-name-preserved
loop-name-preserved c = λ ls s fs ns stands at are.
    let work = c.args.work.now in
    let k = c.loop-name.name-index in
    let Q = IsTarget work.symbols s.unit s.form in
    let h = match_at (IsName work) c.args.names.now ns k d are c.loop-name-test.true in
    subst (λ (out : List Target). AllMatch Q out (map (target_at s fs) (take (k + 1) ns))) (sym c.in_ok-push.ensures.items)
    (all_next Q (target_at s fs) k c.loop-name.targets.items ns c.target.result h.0 (c.loop-name.invariant ls s fs ns stands at are) h.1 (c.target.ensures ls s fs h.0 stands at h.2))

pub returns : goal.returns
returns c = λ ls s fs ns stands at are.
    let work = c.args.work.now in
    all_done (IsTarget work.symbols s.unit s.form) (target_at s fs) c.loop-name.name-index c.loop-name.targets.items ns
    (omega (arith, as_long (IsName work) c.args.names.now ns are, c.loop-name-test.false)) (c.loop-name.invariant ls s fs ns stands at are)

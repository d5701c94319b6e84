-- What calls leave of a work adds up, and units stand in a work that has grown.
use Rattle.std.proofs.Common.{◌≡◌, ℕ, ◌<◌, List, [], ◌∷◌, length, Some, sym, ap, ◌∙◌, subst, inl, arith}
use Rattle.std.proofs.lemmas.Option.{slice_get_within}
use Rattle.std.specs.FinMap as map
use Rattle.scheme_model.specs.Order.{Note}
use Rattle.scheme_model.specs.ScopedExpansion.{Frames, FramedIdent, ScopedState}
use Rattle.syntax_tree.specs.Names.{KeepsNames, AreToldApart}
use Rattle.syntax_tree.specs.Works.{KeepsTrees}
use Rattle.syntax_tree.specs.declared.trees.Work.{Work}
use Rattle.syntax_tree.specs.declared.trees.table.Region.{Region}
use Rattle.unit_scopes.specs.Forgotten.{AllOwn}
use Rattle.unit_scopes.specs.Outcomes.{Grows}
use Rattle.unit_scopes.specs.Units.{UnitStands}
use Rattle.unit_scopes.specs.declared.scope.UnitScope.{UnitScope}
use Rattle.unit_scopes.proofs.ImportLaws.{same_trees}
use Rattle.unit_scopes.proofs.GrowthStands.{growth_rests}
use Rattle.unit_scopes.proofs.NotesStand.{notes_on}
use Rattle.unit_scopes.proofs.OutcomeLaws.{grows_on}

pub stands_on : (old new : Work) → KeepsTrees old new → KeepsNames old.symbols new.symbols → AreToldApart new.symbols.idents → AreToldApart new.symbols.symbols →
    (u : UnitScope) (ls : List Frames) (s : ScopedState) (notes : List (Note FramedIdent)) → UnitStands old u ls s notes → UnitStands new u ls s notes
stands_on old new trees names apart told u ls s notes h = record {
  rests = growth_rests old new trees names apart told u ls s h.rests;
  notes = notes_on old new ls ls names (λ n fs at. at) u.asked notes apart h.notes;
}

-- names alone were added
pub grows_named : (a b : Work) (region : Region) → b.trees ≡ a.trees → KeepsNames a.symbols b.symbols → Grows a b region
grows_named a b region same names = record {
  trees = same_trees a b same names;
  names = names;
  regions = record { identity = ap (λ t. t.identity) same; regions = ap (λ t. t.regions) same };
  added = λ n l h. inl (ap (λ t. map.get t.nodes n) (sym same) ∙ h);
}

-- names were added twice
pub grows_twice : (a b c : Work) (r : Region) → b.trees ≡ a.trees → KeepsNames a.symbols b.symbols → c.trees ≡ b.trees → KeepsNames b.symbols c.symbols → Grows a c r
grows_twice a b c r first names next more = grows_on a b c r (grows_named a b r first names) (grows_named b c r next more)

-- the open unit's own scope is the only one
pub own_alone : (work : Work) (u : UnitScope) (s : ScopedState) (notes : List (Note FramedIdent)) → UnitStands work u ([] ∷ []) s notes → AllOwn u
own_alone work u s notes h n within =
    let e = h.rests in
    let one : 1 ≡ length u.env.scopes = e.env.count in
    let root : u.root < 1 = slice_get_within ([] ∷ []) u.root [] e.root in
    let same : u.root ≡ n = omega (arith, within, one, root) in
    (u.unit, subst (λ (k : ℕ). map.get u.env.roots u.unit ≡ Some k) same e.own)

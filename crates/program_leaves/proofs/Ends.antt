-- Tails by number, and what stands at a place of a list.
use Rattle.std.proofs.Common.{◌≡◌, ◌≤◌, ℕ, zero, suc, List, [], ◌∷◌, length, get_or, true, false, Option, Some, None, refl, subst, arith, nat_lt}
use Rattle.std.specs.Prelude.{slice_get}
use Rattle.std.proofs.lemmas.Bool.Decides.{nat_tests}
use Rattle.std.proofs.lemmas.Option.{same_Some, slice_get_read}
use Rattle.scheme_model.specs.Trees.{Tree, Tail, proper, dotted}
use Rattle.scheme_model.specs.Measures.{tail_depth}
use Rattle.scheme_model.specs.Ident.{Ident as Identifier}
use Rattle.syntax_tree.specs.Looks.{EndStands, EndWithin, StandsWithin}
use Rattle.syntax_tree.specs.Works.{StandsFor}
use Rattle.syntax_tree.specs.declared.trees.Work.{Work}
use Rattle.syntax_tree.specs.declared.trees.nodes.Tree as number

-- the tree of a tail
pub end_tree : (work : Work) (end : Option number.Tree) (n : number.Tree) (tail : Tail Identifier) → end ≡ Some n → EndStands work end tail → (t : Tree Identifier) × (tail ≡ dotted t) × StandsFor work n t
end_tree work None n tail e h = absurd cc
end_tree work (Some m) n proper e h = absurd h
end_tree work (Some m) n (dotted t) e h = (t, refl, subst (λ (x : number.Tree). StandsFor work x t) (same_Some m n e) h.1)

pub end_part : (work : Work) (end : Option number.Tree) (n : number.Tree) (d : ℕ) → end ≡ Some n → EndWithin work end d → StandsWithin work n d
end_part work end n d e h =
    let t = end_tree work end n h.0 e h.1 in
    let below : tail_depth (dotted t.0) ≤ d = subst (λ (x : Tail Identifier). tail_depth x ≤ d) t.1 h.2 in
    (t.0, t.2, below)

pub get_none : {X : Type 0} (xs : List X) (i : ℕ) → nat_lt i (length xs) ≡ false → slice_get xs i ≡ None
get_none [] i h = refl
get_none (x ∷ xs) zero h = absurd (grind (arith, nat_tests))
get_none (x ∷ xs) (suc i) h = get_none xs i (grind (arith, nat_tests))

pub get_some : {X : Type 0} (xs : List X) (i : ℕ) (x : X) → nat_lt i (length xs) ≡ true → x ≡ get_or xs i x → slice_get xs i ≡ Some x
get_some xs i x h e = slice_get_read xs (length xs) i x refl (grind (arith, nat_tests)) e

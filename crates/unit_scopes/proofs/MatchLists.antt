-- Lists that match one by one, as far as a loop has come.
use Rattle.std.proofs.Common.{◌≡◌, ℕ, zero, suc, ◌+◌, ◌<◌, ◌≤◌, List, [], ◌∷◌, ◌++◌, map, length, take, get_or, slice_get, Some, refl, sym, ap, subst, arith, add-one}
use Rattle.std.proofs.lemmas.List.{take_all}
use Rattle.std.proofs.lemmas.Option.{same_Some}
use Rattle.scheme_model.specs.Ident.{Ident as Identifier}
use Rattle.scheme_model.specs.ExpansionFaults.{Named}
use Rattle.scheme_model.specs.Leaves.{Leaf}
use Rattle.scheme_model.specs.Trees.{name}
use Rattle.syntax_tree.specs.Names.{Names}
use Rattle.syntax_tree.specs.Macros.{IsIdent, AreLeaves}
use Rattle.syntax_tree.specs.Works.{StandsFor}
use Rattle.syntax_tree.specs.declared.rules.IdPair.{IdPair}
use Rattle.syntax_tree.specs.declared.trees.Work.{Work}
use Rattle.syntax_tree.specs.declared.trees.nodes.Tree as number
use Rattle.syntax_tree.proofs.Places.{none_some}
use Rattle.rules_check.specs.Gathered.{IsLeaf}
use Rattle.rules_check.specs.Gathered as gathered
use Rattle.rules_check.specs.declared.leaf.RuleLeaf.{RuleLeaf}
use Rattle.rules_match.specs.Matches.{ArePairs}
use Rattle.core_tree.specs.Names.{AllMatch}

-- ---- one by one

-- what one stands for
pub match_at : {X Y : Type 0} (R : X → Y → Type 0) (xs : List X) (ys : List Y) (k : ℕ) (d : X) → AllMatch R xs ys → k < length xs → (y : Y) × (slice_get ys k ≡ Some y) × R (get_or xs k d) y
match_at R [] [] k d h lt = absurd (omega arith)
match_at R [] (y ∷ ys) k d h lt = absurd h
match_at R (x ∷ xs) [] k d h lt = absurd h
match_at R (x ∷ xs) (y ∷ ys) zero d h lt = (y, refl, h.0)
match_at R (x ∷ xs) (y ∷ ys) (suc k) d h lt = match_at R xs ys k d h.1 (omega arith)

pub as_long : {X Y : Type 0} (R : X → Y → Type 0) (xs : List X) (ys : List Y) → AllMatch R xs ys → length ys ≡ length xs
as_long R [] [] h = refl
as_long R [] (y ∷ ys) h = absurd h
as_long R (x ∷ xs) [] h = absurd h
as_long R (x ∷ xs) (y ∷ ys) h = ap suc (as_long R xs ys h.1)

module _ {Y Z W : Type 0} (Q : Z → W → Type 0) (f : Y → W) where
  none_yet : (out : List Z) (ys : List Y) (z : Z) (y : Y) → AllMatch Q out [] → slice_get ys 0 ≡ Some y → Q z (f y) → AllMatch Q (out ++ z ∷ []) (map f (take 1 ys))
  none_yet [] [] z y h at q = none_some y at
  none_yet [] (w ∷ ys) z y h at q = (subst (λ (v : Y). Q z (f v)) (sym (same_Some w y at)) q, tt)
  none_yet (o ∷ out) ys z y h at q = absurd h

  next_by : (k : ℕ) (out : List Z) (ys : List Y) (z : Z) (y : Y) → AllMatch Q out (map f (take k ys)) → slice_get ys k ≡ Some y → Q z (f y) → AllMatch Q (out ++ z ∷ []) (map f (take (suc k) ys))
  next_by zero out ys z y h at q = none_yet out ys z y h at q
  next_by (suc k) out [] z y h at q = none_some y at
  next_by (suc k) [] (w ∷ ys) z y h at q = absurd h
  next_by (suc k) (o ∷ out) (w ∷ ys) z y h at q = (h.0, next_by k out ys z y h.1 at q)

  -- one more
  pub all_next : (k : ℕ) (out : List Z) (ys : List Y) (z : Z) (y : Y) → AllMatch Q out (map f (take k ys)) → slice_get ys k ≡ Some y → Q z (f y) → AllMatch Q (out ++ z ∷ []) (map f (take (k + 1) ys))
  all_next k out ys z y h at q = subst (λ (n : ℕ). AllMatch Q (out ++ z ∷ []) (map f (take n ys))) (sym (add-one k)) (next_by k out ys z y h at q)

  -- all of them
  pub all_done : (n : ℕ) (out : List Z) (ys : List Y) → length ys ≤ n → AllMatch Q out (map f (take n ys)) → AllMatch Q out (map f ys)
  all_done n out ys h = subst (λ (vs : List Y). AllMatch Q out (map f vs)) (take_all n ys h)

-- ---- lists of the code

abbrev pub IsPair : Work → IdPair → Identifier × Identifier → Type 0
IsPair work p q = IsIdent work.symbols p.literal q.0 × IsIdent work.symbols p.ident q.1

pub pairs_match : (work : Work) (ps : List IdPair) (qs : List (Identifier × Identifier)) → ArePairs work ps qs → AllMatch (IsPair work) ps qs
pairs_match work [] [] h = tt
pairs_match work [] (q ∷ qs) h = absurd h
pairs_match work (p ∷ ps) [] h = absurd h
pairs_match work (p ∷ ps) (q ∷ qs) h = ((h.0, h.1), pairs_match work ps qs h.2)

abbrev pub IsNameAt : Work → number.Tree → Named Identifier → Type 0
IsNameAt work n i = StandsFor work n (name i.name i.occ)

pub names_match : (work : Work) (ns : List number.Tree) (is : List (Named Identifier)) → AreLeaves work ns is → AllMatch (IsNameAt work) ns is
names_match work [] [] h = tt
names_match work [] (i ∷ is) h = absurd h
names_match work (n ∷ ns) [] h = absurd h
names_match work (n ∷ ns) (i ∷ is) h = (h.0, names_match work ns is h.1)

pub leaves_match : (names : Names) (ls : List RuleLeaf) (ms : List (Leaf Identifier)) → gathered.AreLeaves names ls ms → AllMatch (IsLeaf names) ls ms
leaves_match names [] [] h = tt
leaves_match names [] (m ∷ ms) h = absurd h
leaves_match names (l ∷ ls) [] h = absurd h
leaves_match names (l ∷ ls) (m ∷ ms) h = (h.0, leaves_match names ls ms h.1)

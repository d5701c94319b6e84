-- How the calls of matching end.
use Rattle.std.specs.Prelude.{◌≡◌, ℕ, List, [], ◌∷◌, ◌++◌, Bool, false, ◌&&◌, Option, Some, None, slice_get, Result, Ok, Err, Vec}
use Rattle.std.specs.declared.alloc.Global.{Global}
use Rattle.std.specs.List.{list_any}
use Rattle.std.specs.Option.{option_map_or}
use Rattle.scheme_model.specs.Trees.{Tree, name, atom, list, vector, Trees, no_trees, tree, Tail}
use Rattle.scheme_model.specs.RulesShape.{Role, Rules, role_of, dots_of}
use Rattle.scheme_model.specs.Matching.{Chosen, matcher, first_match, chosen, can_take, pairs_among, pairs_behind, compared}
use Rattle.scheme_model.specs.Ident.{Ident as Identifier, same_ident}
use Rattle.syntax_tree.specs.Names.{Names}
use Rattle.syntax_tree.specs.Macros.{identifiers, IsIdent, MatchedFor}
use Rattle.syntax_tree.specs.declared.trees.Work.{Work}
use Rattle.syntax_tree.specs.declared.rules.IdPair.{IdPair}
use Rattle.syntax_tree.specs.declared.rules.Matched as code
use Rattle.rules_match.specs.declared.fault.MatchFault.{MatchFault}
use Rattle.rules_match.specs.declared.fault.MatchFault.TheVariants as fault

-- ---- which literals mean the same as which identifiers

-- the number is of this identifier
abbrev pub is_ident : Names → ℕ → Identifier → Bool
is_ident names n i = option_map_or (λ (j : Identifier). same_ident j i) (slice_get names.idents n) false

-- the literal and the identifier are one of the pairs that are handed in
abbrev pub means_same : Work → List IdPair → Identifier → Identifier → Bool
means_same work pairs i j = list_any (λ (p : IdPair). is_ident work.symbols p.literal i && is_ident work.symbols p.ident j) pairs

-- ---- a use of a macro

-- the first rule that matches what stands behind the head of the form
abbrev pub match_in : Rules Identifier → (Identifier → Identifier → Bool) → Tree Identifier → Option (Chosen Identifier Identifier)
match_in r same (name i o) = None
match_in r same (atom a o) = None
match_in r same (vector ts o) = None
match_in r same (list no_trees tail o) = None
match_in r same (list (tree head ts) tail o) = first_match (matcher identifiers r same) r.rules ts tail

-- the literals that are compared
abbrev pub compared_in : Rules Identifier → Tree Identifier → List (Identifier × Identifier)
compared_in r (name i o) = []
compared_in r (atom a o) = []
compared_in r (vector ts o) = []
compared_in r (list no_trees tail o) = []
compared_in r (list (tree head ts) tail o) = compared (role_of identifiers r) (dots_of identifiers r) r.rules ts tail

-- the literals of the parts and the tail of a pattern, where it can take the length and the tail of a list
abbrev pub pairs_where : (Identifier → Role) → (Identifier → Bool) → Trees Identifier → Tail Identifier → Trees Identifier → Tail Identifier → List (Identifier × Identifier)
pairs_where role dots ps tail ts end = chosen (can_take dots ps tail ts end) (λ u. pairs_among role dots ps (pairs_behind role dots tail) ts end) (λ u. [])

-- ---- how the calls end

-- the numbers of these pairs, in order
abbrev pub ArePairs : Work → List IdPair → List (Identifier × Identifier) → Type 0
ArePairs work [] [] = Unit {0}
ArePairs work [] (q ∷ qs) = ⊥
ArePairs work (p ∷ ps) [] = ⊥
ArePairs work (p ∷ ps) (q ∷ qs) = IsIdent work.symbols p.literal q.0 × IsIdent work.symbols p.ident q.1 × ArePairs work ps qs

-- these pairs were added
pub record AddsPairs (work : Work) (old new : Vec IdPair Global) (qs : List (Identifier × Identifier)) : Type 0 where
  pub pairs : List IdPair
  pub added : new.items ≡ old.items ++ pairs
  pub are : ArePairs work pairs qs

-- the match of the first rule that matches, or no rule
abbrev pub Matches : Work → Rules Identifier → Option (Chosen Identifier Identifier) → Result code.Matched MatchFault → Type 0
Matches work r s (Ok matched) = (m : Chosen Identifier Identifier) × (s ≡ Some m) × MatchedFor work matched r m
Matches work r s (Err fault.NoRule) = s ≡ None
Matches work r s (Err fault.Memory) = Unit {0}

-- Rows of matching and of literal comparisons, worked by hand from R7RS 4.3.2; each is checked by computing it.
use Rattle.std.proofs.Common.{◌≡◌, ℕ, List, [], ◌∷◌, Bool, true, ◌&&◌, Option, Some, None, refl, codes}
use Rattle.std.specs.List.{list_any}
use Rattle.scheme_model.specs.Trees.{Numeral, Quoted, Character, Boolean, Bytes, name, atom, list, vector, no_trees, tree, proper, dotted}
use Rattle.scheme_model.specs.ExpansionFaults.{Named, named}
use Rattle.scheme_model.specs.RulesShape.{Rule}
use Rattle.scheme_model.specs.Matching.{One, Many, no_values, value, Binding, match_of, Chosen}
use Rattle.scheme_model.specs.Ident.{Ident as Identifier, Written, same_ident}
use Rattle.rules_match.specs.Matches.{match_in, compared_in}

-- an identifier of these characters
abbrev id : List ℕ → Identifier
id s = Written 0 s

-- the pairs that mean the same
abbrev same_by : List (Identifier × Identifier) → Identifier → Identifier → Bool
same_by ps i j = list_any (λ (p : Identifier × Identifier). same_ident p.0 i && same_ident p.1 j) ps

abbrev matched : Rule Identifier → List (Binding Identifier Identifier) → List (Named Identifier) → Option (Chosen Identifier Identifier)
matched rule bindings met = Some (record { rule = rule; match = match_of bindings met })

match-1 : match_in (record { ellipsis = None; literals = []; rules = (record { parts = (tree (name (id (codes "a")) None) no_trees); tail = proper; template = (atom (Numeral (codes "1")) None) }) ∷ (record { parts = (tree (name (id (codes "b")) None) no_trees); tail = proper; template = (atom (Numeral (codes "2")) None) }) ∷ [] }) (same_by ([])) (list (tree (name (id (codes "m")) None) (tree (name (id (codes "x")) None) no_trees)) proper None) ≡ matched (record { parts = (tree (name (id (codes "a")) None) no_trees); tail = proper; template = (atom (Numeral (codes "1")) None) }) (record { variable = (id (codes "a")); value = (One (name (id (codes "x")) None)) } ∷ []) ([])
match-1 = refl

match-2 : match_in (record { ellipsis = None; literals = []; rules = (record { parts = (tree (name (id (codes "a")) None) no_trees); tail = proper; template = (atom (Numeral (codes "1")) None) }) ∷ (record { parts = (tree (name (id (codes "a")) None) (tree (name (id (codes "b")) None) no_trees)); tail = proper; template = (atom (Numeral (codes "2")) None) }) ∷ [] }) (same_by ([])) (list (tree (name (id (codes "m")) None) (tree (name (id (codes "x")) None) (tree (name (id (codes "y")) None) no_trees))) proper None) ≡ matched (record { parts = (tree (name (id (codes "a")) None) (tree (name (id (codes "b")) None) no_trees)); tail = proper; template = (atom (Numeral (codes "2")) None) }) (record { variable = (id (codes "a")); value = (One (name (id (codes "x")) None)) } ∷ record { variable = (id (codes "b")); value = (One (name (id (codes "y")) None)) } ∷ []) ([])
match-2 = refl

match-3 : match_in (record { ellipsis = None; literals = []; rules = (record { parts = (tree (name (id (codes "a")) None) no_trees); tail = proper; template = (atom (Numeral (codes "1")) None) }) ∷ [] }) (same_by ([])) (list (tree (name (id (codes "m")) None) no_trees) proper None) ≡ None
match-3 = refl

match-4 : match_in (record { ellipsis = None; literals = []; rules = (record { parts = (tree (name (id (codes "a")) None) no_trees); tail = proper; template = (atom (Numeral (codes "1")) None) }) ∷ [] }) (same_by ([])) (list (tree (name (id (codes "m")) None) (tree (name (id (codes "x")) None) (tree (name (id (codes "y")) None) no_trees))) proper None) ≡ None
match-4 = refl

match-5 : match_in (record { ellipsis = None; literals = []; rules = (record { parts = (tree (name (id (codes "a")) None) no_trees); tail = proper; template = (atom (Numeral (codes "1")) None) }) ∷ [] }) (same_by ([])) (list (tree (name (id (codes "m")) None) (tree (name (id (codes "x")) None) no_trees)) (dotted (name (id (codes "y")) None)) None) ≡ None
match-5 = refl

match-6 : match_in (record { ellipsis = None; literals = []; rules = (record { parts = (tree (name (id (codes "_")) None) (tree (name (id (codes "_")) None) no_trees)); tail = proper; template = (atom (Numeral (codes "1")) None) }) ∷ [] }) (same_by ([])) (list (tree (name (id (codes "m")) None) (tree (name (id (codes "x")) None) (tree (name (id (codes "y")) None) no_trees))) proper None) ≡ matched (record { parts = (tree (name (id (codes "_")) None) (tree (name (id (codes "_")) None) no_trees)); tail = proper; template = (atom (Numeral (codes "1")) None) }) ([]) ([])
match-6 = refl

match-7 : match_in (record { ellipsis = None; literals = []; rules = (record { parts = (tree (name (id (codes "a")) None) (tree (name (id (codes "...")) None) (tree (name (id (codes "z")) None) no_trees))); tail = proper; template = (atom (Numeral (codes "1")) None) }) ∷ [] }) (same_by ([])) (list (tree (name (id (codes "m")) None) (tree (atom (Numeral (codes "1")) None) (tree (atom (Numeral (codes "2")) None) (tree (atom (Numeral (codes "3")) None) no_trees)))) proper None) ≡ matched (record { parts = (tree (name (id (codes "a")) None) (tree (name (id (codes "...")) None) (tree (name (id (codes "z")) None) no_trees))); tail = proper; template = (atom (Numeral (codes "1")) None) }) (record { variable = (id (codes "a")); value = (Many (value (One (atom (Numeral (codes "1")) None)) (value (One (atom (Numeral (codes "2")) None)) no_values))) } ∷ record { variable = (id (codes "z")); value = (One (atom (Numeral (codes "3")) None)) } ∷ []) ([])
match-7 = refl

match-8 : match_in (record { ellipsis = None; literals = []; rules = (record { parts = (tree (name (id (codes "a")) None) (tree (name (id (codes "...")) None) (tree (name (id (codes "z")) None) no_trees))); tail = proper; template = (atom (Numeral (codes "1")) None) }) ∷ [] }) (same_by ([])) (list (tree (name (id (codes "m")) None) no_trees) proper None) ≡ None
match-8 = refl

match-9 : match_in (record { ellipsis = None; literals = []; rules = (record { parts = (tree (name (id (codes "a")) None) (tree (name (id (codes "...")) None) (tree (name (id (codes "z")) None) no_trees))); tail = proper; template = (atom (Numeral (codes "1")) None) }) ∷ [] }) (same_by ([])) (list (tree (name (id (codes "m")) None) (tree (atom (Numeral (codes "1")) None) no_trees)) proper None) ≡ matched (record { parts = (tree (name (id (codes "a")) None) (tree (name (id (codes "...")) None) (tree (name (id (codes "z")) None) no_trees))); tail = proper; template = (atom (Numeral (codes "1")) None) }) (record { variable = (id (codes "a")); value = (Many no_values) } ∷ record { variable = (id (codes "z")); value = (One (atom (Numeral (codes "1")) None)) } ∷ []) ([])
match-9 = refl

match-10 : match_in (record { ellipsis = None; literals = []; rules = (record { parts = (tree (list (tree (name (id (codes "a")) None) (tree (name (id (codes "b")) None) (tree (name (id (codes "...")) None) no_trees))) proper None) (tree (name (id (codes "...")) None) no_trees)); tail = proper; template = (atom (Numeral (codes "1")) None) }) ∷ [] }) (same_by ([])) (list (tree (name (id (codes "m")) None) (tree (list (tree (atom (Numeral (codes "1")) None) (tree (atom (Numeral (codes "2")) None) (tree (atom (Numeral (codes "3")) None) no_trees))) proper None) (tree (list (tree (atom (Numeral (codes "4")) None) no_trees) proper None) no_trees))) proper None) ≡ matched (record { parts = (tree (list (tree (name (id (codes "a")) None) (tree (name (id (codes "b")) None) (tree (name (id (codes "...")) None) no_trees))) proper None) (tree (name (id (codes "...")) None) no_trees)); tail = proper; template = (atom (Numeral (codes "1")) None) }) (record { variable = (id (codes "a")); value = (Many (value (One (atom (Numeral (codes "1")) None)) (value (One (atom (Numeral (codes "4")) None)) no_values))) } ∷ record { variable = (id (codes "b")); value = (Many (value (Many (value (One (atom (Numeral (codes "2")) None)) (value (One (atom (Numeral (codes "3")) None)) no_values))) (value (Many no_values) no_values))) } ∷ []) ([])
match-10 = refl

match-11 : match_in (record { ellipsis = None; literals = []; rules = (record { parts = (tree (list (tree (name (id (codes "a")) None) (tree (name (id (codes "b")) None) (tree (name (id (codes "...")) None) no_trees))) proper None) (tree (name (id (codes "...")) None) no_trees)); tail = proper; template = (atom (Numeral (codes "1")) None) }) ∷ [] }) (same_by ([])) (list (tree (name (id (codes "m")) None) no_trees) proper None) ≡ matched (record { parts = (tree (list (tree (name (id (codes "a")) None) (tree (name (id (codes "b")) None) (tree (name (id (codes "...")) None) no_trees))) proper None) (tree (name (id (codes "...")) None) no_trees)); tail = proper; template = (atom (Numeral (codes "1")) None) }) (record { variable = (id (codes "a")); value = (Many no_values) } ∷ record { variable = (id (codes "b")); value = (Many no_values) } ∷ []) ([])
match-11 = refl

match-12 : match_in (record { ellipsis = None; literals = []; rules = (record { parts = (tree (list (tree (name (id (codes "a")) None) (tree (name (id (codes "b")) None) (tree (name (id (codes "...")) None) no_trees))) proper None) (tree (name (id (codes "...")) None) no_trees)); tail = proper; template = (atom (Numeral (codes "1")) None) }) ∷ [] }) (same_by ([])) (list (tree (name (id (codes "m")) None) (tree (list (tree (atom (Numeral (codes "1")) None) no_trees) proper None) (tree (list no_trees proper None) no_trees))) proper None) ≡ None
match-12 = refl

match-13 : match_in (record { ellipsis = None; literals = []; rules = (record { parts = (tree (name (id (codes "a")) None) (tree (name (id (codes "...")) None) no_trees)); tail = (dotted (name (id (codes "r")) None)); template = (atom (Numeral (codes "1")) None) }) ∷ [] }) (same_by ([])) (list (tree (name (id (codes "m")) None) (tree (atom (Numeral (codes "1")) None) (tree (atom (Numeral (codes "2")) None) no_trees))) (dotted (atom (Numeral (codes "3")) None)) None) ≡ matched (record { parts = (tree (name (id (codes "a")) None) (tree (name (id (codes "...")) None) no_trees)); tail = (dotted (name (id (codes "r")) None)); template = (atom (Numeral (codes "1")) None) }) (record { variable = (id (codes "a")); value = (Many (value (One (atom (Numeral (codes "1")) None)) (value (One (atom (Numeral (codes "2")) None)) no_values))) } ∷ record { variable = (id (codes "r")); value = (One (atom (Numeral (codes "3")) None)) } ∷ []) ([])
match-13 = refl

match-14 : match_in (record { ellipsis = None; literals = []; rules = (record { parts = (tree (name (id (codes "a")) None) (tree (name (id (codes "...")) None) no_trees)); tail = (dotted (name (id (codes "r")) None)); template = (atom (Numeral (codes "1")) None) }) ∷ [] }) (same_by ([])) (list (tree (name (id (codes "m")) None) (tree (atom (Numeral (codes "1")) None) (tree (atom (Numeral (codes "2")) None) no_trees))) proper None) ≡ matched (record { parts = (tree (name (id (codes "a")) None) (tree (name (id (codes "...")) None) no_trees)); tail = (dotted (name (id (codes "r")) None)); template = (atom (Numeral (codes "1")) None) }) (record { variable = (id (codes "a")); value = (Many (value (One (atom (Numeral (codes "1")) None)) (value (One (atom (Numeral (codes "2")) None)) no_values))) } ∷ record { variable = (id (codes "r")); value = (One (list no_trees proper None)) } ∷ []) ([])
match-14 = refl

match-15 : match_in (record { ellipsis = None; literals = []; rules = (record { parts = (tree (name (id (codes "a")) None) no_trees); tail = (dotted (name (id (codes "r")) None)); template = (atom (Numeral (codes "1")) None) }) ∷ [] }) (same_by ([])) (list (tree (name (id (codes "m")) None) (tree (atom (Numeral (codes "1")) None) (tree (atom (Numeral (codes "2")) None) (tree (atom (Numeral (codes "3")) None) no_trees)))) proper None) ≡ matched (record { parts = (tree (name (id (codes "a")) None) no_trees); tail = (dotted (name (id (codes "r")) None)); template = (atom (Numeral (codes "1")) None) }) (record { variable = (id (codes "a")); value = (One (atom (Numeral (codes "1")) None)) } ∷ record { variable = (id (codes "r")); value = (One (list (tree (atom (Numeral (codes "2")) None) (tree (atom (Numeral (codes "3")) None) no_trees)) proper None)) } ∷ []) ([])
match-15 = refl

match-16 : match_in (record { ellipsis = None; literals = []; rules = (record { parts = (tree (name (id (codes "a")) None) no_trees); tail = (dotted (name (id (codes "r")) None)); template = (atom (Numeral (codes "1")) None) }) ∷ [] }) (same_by ([])) (list (tree (name (id (codes "m")) None) (tree (atom (Numeral (codes "1")) None) (tree (atom (Numeral (codes "2")) None) no_trees))) (dotted (atom (Numeral (codes "3")) None)) None) ≡ matched (record { parts = (tree (name (id (codes "a")) None) no_trees); tail = (dotted (name (id (codes "r")) None)); template = (atom (Numeral (codes "1")) None) }) (record { variable = (id (codes "a")); value = (One (atom (Numeral (codes "1")) None)) } ∷ record { variable = (id (codes "r")); value = (One (list (tree (atom (Numeral (codes "2")) None) no_trees) (dotted (atom (Numeral (codes "3")) None)) None)) } ∷ []) ([])
match-16 = refl

match-17 : match_in (record { ellipsis = None; literals = []; rules = (record { parts = (tree (name (id (codes "a")) None) no_trees); tail = (dotted (name (id (codes "r")) None)); template = (atom (Numeral (codes "1")) None) }) ∷ [] }) (same_by ([])) (list (tree (name (id (codes "m")) None) (tree (atom (Numeral (codes "1")) None) no_trees)) proper None) ≡ matched (record { parts = (tree (name (id (codes "a")) None) no_trees); tail = (dotted (name (id (codes "r")) None)); template = (atom (Numeral (codes "1")) None) }) (record { variable = (id (codes "a")); value = (One (atom (Numeral (codes "1")) None)) } ∷ record { variable = (id (codes "r")); value = (One (list no_trees proper None)) } ∷ []) ([])
match-17 = refl

match-18 : match_in (record { ellipsis = None; literals = []; rules = (record { parts = (tree (list (tree (name (id (codes "a")) None) no_trees) (dotted (name (id (codes "r")) None)) None) (tree (name (id (codes "...")) None) no_trees)); tail = proper; template = (atom (Numeral (codes "1")) None) }) ∷ [] }) (same_by ([])) (list (tree (name (id (codes "m")) None) (tree (list (tree (atom (Numeral (codes "1")) None) (tree (atom (Numeral (codes "2")) None) no_trees)) proper None) (tree (list (tree (atom (Numeral (codes "3")) None) no_trees) proper None) no_trees))) proper None) ≡ matched (record { parts = (tree (list (tree (name (id (codes "a")) None) no_trees) (dotted (name (id (codes "r")) None)) None) (tree (name (id (codes "...")) None) no_trees)); tail = proper; template = (atom (Numeral (codes "1")) None) }) (record { variable = (id (codes "a")); value = (Many (value (One (atom (Numeral (codes "1")) None)) (value (One (atom (Numeral (codes "3")) None)) no_values))) } ∷ record { variable = (id (codes "r")); value = (Many (value (One (list (tree (atom (Numeral (codes "2")) None) no_trees) proper None)) (value (One (list no_trees proper None)) no_values))) } ∷ []) ([])
match-18 = refl

match-19 : match_in (record { ellipsis = None; literals = []; rules = (record { parts = (tree (name (id (codes "a")) None) no_trees); tail = (dotted (vector (tree (name (id (codes "r")) None) no_trees) None)); template = (atom (Numeral (codes "1")) None) }) ∷ [] }) (same_by ([])) (list (tree (name (id (codes "m")) None) (tree (atom (Numeral (codes "1")) None) no_trees)) (dotted (vector (tree (atom (Numeral (codes "2")) None) no_trees) None)) None) ≡ matched (record { parts = (tree (name (id (codes "a")) None) no_trees); tail = (dotted (vector (tree (name (id (codes "r")) None) no_trees) None)); template = (atom (Numeral (codes "1")) None) }) (record { variable = (id (codes "a")); value = (One (atom (Numeral (codes "1")) None)) } ∷ record { variable = (id (codes "r")); value = (One (atom (Numeral (codes "2")) None)) } ∷ []) ([])
match-19 = refl

match-20 : match_in (record { ellipsis = None; literals = []; rules = (record { parts = (tree (name (id (codes "a")) None) no_trees); tail = (dotted (atom (Numeral (codes "5")) None)); template = (atom (Numeral (codes "1")) None) }) ∷ [] }) (same_by ([])) (list (tree (name (id (codes "m")) None) (tree (atom (Numeral (codes "1")) None) no_trees)) (dotted (atom (Numeral (codes "5")) None)) None) ≡ matched (record { parts = (tree (name (id (codes "a")) None) no_trees); tail = (dotted (atom (Numeral (codes "5")) None)); template = (atom (Numeral (codes "1")) None) }) (record { variable = (id (codes "a")); value = (One (atom (Numeral (codes "1")) None)) } ∷ []) ([])
match-20 = refl

match-21 : match_in (record { ellipsis = None; literals = []; rules = (record { parts = (tree (vector (tree (name (id (codes "a")) None) (tree (name (id (codes "...")) None) (tree (name (id (codes "z")) None) no_trees))) None) no_trees); tail = proper; template = (atom (Numeral (codes "1")) None) }) ∷ [] }) (same_by ([])) (list (tree (name (id (codes "m")) None) (tree (vector (tree (atom (Numeral (codes "1")) None) (tree (atom (Numeral (codes "2")) None) (tree (atom (Numeral (codes "3")) None) no_trees))) None) no_trees)) proper None) ≡ matched (record { parts = (tree (vector (tree (name (id (codes "a")) None) (tree (name (id (codes "...")) None) (tree (name (id (codes "z")) None) no_trees))) None) no_trees); tail = proper; template = (atom (Numeral (codes "1")) None) }) (record { variable = (id (codes "a")); value = (Many (value (One (atom (Numeral (codes "1")) None)) (value (One (atom (Numeral (codes "2")) None)) no_values))) } ∷ record { variable = (id (codes "z")); value = (One (atom (Numeral (codes "3")) None)) } ∷ []) ([])
match-21 = refl

match-22 : match_in (record { ellipsis = None; literals = []; rules = (record { parts = (tree (vector (tree (name (id (codes "a")) None) no_trees) None) no_trees); tail = proper; template = (atom (Numeral (codes "1")) None) }) ∷ [] }) (same_by ([])) (list (tree (name (id (codes "m")) None) (tree (list (tree (atom (Numeral (codes "1")) None) no_trees) proper None) no_trees)) proper None) ≡ None
match-22 = refl

match-23 : match_in (record { ellipsis = None; literals = []; rules = (record { parts = (tree (atom (Numeral (codes "5")) None) (tree (atom (Quoted (codes "s")) None) (tree (atom (Character 97) None) (tree (atom (Boolean true) None) (tree (atom (Bytes (codes "1")) None) no_trees))))); tail = proper; template = (atom (Numeral (codes "1")) None) }) ∷ [] }) (same_by ([])) (list (tree (name (id (codes "m")) None) (tree (atom (Numeral (codes "5")) None) (tree (atom (Quoted (codes "s")) None) (tree (atom (Character 97) None) (tree (atom (Boolean true) None) (tree (atom (Bytes (codes "1")) None) no_trees)))))) proper None) ≡ matched (record { parts = (tree (atom (Numeral (codes "5")) None) (tree (atom (Quoted (codes "s")) None) (tree (atom (Character 97) None) (tree (atom (Boolean true) None) (tree (atom (Bytes (codes "1")) None) no_trees))))); tail = proper; template = (atom (Numeral (codes "1")) None) }) ([]) ([])
match-23 = refl

match-24 : match_in (record { ellipsis = None; literals = []; rules = (record { parts = (tree (atom (Numeral (codes "5")) None) no_trees); tail = proper; template = (atom (Numeral (codes "1")) None) }) ∷ [] }) (same_by ([])) (list (tree (name (id (codes "m")) None) (tree (atom (Numeral (codes "6")) None) no_trees)) proper None) ≡ None
match-24 = refl

match-25 : match_in (record { ellipsis = None; literals = []; rules = (record { parts = (tree (atom (Numeral (codes "5")) None) no_trees); tail = proper; template = (atom (Numeral (codes "1")) None) }) ∷ [] }) (same_by ([])) (list (tree (name (id (codes "m")) None) (tree (atom (Quoted (codes "5")) None) no_trees)) proper None) ≡ None
match-25 = refl

match-26 : match_in (record { ellipsis = None; literals = []; rules = (record { parts = (tree (atom (Numeral (codes "5")) None) no_trees); tail = proper; template = (atom (Numeral (codes "1")) None) }) ∷ [] }) (same_by ([])) (list (tree (name (id (codes "m")) None) (tree (name (id (codes "x")) None) no_trees)) proper None) ≡ None
match-26 = refl

match-27 : match_in (record { ellipsis = None; literals = (named (id (codes "else")) None) ∷ []; rules = (record { parts = (tree (list (tree (name (id (codes "else")) None) (tree (name (id (codes "e")) None) no_trees)) proper None) no_trees); tail = proper; template = (atom (Numeral (codes "1")) None) }) ∷ [] }) (same_by (((id (codes "else")), (id (codes "else"))) ∷ [])) (list (tree (name (id (codes "m")) None) (tree (list (tree (name (id (codes "else")) None) (tree (atom (Numeral (codes "5")) None) no_trees)) proper None) no_trees)) proper None) ≡ matched (record { parts = (tree (list (tree (name (id (codes "else")) None) (tree (name (id (codes "e")) None) no_trees)) proper None) no_trees); tail = proper; template = (atom (Numeral (codes "1")) None) }) (record { variable = (id (codes "e")); value = (One (atom (Numeral (codes "5")) None)) } ∷ []) (named (id (codes "else")) None ∷ [])
match-27 = refl

match-28 : match_in (record { ellipsis = None; literals = (named (id (codes "else")) None) ∷ []; rules = (record { parts = (tree (list (tree (name (id (codes "else")) None) (tree (name (id (codes "e")) None) no_trees)) proper None) no_trees); tail = proper; template = (atom (Numeral (codes "1")) None) }) ∷ [] }) (same_by ([])) (list (tree (name (id (codes "m")) None) (tree (list (tree (name (id (codes "else")) None) (tree (atom (Numeral (codes "5")) None) no_trees)) proper None) no_trees)) proper None) ≡ None
match-28 = refl

match-29 : match_in (record { ellipsis = None; literals = (named (id (codes "else")) None) ∷ []; rules = (record { parts = (tree (list (tree (name (id (codes "else")) None) (tree (name (id (codes "e")) None) no_trees)) proper None) no_trees); tail = proper; template = (atom (Numeral (codes "1")) None) }) ∷ [] }) (same_by (((id (codes "else")), (id (codes "x"))) ∷ [])) (list (tree (name (id (codes "m")) None) (tree (list (tree (name (id (codes "x")) None) (tree (atom (Numeral (codes "5")) None) no_trees)) proper None) no_trees)) proper None) ≡ matched (record { parts = (tree (list (tree (name (id (codes "else")) None) (tree (name (id (codes "e")) None) no_trees)) proper None) no_trees); tail = proper; template = (atom (Numeral (codes "1")) None) }) (record { variable = (id (codes "e")); value = (One (atom (Numeral (codes "5")) None)) } ∷ []) (named (id (codes "x")) None ∷ [])
match-29 = refl

match-30 : match_in (record { ellipsis = None; literals = (named (id (codes "a")) None) ∷ []; rules = (record { parts = (tree (list (tree (name (id (codes "a")) None) (tree (name (id (codes "x")) None) no_trees)) proper None) (tree (name (id (codes "...")) None) no_trees)); tail = proper; template = (atom (Numeral (codes "1")) None) }) ∷ [] }) (same_by (((id (codes "a")), (id (codes "a"))) ∷ [])) (list (tree (name (id (codes "m")) None) (tree (list (tree (name (id (codes "a")) None) (tree (atom (Numeral (codes "1")) None) no_trees)) proper None) (tree (list (tree (name (id (codes "a")) None) (tree (atom (Numeral (codes "2")) None) no_trees)) proper None) no_trees))) proper None) ≡ matched (record { parts = (tree (list (tree (name (id (codes "a")) None) (tree (name (id (codes "x")) None) no_trees)) proper None) (tree (name (id (codes "...")) None) no_trees)); tail = proper; template = (atom (Numeral (codes "1")) None) }) (record { variable = (id (codes "x")); value = (Many (value (One (atom (Numeral (codes "1")) None)) (value (One (atom (Numeral (codes "2")) None)) no_values))) } ∷ []) (named (id (codes "a")) None ∷ named (id (codes "a")) None ∷ [])
match-30 = refl

match-31 : match_in (record { ellipsis = None; literals = (named (id (codes "...")) None) ∷ []; rules = (record { parts = (tree (name (id (codes "...")) None) no_trees); tail = proper; template = (atom (Numeral (codes "1")) None) }) ∷ [] }) (same_by (((id (codes "...")), (id (codes "..."))) ∷ [])) (list (tree (name (id (codes "m")) None) (tree (name (id (codes "...")) None) no_trees)) proper None) ≡ matched (record { parts = (tree (name (id (codes "...")) None) no_trees); tail = proper; template = (atom (Numeral (codes "1")) None) }) ([]) (named (id (codes "...")) None ∷ [])
match-31 = refl

match-32 : match_in (record { ellipsis = None; literals = (named (id (codes "a")) None) ∷ []; rules = (record { parts = no_trees; tail = (dotted (name (id (codes "a")) None)); template = (atom (Numeral (codes "1")) None) }) ∷ [] }) (same_by (((id (codes "a")), (id (codes "a"))) ∷ [])) (list (tree (name (id (codes "m")) None) no_trees) (dotted (name (id (codes "a")) None)) None) ≡ matched (record { parts = no_trees; tail = (dotted (name (id (codes "a")) None)); template = (atom (Numeral (codes "1")) None) }) ([]) (named (id (codes "a")) None ∷ [])
match-32 = refl

match-33 : match_in (record { ellipsis = None; literals = (named (id (codes "a")) None) ∷ []; rules = (record { parts = no_trees; tail = (dotted (name (id (codes "a")) None)); template = (atom (Numeral (codes "1")) None) }) ∷ [] }) (same_by (((id (codes "a")), (id (codes "a"))) ∷ ((id (codes "a")), (id (codes "b"))) ∷ [])) (list (tree (name (id (codes "m")) None) (tree (name (id (codes "b")) None) no_trees)) proper None) ≡ None
match-33 = refl

pairs-34 : compared_in (record { ellipsis = None; literals = (named (id (codes "else")) None) ∷ []; rules = (record { parts = (tree (list (tree (name (id (codes "else")) None) (tree (name (id (codes "e")) None) no_trees)) proper None) no_trees); tail = proper; template = (atom (Numeral (codes "1")) None) }) ∷ [] }) (list (tree (name (id (codes "m")) None) (tree (list (tree (name (id (codes "x")) None) (tree (atom (Numeral (codes "1")) None) no_trees)) proper None) no_trees)) proper None) ≡ ((id (codes "else")), (id (codes "x"))) ∷ []
pairs-34 = refl

pairs-35 : compared_in (record { ellipsis = None; literals = (named (id (codes "else")) None) ∷ []; rules = (record { parts = (tree (list (tree (name (id (codes "else")) None) (tree (name (id (codes "e")) None) no_trees)) proper None) no_trees); tail = proper; template = (atom (Numeral (codes "1")) None) }) ∷ (record { parts = (tree (atom (Numeral (codes "5")) None) (tree (name (id (codes "else")) None) no_trees)); tail = proper; template = (atom (Numeral (codes "1")) None) }) ∷ (record { parts = (tree (list (tree (name (id (codes "e")) None) (tree (name (id (codes "else")) None) no_trees)) proper None) no_trees); tail = proper; template = (atom (Numeral (codes "1")) None) }) ∷ [] }) (list (tree (name (id (codes "m")) None) (tree (list (tree (name (id (codes "x")) None) (tree (name (id (codes "y")) None) no_trees)) proper None) no_trees)) proper None) ≡ ((id (codes "else")), (id (codes "x"))) ∷ ((id (codes "else")), (id (codes "y"))) ∷ []
pairs-35 = refl

pairs-36 : compared_in (record { ellipsis = None; literals = (named (id (codes "else")) None) ∷ []; rules = (record { parts = (tree (list (tree (name (id (codes "else")) None) (tree (name (id (codes "e")) None) no_trees)) proper None) no_trees); tail = proper; template = (atom (Numeral (codes "1")) None) }) ∷ [] }) (list (tree (name (id (codes "m")) None) (tree (list (tree (name (id (codes "x")) None) (tree (atom (Numeral (codes "1")) None) no_trees)) proper None) (tree (atom (Numeral (codes "2")) None) no_trees))) proper None) ≡ []
pairs-36 = refl

pairs-37 : compared_in (record { ellipsis = None; literals = (named (id (codes "else")) None) ∷ []; rules = (record { parts = (tree (atom (Numeral (codes "5")) None) (tree (name (id (codes "else")) None) no_trees)); tail = proper; template = (atom (Numeral (codes "1")) None) }) ∷ [] }) (list (tree (name (id (codes "m")) None) (tree (atom (Numeral (codes "6")) None) (tree (name (id (codes "x")) None) no_trees))) proper None) ≡ ((id (codes "else")), (id (codes "x"))) ∷ []
pairs-37 = refl

pairs-38 : compared_in (record { ellipsis = None; literals = (named (id (codes "else")) None) ∷ []; rules = (record { parts = (tree (list (tree (atom (Numeral (codes "5")) None) (tree (name (id (codes "else")) None) no_trees)) proper None) (tree (name (id (codes "...")) None) (tree (name (id (codes "z")) None) no_trees))); tail = proper; template = (atom (Numeral (codes "1")) None) }) ∷ [] }) (list (tree (name (id (codes "m")) None) (tree (list (tree (atom (Numeral (codes "6")) None) (tree (name (id (codes "x")) None) no_trees)) proper None) (tree (list (tree (atom (Numeral (codes "7")) None) (tree (name (id (codes "y")) None) no_trees)) proper None) (tree (list (tree (atom (Numeral (codes "8")) None) (tree (name (id (codes "u")) None) no_trees)) proper None) no_trees)))) proper None) ≡ ((id (codes "else")), (id (codes "x"))) ∷ ((id (codes "else")), (id (codes "y"))) ∷ []
pairs-38 = refl

pairs-39 : compared_in (record { ellipsis = None; literals = (named (id (codes "else")) None) ∷ []; rules = (record { parts = (tree (name (id (codes "else")) None) no_trees); tail = proper; template = (atom (Numeral (codes "1")) None) }) ∷ [] }) (list (tree (name (id (codes "m")) None) (tree (atom (Numeral (codes "5")) None) no_trees)) proper None) ≡ []
pairs-39 = refl

pairs-40 : compared_in (record { ellipsis = None; literals = (named (id (codes "else")) None) ∷ []; rules = (record { parts = (tree (name (id (codes "a")) None) no_trees); tail = (dotted (name (id (codes "else")) None)); template = (atom (Numeral (codes "1")) None) }) ∷ [] }) (list (tree (name (id (codes "m")) None) (tree (atom (Numeral (codes "1")) None) no_trees)) (dotted (name (id (codes "x")) None)) None) ≡ ((id (codes "else")), (id (codes "x"))) ∷ []
pairs-40 = refl

pairs-41 : compared_in (record { ellipsis = None; literals = (named (id (codes "else")) None) ∷ []; rules = (record { parts = (tree (name (id (codes "a")) None) no_trees); tail = (dotted (name (id (codes "else")) None)); template = (atom (Numeral (codes "1")) None) }) ∷ [] }) (list (tree (name (id (codes "m")) None) (tree (atom (Numeral (codes "1")) None) (tree (name (id (codes "x")) None) no_trees))) proper None) ≡ []
pairs-41 = refl

pairs-42 : compared_in (record { ellipsis = None; literals = (named (id (codes "else")) None) ∷ []; rules = (record { parts = (tree (vector (tree (name (id (codes "else")) None) no_trees) None) no_trees); tail = proper; template = (atom (Numeral (codes "1")) None) }) ∷ [] }) (list (tree (name (id (codes "m")) None) (tree (vector (tree (name (id (codes "x")) None) no_trees) None) no_trees)) proper None) ≡ ((id (codes "else")), (id (codes "x"))) ∷ []
pairs-42 = refl
